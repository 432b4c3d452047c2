-- A journaled core goes on with a legal journal.
use Rattle.std.proofs.Common.{◌≡◌, ◌+◌, ◌-◌, ◌^◌, ℕ, List, [], ◌∷◌, ◌++◌, length, refl, sym, ap, ◌∙◌, arith, Some, min}
use Rattle.std.proofs.lemmas.List.{length-append}
use Rattle.vlm_words.specs.declared.steps.Answer.{Answer}
use Rattle.vlm_words.specs.declared.steps.Step.TheVariants.{Take}
use Rattle.vlm_model.specs.Pending.{first_pending}
use Rattle.vlm_model.specs.Runs.{History, Run}
use Rattle.vlm_words.specs.State.{State, start}
use Rattle.vlm_model.specs.Stepped.{Outcome}
use Rattle.vlm_journal.specs.Accounts.{GoesOn}
use Rattle.vlm_journal.specs.declared.entries.Entry.{Entry}
use Rattle.vlm_journal.specs.Delivery.{GivesAst}
use Rattle.vlm_journal.specs.Journals.{IsAllowed, JournalFrom, begin, next}
use Rattle.vlm_journal.proofs.Joining.{join, run_of}

-- at the start
pub begins : GoesOn 0 [] start
begins = record { before = []; counted = refl; cut = start; handed_out = begin; since = begin }

-- with one entry more
pub goes_on : {base : ℕ} {entries : List Entry} {old new : State} (entry : Entry) → GoesOn base entries old
    → IsAllowed entry → Outcome old entry.step new entry.answer
    → GoesOn base (entries ++ entry ∷ []) new
goes_on entry journaled allowed outcome = record {
  before = journaled.before;
  counted = journaled.counted;
  cut = journaled.cut;
  handed_out = journaled.handed_out;
  since = next journaled.since allowed outcome;
}

-- as many as were handed out, and these
pub counts_on : (before entries most : ℕ) → min (min before most + entries) most ≡ min (before + entries) most
counts_on before entries most = grind arith

-- behind a cut
pub goes_on_behind : {base : ℕ} {entries : List Entry} {last : State} → GoesOn base entries last → GoesOn (min (base + length entries) (2 ^ 64 - 1)) [] last
goes_on_behind {base} {entries} {last} journaled = record {
  before = journaled.before ++ entries;
  counted =
      ap (λ n. min (n + length entries) (2 ^ 64 - 1)) journaled.counted
      ∙ counts_on (length journaled.before) (length entries) (2 ^ 64 - 1)
      ∙ ap (λ n. min n (2 ^ 64 - 1)) (sym (length-append journaled.before entries));
  cut = last;
  handed_out = join start journaled.before entries journaled.handed_out journaled.since;
  since = begin;
}

-- where an AST is pending for a node, a take of its process answers one
pub delivers : {base : ℕ} {entries : List Entry} {last new : State} {node pid : ℕ} {answer : Answer}
    → ((history : History) (s : State) → Run history s → (node pid : ℕ) → first_pending node s.processes ≡ Some pid
    → (t : State) (a : Answer) → Outcome s (Take pid) t a → GivesAst node pid a)
    → GoesOn base entries last → first_pending node last.processes ≡ Some pid → Outcome last (Take pid) new answer → GivesAst node pid answer
delivers {entries = entries} {last} {new} {node} {pid} {answer} law journaled pending outcome =
    let legal = run_of start (join start journaled.before entries journaled.handed_out journaled.since) in
    law legal.history last legal.run node pid pending new answer outcome

-- one entry leads from the state before it to that behind it
pub one_leads : {old new : State} (entry : Entry) → IsAllowed entry → Outcome old entry.step new entry.answer → JournalFrom old (entry ∷ []) new
one_leads entry allowed outcome = next begin allowed outcome
