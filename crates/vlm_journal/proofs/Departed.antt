-- What a node is answered behind its departure.
use Rattle.std.proofs.Common.{◌≡◌, ◌<◌, ℕ, zero, suc, List, [], ◌∷◌, ◌++◌, Some, refl, sym, ap, ◌∙◌, subst, arith, inl, inr}
use Rattle.std.specs.List.{AllByRecursion, slice_get}
use Rattle.std.proofs.lemmas.List.Elements.{All-from_recursion}
use Rattle.vlm_model.proofs.Each.{each_append}
use Rattle.std.proofs.lemmas.Option.{slice_get_within}
use Rattle.vlm_words.specs.declared.conditions.Cond.TheVariants.{Departed as departed_cond, Normal}
use Rattle.vlm_words.specs.declared.steps.Answer.TheVariants.{Plain}
use Rattle.vlm_words.specs.declared.steps.Answer.{Answer}
use Rattle.vlm_words.specs.declared.steps.Step.TheVariants.{Declare, SetValue, Enq, Convert, Deq, Rundown, Leave, Search, Take}
use Rattle.vlm_words.specs.declared.steps.Step.{Step}
use Rattle.vlm_model.specs.Reasons.{HasDeparted}
use Rattle.vlm_model.specs.Runs.{History, Run, history_after, next as run_next}
use Rattle.vlm_words.specs.State.{State, start}
use Rattle.vlm_model.specs.Stepped.{Outcome, outcome_endings, outcome_queued}
use Rattle.vlm_words.specs.Steps.{node_of}
use Rattle.vlm_model.specs.Departing.{DepartedNodesAreToldSo, HasLeft, IsDeparture, IsStepOf}
use Rattle.vlm_model.specs.Happened.{HasHappened}
use Rattle.vlm_model.proofs.LongerRuns.{all_answered, happened_before, happened_now}
use Rattle.vlm_journal.specs.declared.entries.Entry.{Entry}
use Rattle.vlm_journal.specs.Accounts.{GoesOn}
use Rattle.vlm_journal.specs.Departed.{IsAnsweredDeparted, ShowsDeparture, StaysDeparted}
use Rattle.vlm_journal.specs.Journals.{IsAllowed, Journal, JournalFrom, answers_of, begin, next, steps_of}
use Rattle.vlm_journal.proofs.Joining.{join, last_of, run_of}
use Rattle.vlm_journal.proofs.Lists.{by_place}

-- what an entry of a journal is has happened
has_happened : (P : Step → Answer → Type 0) (entries : List Entry) (i : ℕ) (entry : Entry) → slice_get entries i ≡ Some entry
    → P entry.step entry.answer → HasHappened P (steps_of entries) (answers_of entries)
has_happened P [] i entry at is = cc
has_happened P (x ∷ xs) zero entry at is = inl (subst (λ (e : Entry). P e.step e.answer) (sym (same x entry at)) is)
  where
    same : (a b : Entry) → Some a ≡ Some b → a ≡ b
    same a b h = cc
has_happened P (x ∷ xs) (suc i) entry at is = inr (has_happened P xs i entry at is)

-- a step of the node is one that names it, or a process of it
step_of : (node : ℕ) (step : Step) → node_of step ≡ node → IsStepOf node step
step_of node (Declare d) is = is
step_of node (SetValue v) is = is
step_of node (Enq e) is = is
step_of node (Convert c) is = is
step_of node (Deq d) is = is
step_of node (Rundown pid) is = is
step_of node (Leave other) is = is
step_of node (Search other) is = is
step_of node (Take pid) is = is

module _ (law : (history : History) (last : State) → Run history last → DepartedNodesAreToldSo history last) where
  -- the entry behind a journal in which its node has left
  told_so : {entries : List Entry} {old new : State} (node i : ℕ) (leaving entry : Entry) → Journal entries old
      → IsAllowed entry → Outcome old entry.step new entry.answer
      → 0 < node → slice_get entries i ≡ Some leaving → leaving.step ≡ Leave node → leaving.answer ≡ Plain Normal → entry.sender ≡ node
      → entry.answer ≡ Plain departed_cond
  told_so node i leaving entry journal (inl hubs) outcome some at step answer sender = absurd (omega (arith, some, hubs.0, sender))
  told_so {entries} {old} {new} node i leaving entry journal (inr posts) outcome some at step answer sender =
      let legal = run_of start journal in
      let left : HasLeft node (steps_of entries) (answers_of entries) = has_happened (IsDeparture node) entries i leaving at (step, answer) in
      let then : HasLeft node legal.history.steps legal.history.answers =
      subst (λ (ss : List Step). HasLeft node ss legal.history.answers) (sym legal.taken)
      (subst (λ (xs : List Answer). HasLeft node (steps_of entries) xs) (sym legal.answered) left) in
      ((law legal.history old legal.run).told node then entry.step (step_of node entry.step (posts.2.0 ∙ sender)) new entry.answer outcome).answered

  pub departed_from : {entries : List Entry} {last : State} → Journal entries last → (node : ℕ) → 0 < node → IsAnsweredDeparted node entries
  departed_from begin node some i j leaving entry lt at_i at_j step answer sender = cc
  departed_from (next {entries} {old} {new} {entry = last} journal allowed outcome) node some i j leaving entry lt at_i at_j step answer sender =
      elim (by_place entries last entry j at_j) [
        | inl before_j ↦ elim (by_place entries last leaving i at_i) [
          | inl before_i ↦ departed_from journal node some i j leaving entry lt before_i before_j step answer sender
          | inr e ↦ absurd (let w = slice_get_within entries j entry before_j in omega (arith, w, lt, e.0))
        ]
        | inr e ↦ elim (by_place entries last leaving i at_i) [
          | inl before_i ↦
              sym (ap (λ (x : Entry). x.answer) e.1)
              ∙ told_so node i leaving last journal allowed outcome some before_i step answer (ap (λ (x : Entry). x.sender) e.1 ∙ sender)
          | inr e2 ↦ absurd (omega (arith, lt, e.0, e2.0))
        ]
      ]

  -- where a node left in a run, it has departed behind it, and behind one step more
  left_before : (history : History) (old new : State) (step : Step) (answer : Answer) → Run history old → Outcome old step new answer
      → (node : ℕ) → HasLeft node history.steps history.answers → HasDeparted new node
  left_before history old new step answer run outcome node left =
      ((law (history_after history step answer (outcome_endings outcome) (outcome_queued outcome)) new (run_next run outcome)).departed node).1
      (happened_before (IsDeparture node) history.steps history.answers step answer left)

  -- an entry that shows a departure leads to a state in which the node has departed
  shown : (history : History) (old new : State) (entry : Entry) → Run history old → Outcome old entry.step new entry.answer
      → (node : ℕ) → ShowsDeparture node entry → HasDeparted new node
  shown history old new entry run outcome node (step, inl answer) =
      ((law (history_after history entry.step entry.answer (outcome_endings outcome) (outcome_queued outcome)) new (run_next run outcome)).departed node).1
      (happened_now (IsDeparture node) history.steps history.answers entry.step entry.answer (all_answered history old run) (step, answer))
  shown history old new entry run outcome node (step, inr answer) =
      let late : Outcome old (Leave node) new (Plain departed_cond) =
      subst (λ (s : Step). Outcome old s new (Plain departed_cond)) step (subst (λ (a : Answer). Outcome old entry.step new a) answer outcome) in
      let found = (law history old run).only (Leave node) new late in
      left_before history old new entry.step entry.answer run outcome node
      (subst (λ n. HasLeft n history.steps history.answers) (sym found.1) found.2)

  pub departs_by : {base : ℕ} {last : State} (entries : List Entry) (entry : Entry) → GoesOn base (entries ++ entry ∷ []) last
      → (node : ℕ) → ShowsDeparture node entry → HasDeparted last node
  departs_by {last = last} entries entry journaled node shows =
      let parts = last_of journaled.cut entries entry journaled.since refl in
      let legal = run_of start (join start journaled.before entries journaled.handed_out parts.1) in
      shown legal.history parts.0 last entry legal.run parts.3 node shows

  -- one entry more behind a departure
  told_behind : {entries : List Entry} {old new : State} (entry : Entry) → Journal entries old → IsAllowed entry → Outcome old entry.step new entry.answer
      → (node : ℕ) → HasDeparted old node → HasDeparted new node × (entry.sender ≡ node → entry.answer ≡ Plain departed_cond)
  told_behind {entries} {old} {new} entry journal allowed outcome node gone =
      let legal = run_of start journal in
      let left : HasLeft node legal.history.steps legal.history.answers = ((law legal.history old legal.run).departed node).0 gone in
      (left_before legal.history old new entry.step entry.answer legal.run outcome node left, of_sender legal.history legal.run left allowed)
    where
      of_sender : (history : History) → Run history old → HasLeft node history.steps history.answers → IsAllowed entry
          → entry.sender ≡ node → entry.answer ≡ Plain departed_cond
      of_sender history run left (inl hubs) sender = let some : 0 < node = gone.0 in absurd (omega (arith, some, hubs.0, sender))
      of_sender history run left (inr posts) sender =
          ((law history old run).told node left entry.step (step_of node entry.step (posts.2.0 ∙ sender)) new entry.answer outcome).answered

  behind_each : {entries : List Entry} {between : State} → Journal entries between → (node : ℕ) → HasDeparted between node
      → {more : List Entry} {last : State} → JournalFrom between more last
      → HasDeparted last node × AllByRecursion (λ (entry : Entry). entry.sender ≡ node → entry.answer ≡ Plain departed_cond) more
  behind_each journal node gone begin = (gone, tt)
  behind_each {entries} {between} journal node gone (next {entries = more} {old} {entry = entry} rest allowed outcome) =
      let before = behind_each journal node gone rest in
      let here = told_behind entry (join start entries more journal rest) allowed outcome node before.0 in
      (here.0, each_append (λ (e : Entry). e.sender ≡ node → e.answer ≡ Plain departed_cond) more (entry ∷ []) before.1 (here.1, tt))

  pub stays_departed : {base : ℕ} {entries more : List Entry} {between last : State} → GoesOn base entries between → JournalFrom between more last
      → (node : ℕ) → HasDeparted between node → StaysDeparted node more last
  stays_departed {entries = entries} {more} journaled journal node gone =
      let both = behind_each (join start journaled.before entries journaled.handed_out journaled.since) node gone journal in
      record {
        departed = both.0;
        told = All-from_recursion (λ (e : Entry). e.sender ≡ node → e.answer ≡ Plain departed_cond) more both.1;
      }
