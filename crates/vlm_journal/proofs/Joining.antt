-- Journals behind one another, and journals as runs.
use Rattle.std.proofs.Common.{◌≡◌, List, [], ◌∷◌, ◌++◌, refl, sym, ap, ◌∙◌, subst, append_assoc, append-nil}
use Rattle.std.specs.Prelude.{All}
use Rattle.std.specs.List.{AllByRecursion}
use Rattle.std.proofs.lemmas.List.{map-append}
use Rattle.std.proofs.lemmas.List.Elements.{recursion_from_All}
use Rattle.vlm_words.specs.declared.steps.Answer.{Answer}
use Rattle.vlm_words.specs.declared.steps.Step.{Step}
use Rattle.vlm_model.specs.Runs.{History, Legal, RunFrom, begin as run_begin, history_after, next as run_next, no_history}
use Rattle.vlm_words.specs.State.{State}
use Rattle.vlm_model.specs.Stepped.{Outcome, outcome_endings, outcome_queued}
use Rattle.vlm_model.proofs.Each.{each_append}
use Rattle.vlm_journal.specs.declared.entries.Entry.{Entry}
use Rattle.vlm_journal.specs.Journals.{IsAllowed, JournalFrom, answers_of, begin, next, steps_of}

-- ---- lists by their last element

-- a list is empty, or has a last element
data Ended {X : Type 0} : List X → Type 0 where
  empty : Ended []
  ended : (xs : List X) (x : X) → Ended (xs ++ x ∷ [])

one_before : {X : Type 0} (y : X) (ys : List X) → Ended ys → Ended (y ∷ ys)
one_before y _ empty = ended [] y
one_before y _ (ended xs x) = ended (y ∷ xs) x

by_end : {X : Type 0} (xs : List X) → Ended xs
by_end [] = empty
by_end (x ∷ xs) = one_before x xs (by_end xs)

-- lists with one element behind them are not empty, and are the same where they and the elements are
not_empty : {X : Type 0} (xs : List X) (x : X) → xs ++ x ∷ [] ≡ [] → ⊥
not_empty [] x is = cc
not_empty (y ∷ xs) x is = cc

same_end : {X : Type 0} (xs ys : List X) (x y : X) → xs ++ x ∷ [] ≡ ys ++ y ∷ [] → (xs ≡ ys) × (x ≡ y)
same_end [] [] x y is = (refl, cc)
same_end [] (b ∷ ys) x y is = absurd (not_empty ys y (tails is))
  where
    tails : x ∷ [] ≡ b ∷ (ys ++ y ∷ []) → ys ++ y ∷ [] ≡ []
    tails h = cc
same_end (a ∷ xs) [] x y is = absurd (not_empty xs x (tails is))
  where
    tails : a ∷ (xs ++ x ∷ []) ≡ y ∷ [] → xs ++ x ∷ [] ≡ []
    tails h = cc
same_end (a ∷ xs) (b ∷ ys) x y is =
    let rest = same_end xs ys x y (tails is) in (heads is rest.0, rest.1)
  where
    tails : a ∷ (xs ++ x ∷ []) ≡ b ∷ (ys ++ y ∷ []) → xs ++ x ∷ [] ≡ ys ++ y ∷ []
    tails h = cc

    heads : a ∷ (xs ++ x ∷ []) ≡ b ∷ (ys ++ y ∷ []) → xs ≡ ys → a ∷ xs ≡ b ∷ ys
    heads h same = cc

-- ---- journals behind one another

module _ (first : State) where
  pub join : {mid last : State} (before behind : List Entry) → JournalFrom first before mid
      → JournalFrom mid behind last → JournalFrom first (before ++ behind) last
  join {mid} before _ one begin = subst (λ (es : List Entry). JournalFrom first es mid) (sym (append-nil before)) one
  join {last = last} before _ one (next {entries} {entry = entry} two allowed outcome) =
      subst (λ (es : List Entry). JournalFrom first es last) (append_assoc before entries (entry ∷ []))
      (next (join before entries one two) allowed outcome)

  -- what a journal is where it has these entries
  abbrev Parts : List Entry → List Entry → State → Type 0
  Parts before behind last = (between : State) × JournalFrom first before between × JournalFrom between behind last

  part_all : {all : List Entry} {last : State} (before behind : List Entry) → Ended behind → JournalFrom first all last → all ≡ before ++ behind
      → Parts before behind last
  part_all {all} {last} before _ empty journal is =
      (last, subst (λ (es : List Entry). JournalFrom first es last) (is ∙ append-nil before) journal, begin)
  part_all before _ (ended xs x) begin is = absurd (not_empty (before ++ xs) x (append_assoc before xs (x ∷ []) ∙ sym is))
  part_all {last = last} before _ (ended xs x) (next {entries} {old} {entry = entry} journal allowed outcome) is =
      let same = same_end entries (before ++ xs) entry x (is ∙ sym (append_assoc before xs (x ∷ []))) in
      let parts = part_all before xs (by_end xs) journal same.0 in
      (parts.0, parts.1, subst (λ (e : Entry). JournalFrom parts.0 (xs ++ e ∷ []) last) same.1 (next parts.2 allowed outcome))

  pub part : {last : State} (before behind : List Entry) → JournalFrom first (before ++ behind) last → Parts before behind last
  part before behind journal = part_all before behind (by_end behind) journal refl

  -- the last entry of a journal, and the journal before it
  pub last_of : {all : List Entry} {last : State} (before : List Entry) (x : Entry) → JournalFrom first all last → all ≡ before ++ x ∷ []
      → (old : State) × JournalFrom first before old × IsAllowed x × Outcome old x.step last x.answer
  last_of before x begin is = absurd (not_empty before x (sym is))
  last_of {last = last} before x (next {entries} {old} {entry = entry} journal allowed outcome) is =
      let same = same_end entries before entry x is in (
        old,
        subst (λ (es : List Entry). JournalFrom first es old) same.0 journal,
        subst IsAllowed same.1 allowed,
        subst (λ (e : Entry). Outcome old e.step last e.answer) same.1 outcome,
      )

  -- ---- journals as runs

  pub run_of : {entries : List Entry} {last : State} → JournalFrom first entries last → Legal first (steps_of entries) (answers_of entries) last
  run_of begin = record { history = no_history; run = run_begin; taken = refl; answered = refl }
  run_of (next {entries} {old} {new} {entry} journal allowed outcome) =
      let before = run_of journal in
      record {
        history = history_after before.history entry.step entry.answer (outcome_endings outcome) (outcome_queued outcome);
        run = run_next before.run outcome;
        taken = ap (λ (steps : List Step). steps ++ entry.step ∷ []) before.taken ∙ sym (map-append (λ (e : Entry). e.step) entries (entry ∷ []));
        answered = ap (λ (answers : List Answer). answers ++ entry.answer ∷ []) before.answered
            ∙ sym (map-append (λ (e : Entry). e.answer) entries (entry ∷ []));
      }

  pub allowed_of : {entries : List Entry} {last : State} → JournalFrom first entries last → AllByRecursion IsAllowed entries
  allowed_of begin = tt
  allowed_of (next {entries} {entry = entry} journal allowed outcome) = each_append IsAllowed entries (entry ∷ []) (allowed_of journal) (allowed, tt)

  each_before : (xs : List Entry) (x : Entry) → AllByRecursion IsAllowed (xs ++ x ∷ []) → AllByRecursion IsAllowed xs × IsAllowed x
  each_before [] x all = (tt, all.0)
  each_before (y ∷ xs) x all = let rest = each_before xs x all.1 in ((all.0, rest.0), rest.1)

  journal_by_end : {history : History} {last : State} (entries : List Entry) → Ended entries → RunFrom first history last
      → history.steps ≡ steps_of entries → history.answers ≡ answers_of entries → AllByRecursion IsAllowed entries → JournalFrom first entries last
  journal_by_end _ empty run_begin taken answered all = begin
  journal_by_end _ empty (run_next {history} {step = step} run outcome) taken answered all = absurd (not_empty history.steps step taken)
  journal_by_end _ (ended xs x) run_begin taken answered all =
      absurd (not_empty (steps_of xs) x.step (sym (map-append (λ (e : Entry). e.step) xs (x ∷ [])) ∙ sym taken))
  journal_by_end _ (ended xs x) (run_next {history} {old} {new} {step} {answer} run outcome) taken answered all =
      let asked = same_end history.steps (steps_of xs) step x.step (taken ∙ map-append (λ (e : Entry). e.step) xs (x ∷ [])) in
      let told = same_end history.answers (answers_of xs) answer x.answer (answered ∙ map-append (λ (e : Entry). e.answer) xs (x ∷ [])) in
      let each = each_before xs x all in
      let so : Outcome old x.step new x.answer =
      subst (λ (s : Step). Outcome old s new x.answer) asked.1
      (subst (λ (a : Answer). Outcome old step new a) told.1 outcome) in
      next (journal_by_end xs (by_end xs) run asked.0 told.0 each.0) each.1 so

  pub journal_of : {last : State} (entries : List Entry) → Legal first (steps_of entries) (answers_of entries) last
      → All IsAllowed entries → JournalFrom first entries last
  journal_of entries legal all = journal_by_end entries (by_end entries) legal.run legal.taken legal.answered (recursion_from_All IsAllowed entries all)
