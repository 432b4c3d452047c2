-- What an ended process is told, and that none lives under its ID.
use Rattle.std.proofs.Common.{◌≡◌, ◌≢◌, ◌/◌, ◌⊎◌, ℕ, Bool, true, false, cond, List, [], ◌∷◌, All, Option, None, Some, inl, inr, refl, sym, ap, subst, ◌∙◌}
use Rattle.std.specs.Prelude.{◌==◌, is_some}
use Rattle.std.specs.List.{AllByRecursion}
use Rattle.std.proofs.lemmas.Bool.{eq-eqb, eqb-true}
use Rattle.std.proofs.lemmas.List.Elements.{All-from_recursion, recursion_from_All}
use Rattle.vlm_words.specs.declared.asts.Ast.{Ast}
use Rattle.vlm_words.specs.declared.conditions.Cond.TheVariants.{Departed, Nonexpr, Normal}
use Rattle.vlm_words.specs.declared.conditions.Cond.{Cond}
use Rattle.vlm_words.specs.declared.steps.Answer.TheVariants.{Plain, Taken}
use Rattle.vlm_words.specs.declared.steps.Answer.{Answer}
use Rattle.vlm_words.specs.declared.steps.Step.TheVariants.{Declare, SetValue, Enq, Convert, Deq, Rundown, Leave, Search, Take}
use Rattle.vlm_words.specs.declared.steps.Step.{Step}
use Rattle.vlm_words.specs.State.{Node, Process, State, process_of}
use Rattle.vlm_model.specs.Taking.{queued_to}
use Rattle.vlm_model.specs.Checks.{caller_refusal, has_departed, or_else}
use Rattle.vlm_model.specs.SetValue.{set_refusal}
use Rattle.vlm_model.specs.Enqueue.{enq_refusal}
use Rattle.vlm_model.specs.Convert.{convert_refusal}
use Rattle.vlm_model.specs.Dequeue.{deq_refusal}
use Rattle.vlm_model.specs.Rundown.{is_ended_by, processes_but, state_after_rundown}
use Rattle.vlm_model.specs.Stepped.{Outcome, end_of_processes, outcome_queued, refused_or, step_refusal}
use Rattle.vlm_model.specs.Runs.{History, Run, begin, next}
use Rattle.vlm_model.proofs.Declarations.{AllGiven, IsGiven, given_always, pids}
use Rattle.vlm_model.proofs.ProcessEnds.{is_left, swept_living}
use Rattle.vlm_model.proofs.Refusals.{IsCaller, caller_passes, nobody}
use Rattle.vlm_model.proofs.WrittenBlocks.{end_not_normal}
use Rattle.vlm_model.specs.Accounting.{WhatIsQueuedIsTakenOrPending}
use Rattle.vlm_model.specs.Departing.{IsDeparture}
use Rattle.vlm_model.specs.EndedProcesses.{EndedProcessesAreToldNoMore, HasEnded, IsEndOf, IsStepOfProcess}
use Rattle.vlm_model.specs.Happened.{HasHappened, IsRefusal}
use Rattle.vlm_model.proofs.Departing.{none_lives_always}
use Rattle.vlm_model.proofs.LongerRuns.{all_answered, happened_either, happened_so, refused_outcome}
use Rattle.vlm_model.proofs.Living.{GivesAnew, lives, no, outcome_gives}

-- ---- who was run down

-- the step is the rundown of the process, and it is accepted
abbrev IsRundownOf : ℕ → Step → Answer → Type 0
IsRundownOf pid step answer = (step ≡ Rundown pid) × (answer ≡ Plain Normal)

-- nobody has the ID, which its node has given, so that nobody gets it any more
record IsOver (s : State) (pid : ℕ) : Type 0 where
  out : lives s.processes pid ≡ false
  given : IsGiven s.nodes pid

-- what an outcome leaves so
still_over : (old new : State) (answer : Answer) → GivesAnew old new answer → (pid : ℕ) → IsOver old pid → IsOver new pid
still_over old new answer gives pid over = record {
  out = of_test (lives new.processes pid) refl;
  given = gives.kept pid over.given;
}
  where
    of_test : (b : Bool) → lives new.processes pid ≡ b → b ≡ false
    of_test true is = absurd ((gives.new pid over.out is).1 over.given)
    of_test false is = refl

-- who lives has an ID that its node has given
given_to : (nodes : List Node) (processes : List Process) (pid : ℕ) → AllByRecursion (IsGiven nodes) (pids processes)
    → lives processes pid ≡ true → IsGiven nodes pid
given_to nodes [] pid given is = no (sym is)
given_to nodes (p ∷ rest) pid given is = of_test (p.pid == pid) refl is (given_to nodes rest pid given.1)
  where
    of_test : (b : Bool) → (p.pid == pid) ≡ b → is_some (cond b (Some p) (process_of rest pid)) ≡ true → (lives rest pid ≡ true → IsGiven nodes pid)
        → IsGiven nodes pid
    of_test true same there behind = subst (IsGiven nodes) (eqb-true p.pid pid same) given.0
    of_test false other there behind = behind there

-- a rundown that no check refuses
over_now : (s : State) (pid : ℕ) → AllGiven s → caller_refusal s pid ≡ None
    → IsOver (refused_or None s (end_of_processes (is_ended_by pid) s.nodes s)).state pid
unfolding state_after_rundown
over_now s pid given passed =
    let left : List Process = processes_but (is_ended_by pid) s.processes in
    let caller : IsCaller s pid = caller_passes s pid passed in
    record {
      out =
          swept_living left (state_after_rundown (is_ended_by pid) s.nodes s).resources pid
          ∙ of_test (lives left pid) refl;
      given = given_to s.nodes s.processes pid given.living (ap (λ (o : Option Process). is_some o) caller.lives);
    }
  where
    of_test : (b : Bool) → lives (processes_but (is_ended_by pid) s.processes) pid ≡ b → b ≡ false
    of_test true is = no (sym (eq-eqb pid pid refl) ∙ is_left (is_ended_by pid) pid s.processes is)
    of_test false is = refl

-- with its refusal
over_by_refusal : (s : State) (pid : ℕ) → AllGiven s → (refusal : Option Cond) → caller_refusal s pid ≡ refusal
    → (refused_or refusal s (end_of_processes (is_ended_by pid) s.nodes s)).answer ≡ Plain Normal
    → IsOver (refused_or refusal s (end_of_processes (is_ended_by pid) s.nodes s)).state pid
over_by_refusal s pid given None passed answered = over_now s pid given passed
over_by_refusal s pid given (Some refusal) is answered = absurd (end_not_normal s pid refusal is (same_refusal refusal Normal answered))
  where
    same_refusal : (a b : Cond) → Plain a ≡ Plain b → a ≡ b
    same_refusal a b same = cc

-- an outcome that is the rundown
over_by_outcome : (s t : State) (pid : ℕ) (answer : Answer) → AllGiven s → Outcome s (Rundown pid) t answer → answer ≡ Plain Normal → IsOver t pid
over_by_outcome s t pid answer given (inl made) normal =
    subst (λ (after : State). IsOver after pid) (sym made.state)
    (over_by_refusal s pid given (caller_refusal s pid) refl (sym made.answered ∙ normal))
over_by_outcome s t pid answer given (inr short) normal = absurd short.may

over_by_step : (s t : State) (step : Step) (pid : ℕ) (answer : Answer) → AllGiven s → Outcome s step t answer → IsRundownOf pid step answer → IsOver t pid
over_by_step s t step pid answer given outcome is =
    over_by_outcome s t pid answer given (subst (λ (made : Step). Outcome s made t answer) is.0 outcome) is.1

-- after every run it is so of each that was run down
over_always : (history : History) (last : State) → Run history last → (pid : ℕ)
    → HasHappened (IsRundownOf pid) history.steps history.answers → IsOver last pid
over_always _ _ begin pid happened = absurd happened
over_always _ last (next {history} {old} {new} {step} {answer} run outcome) pid happened =
    let given : AllGiven old = given_always history old run in
    elim (happened_either (IsRundownOf pid) history.steps history.answers step answer (all_answered history old run) happened) [
      | inl before ↦ still_over old new answer (outcome_gives old new step answer given outcome) pid (over_always history old run pid before)
      | inr now ↦ over_by_step old new step pid answer given outcome now
    ]

-- ---- who has ended

-- a process ends by its rundown, or by the departure of its node
ends_so : (pid : ℕ) (step : Step) (answer : Answer) → IsEndOf pid step answer
    → IsRundownOf pid step answer ⊎ IsDeparture (pid / 65536) step answer
ends_so pid step answer (inl rundown, normal) = inl (rundown, normal)
ends_so pid step answer (inr departure, normal) = inr (departure, normal)

-- who is of no such node has no such ID
each_of_another : (pid : ℕ) (processes : List Process) → AllByRecursion (λ p. p.pid / 65536 ≢ pid / 65536) processes
    → AllByRecursion (λ p. p.pid ≢ pid) processes
each_of_another pid [] each = tt
each_of_another pid (p ∷ rest) each = (λ same. each.0 (ap (λ (n : ℕ). n / 65536) same), each_of_another pid rest each.1)

-- after every run nobody has the ID of a process that has ended
gone_always : (history : History) (last : State) → Run history last → (pid : ℕ) → HasEnded pid history.steps history.answers
    → All (λ p. p.pid ≢ pid) last.processes
gone_always history last run pid ended =
    elim (happened_so (IsEndOf pid) (IsRundownOf pid) (IsDeparture (pid / 65536)) (ends_so pid) history.steps history.answers ended) [
      | inl rundown ↦ nobody last pid (over_always history last run pid rundown).out
      | inr departure ↦
          All-from_recursion (λ p. p.pid ≢ pid) last.processes
          (each_of_another pid last.processes
          (recursion_from_All (λ p. p.pid / 65536 ≢ pid / 65536) last.processes (none_lives_always history last run (pid / 65536) departure)))
    ]

-- so it is not found
not_found : (processes : List Process) (pid : ℕ) → AllByRecursion (λ p. p.pid ≢ pid) processes → process_of processes pid ≡ None
not_found [] pid each = refl
not_found (p ∷ rest) pid each = of_test (p.pid == pid) refl (not_found rest pid each.1)
  where
    of_test : (b : Bool) → (p.pid == pid) ≡ b → process_of rest pid ≡ None → cond b (Some p) (process_of rest pid) ≡ None
    of_test true same behind = absurd (each.0 (eqb-true p.pid pid same))
    of_test false other behind = behind

out_always : (history : History) (last : State) → Run history last → (pid : ℕ) → HasEnded pid history.steps history.answers
    → process_of last.processes pid ≡ None
out_always history last run pid ended =
    not_found last.processes pid (recursion_from_All (λ p. p.pid ≢ pid) last.processes (gone_always history last run pid ended))

-- ---- what it is told

-- a step of the process is refused by the first of its checks
told_by_caller : (s : State) (pid : ℕ) (refusal : Cond) → caller_refusal s pid ≡ Some refusal → (step : Step) → IsStepOfProcess pid step
    → step_refusal s step ≡ Some refusal
unfolding set_refusal enq_refusal convert_refusal deq_refusal
told_by_caller s pid refusal is (Declare d) of_it = absurd of_it
told_by_caller s pid refusal is (SetValue v) of_it = told_first v.pid _ (ap (caller_refusal s) of_it ∙ is)
  where
    told_first : (caller : ℕ) (later : Option Cond) → caller_refusal s caller ≡ Some refusal → or_else (caller_refusal s caller) later ≡ Some refusal
    told_first caller later told = ap (λ (first : Option Cond). or_else first later) told
told_by_caller s pid refusal is (Enq e) of_it = rw (ap (caller_refusal s) of_it ∙ is) refl
told_by_caller s pid refusal is (Convert c) of_it = rw (ap (caller_refusal s) of_it ∙ is) refl
told_by_caller s pid refusal is (Deq d) of_it = rw (ap (caller_refusal s) of_it ∙ is) refl
told_by_caller s pid refusal is (Rundown process) of_it = ap (caller_refusal s) of_it ∙ is
told_by_caller s pid refusal is (Leave node) of_it = absurd of_it
told_by_caller s pid refusal is (Search node) of_it = absurd of_it
told_by_caller s pid refusal is (Take process) of_it = ap (caller_refusal s) of_it ∙ is

-- which of the two it is
told_nobody : (s : State) (pid : ℕ) → process_of s.processes pid ≡ None
    → (caller_refusal s pid ≡ Some Nonexpr) ⊎ (caller_refusal s pid ≡ Some Departed)
unfolding caller_refusal
told_nobody s pid out = of_test (has_departed s.nodes (pid / 65536)) (process_of s.processes pid) out
  where
    of_test : (departed : Bool) (found : Option Process) → found ≡ None
        → (cond departed (Some Departed) (cond (is_some found) None (Some Nonexpr)) ≡ Some Nonexpr)
        ⊎ (cond departed (Some Departed) (cond (is_some found) None (Some Nonexpr)) ≡ Some Departed)
    of_test true found none = inr refl
    of_test false None none = inl refl
    of_test false (Some p) none = cc

refused_always : (history : History) (last : State) → Run history last → (pid : ℕ) → HasEnded pid history.steps history.answers
    → (step : Step) → IsStepOfProcess pid step → (new : State) (answer : Answer) (outcome : Outcome last step new answer)
    → IsRefusal Nonexpr last step new answer outcome ⊎ IsRefusal Departed last step new answer outcome
refused_always history last run pid ended step of_it new answer outcome =
    elim (told_nobody last pid (out_always history last run pid ended)) [
      | inl none ↦ inl (refused_outcome Nonexpr last new step answer (told_by_caller last pid Nonexpr none step of_it) outcome)
      | inr departed ↦ inr (refused_outcome Departed last new step answer (told_by_caller last pid Departed departed step of_it) outcome)
    ]

-- a refusal answers no AST
no_ast : (refusal : Cond) (s t : State) (pid : ℕ) (ast : Option Ast) (outcome : Outcome s (Take pid) t (Taken ast))
    → IsRefusal refusal s (Take pid) t (Taken ast) outcome → ⊥
no_ast refusal s t pid ast outcome is = let answered = is.answered in cc

-- after every run
pub told_no_more_always : ((history : History) (last : State) → Run history last → WhatIsQueuedIsTakenOrPending history last)
    → (history : History) (last : State) → Run history last → EndedProcessesAreToldNoMore history last
told_no_more_always accounted history last run = record {
  gone = gone_always history last run;
  refused = refused_always history last run;
  untaken = λ pid ended ast new outcome.
      elim (refused_always history last run pid ended (Take pid) refl new (Taken ast) outcome) [
        | inl nonexpr ↦ no_ast Nonexpr last new pid ast outcome nonexpr
        | inr departed ↦ no_ast Departed last new pid ast outcome departed
      ];
  none_queued = λ pid ended step new answer outcome. of_outcome pid ended step new answer outcome;
}
  where
    of_outcome : (pid : ℕ) → HasEnded pid history.steps history.answers → (step : Step) (new : State) (answer : Answer)
        → (outcome : Outcome last step new answer) → queued_to pid (outcome_queued outcome) ≡ []
    of_outcome pid ended step new answer (inl made) =
        (accounted history last run).no_more pid (out_always history last run pid ended) step made.choice made.chosen
    of_outcome pid ended step new answer (inr short) = refl
