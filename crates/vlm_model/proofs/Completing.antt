-- Each completion AST that a step queues belongs to a request that ended in it.
use Rattle.std.proofs.Common.{◌≡◌, ◌++◌, ◌||◌, ℕ, Bool, true, false, List, [], ◌∷◌, cond, Option, None, Some, inl, inr, refl, sym, ap, ◌∙◌}
use Rattle.std.specs.List.{AllByRecursion, filter, flat_map}
use Rattle.std.proofs.lemmas.Bool.{cond_both}
use Rattle.std.proofs.lemmas.List.{append-nil}
use Rattle.std.proofs.lemmas.List.Elements.{filter-append}
use Rattle.std.proofs.lemmas.Grind.{flat_map-append}
use Rattle.vlm_words.specs.declared.asts.AstKind.TheVariants.{Completion, Blocking}
use Rattle.vlm_words.specs.declared.conditions.Cond.{Cond}
use Rattle.vlm_words.specs.declared.locks.Request.{Request}
use Rattle.vlm_words.specs.declared.locks.LockState.{LockState}
use Rattle.vlm_words.specs.declared.steps.Answer.{Answer}
use Rattle.vlm_words.specs.declared.steps.Step.TheVariants.{Declare, SetValue, Enq, Convert, Deq, Rundown, Leave, Search, Take}
use Rattle.vlm_words.specs.declared.steps.Step.{Step}
use Rattle.vlm_words.specs.State.{Resource, State}
use Rattle.vlm_model.specs.Endings.{Ending, How, is_told}
use Rattle.vlm_model.specs.Endings.How.{by_abort, by_cancel, by_deadlock, by_grant, by_rundown}
use Rattle.vlm_model.specs.Asts.{Queued, asts_for, blocking_asts, completion_asts, completions, completions_of}
use Rattle.vlm_model.specs.Asts.{is_synchronous, is_to_warn, row_warnings, warnings}
use Rattle.vlm_model.specs.Grants.{service}
use Rattle.vlm_model.specs.Sweeps.{service_asts, sweep_asts, sweep_endings}
use Rattle.vlm_model.specs.Convert.{ConversionAdmission, convert_admission}
use Rattle.vlm_model.specs.Stepped.{Outcome, Stepped, conversion_change, outcome_endings, outcome_queued, refused_or, step_change, step_refusal}
use Rattle.vlm_model.specs.Runs.{History, Run, begin, next}
use Rattle.vlm_model.proofs.Each.{each_append}
use Rattle.vlm_model.specs.Completing.{EachRequestCompletesOnce, call_of, completion_of, ends_with_its_process, is_completion}

-- among what was queued the completions are those of the endings
abbrev Matches : List Ending → List Queued → Type 0
Matches endings queued = filter is_completion queued ≡ flat_map completion_of endings

-- what holds of two parts holds of both together
both_match : (first later : List Ending) (some more : List Queued) → Matches first some → Matches later more → Matches (first ++ later) (some ++ more)
both_match first later some more one other =
    filter-append is_completion some more
    ∙ ap (λ (xs : List Queued). xs ++ filter is_completion more) one
    ∙ ap (λ (xs : List Queued). flat_map completion_of first ++ xs) other
    ∙ sym (flat_map-append completion_of first later)

-- ---- completions

-- the completion of one ending
one_matches : (ending : Ending) → filter is_completion (completions ending) ≡ completion_of ending
unfolding completion_asts
one_matches ending = of_how ending.how (is_synchronous ending.at_once ending.request) ending.request.completion
  where
    of_tests : (told : Bool) (routine : Option ℕ)
        → filter is_completion (cond told [] (asts_for Completion routine ending.request ending.lkid ending.pid))
        ≡ cond told [] (call_of routine ending)
    of_tests true routine = refl
    of_tests false None = refl
    of_tests false (Some routine) = refl

    of_how : (how : How) (told : Bool) (routine : Option ℕ)
        → filter is_completion (cond (is_told how) (cond told [] (asts_for Completion routine ending.request ending.lkid ending.pid)) [])
        ≡ cond (ends_with_its_process how || told) [] (call_of routine ending)
    of_how (by_grant act) told routine = of_tests told routine
    of_how by_abort told routine = of_tests told routine
    of_how by_cancel told routine = of_tests told routine
    of_how by_deadlock told routine = of_tests told routine
    of_how by_rundown told routine = refl

-- the completions of endings
ends_match : (endings : List Ending) → Matches endings (completions_of endings)
ends_match [] = refl
ends_match (ending ∷ endings) =
    filter-append is_completion (completions ending) (completions_of endings)
    ∙ ap (λ (xs : List Queued). xs ++ filter is_completion (completions_of endings)) (one_matches ending)
    ∙ ap (λ (xs : List Queued). completion_of ending ++ xs) (ends_match endings)

-- what holds of each completion holds of each that is queued for endings
pub each_completion : (P : Queued → Type 0) → ((q : Queued) → q.ast.kind ≡ Completion → P q) → (endings : List Ending)
    → AllByRecursion P (completions_of endings)
unfolding completion_asts
each_completion P holds [] = tt
each_completion P holds (ending ∷ endings) =
    each_append P (completions ending) (completions_of endings) here (each_completion P holds endings)
  where
    of_routine : (routine : Option ℕ) → AllByRecursion P (asts_for Completion routine ending.request ending.lkid ending.pid)
    of_routine None = tt
    of_routine (Some routine) =
        (holds (record { pid = ending.pid; ast = record { kind = Completion; routine = routine; param = ending.request.param; lkid = ending.lkid } }) refl, tt)

    here : AllByRecursion P (completions ending)
    here =
        let told : List Queued =
        cond (is_synchronous ending.at_once ending.request) [] (asts_for Completion ending.request.completion ending.request ending.lkid ending.pid) in
        cond_both (is_told ending.how) told [] (AllByRecursion P)
        (λ _. cond_both (is_synchronous ending.at_once ending.request) [] (asts_for Completion ending.request.completion ending.request ending.lkid ending.pid)
        (AllByRecursion P) (λ _. tt) (λ _. of_routine ending.request.completion)) (λ _. tt)

-- ---- warnings

-- what is held has no completion
held_warns : (held : Option Request) (lkid pid : ℕ) → filter is_completion (blocking_asts held lkid pid) ≡ []
held_warns None lkid pid = refl
held_warns (Some request) lkid pid = of_routine request.blocking
  where
    of_routine : (routine : Option ℕ) → filter is_completion (asts_for Blocking routine request lkid pid) ≡ []
    of_routine None = refl
    of_routine (Some routine) = refl

-- no warning is a completion
row_warns : (converting waiting : List LockState) (row : LockState) → filter is_completion (row_warnings converting waiting row) ≡ []
unfolding row_warnings
row_warns converting waiting row =
    cond_both (is_to_warn converting waiting row) (blocking_asts row.held row.lkid row.pid) [] (λ asts. filter is_completion asts ≡ [])
    (λ _. held_warns row.held row.lkid row.pid) (λ _. refl)

rows_warn : (converting waiting rows : List LockState) → filter is_completion (flat_map (row_warnings converting waiting) rows) ≡ []
rows_warn converting waiting [] = refl
rows_warn converting waiting (row ∷ rows) =
    filter-append is_completion (row_warnings converting waiting row) (flat_map (row_warnings converting waiting) rows)
    ∙ ap (λ (xs : List Queued). xs ++ filter is_completion (flat_map (row_warnings converting waiting) rows)) (row_warns converting waiting row)
    ∙ rows_warn converting waiting rows

no_completions : (r : Resource) → filter is_completion (warnings r) ≡ []
unfolding warnings
no_completions r = rows_warn r.converting r.waiting r.granted

-- ---- sweeps

-- the service of a resource
service_matches : (r : Resource) → Matches (service r).endings (service_asts r)
unfolding service_asts
service_matches r =
    filter-append is_completion (completions_of (service r).endings) (warnings (service r).resource)
    ∙ ap (λ (xs : List Queued). xs ++ filter is_completion (warnings (service r).resource)) (ends_match (service r).endings)
    ∙ ap (λ (xs : List Queued). flat_map completion_of (service r).endings ++ xs) (no_completions (service r).resource)
    ∙ append-nil (flat_map completion_of (service r).endings)

-- a sweep
sweep_matches : (resources : List Resource) → Matches (sweep_endings resources) (sweep_asts resources)
unfolding sweep_endings sweep_asts
sweep_matches [] = refl
sweep_matches (r ∷ rest) =
    both_match (service r).endings (sweep_endings rest) (service_asts r) (sweep_asts rest) (service_matches r) (sweep_matches rest)

-- ---- the steps

-- what a change queues are the completions of its endings
pub change_queues : (s : State) (step : Step) (choice : Option LockState)
    → (step_change s step choice).queued ≡ completions_of (step_change s step choice).endings
change_queues s (Declare d) choice = refl
change_queues s (SetValue v) choice = refl
change_queues s (Enq e) choice = refl
change_queues s (Convert c) choice = of_admission (convert_admission s c)
  where
    of_admission : (admission : Option ConversionAdmission)
        → (conversion_change s c admission).queued ≡ completions_of (conversion_change s c admission).endings
    of_admission None = refl
    of_admission (Some a) = refl
change_queues s (Deq d) choice = refl
change_queues s (Rundown pid) choice = refl
change_queues s (Leave node) choice = refl
change_queues s (Search node) choice = refl
change_queues s (Take pid) choice = refl

-- a step that is made
made_matches : (refusal : Option Cond) (s : State) (change : Stepped) → change.queued ≡ completions_of change.endings
    → Matches (refused_or refusal s change).endings (refused_or refusal s change).queued
made_matches None s change queues =
    both_match change.endings (sweep_endings change.state.resources) change.queued (sweep_asts change.state.resources)
    (ap (filter is_completion) queues ∙ ends_match change.endings) (sweep_matches change.state.resources)
made_matches (Some refusal) s change queues = refl

-- an outcome
outcome_matches : (old new : State) (step : Step) (answer : Answer) (outcome : Outcome old step new answer)
    → Matches (outcome_endings outcome) (outcome_queued outcome)
outcome_matches old new step answer (inl made) =
    made_matches (step_refusal old step) old (step_change old step made.choice) (change_queues old step made.choice)
outcome_matches old new step answer (inr short) = refl

-- after every run
matches_always : (history : History) (last : State) → Run history last → Matches history.endings history.queued
matches_always _ _ begin = refl
matches_always _ last (next {history} {old} {new} {step} {answer} run outcome) =
    both_match history.endings (outcome_endings outcome) history.queued (outcome_queued outcome)
    (matches_always history old run) (outcome_matches old new step answer outcome)

pub completes_always : (history : History) (last : State) → Run history last → EachRequestCompletesOnce history.endings history.queued
completes_always history last run = record { completions = matches_always history last run }
