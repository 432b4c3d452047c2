-- Each warning is of a request that was granted.
use Rattle.std.proofs.Common.{◌≡◌, ◌++◌, ◌&&◌, ℕ, Bool, true, false, not, List, [], ◌∷◌, map, cond, Option, None, Some, inl, inr, refl, sym, subst, ap, ◌∙◌}
use Rattle.std.specs.Prelude.{All}
use Rattle.std.specs.List.{AllByRecursion, flat_map}
use Rattle.std.proofs.lemmas.Bool.{and_parts, cond_both}
use Rattle.std.proofs.lemmas.List.Elements.{All-from_recursion, recursion_from_All}
use Rattle.vlm_words.specs.declared.asts.AstKind.TheVariants.{Completion, Blocking}
use Rattle.vlm_words.specs.declared.conditions.Cond.{Cond}
use Rattle.vlm_words.specs.declared.locks.Request.{Request}
use Rattle.vlm_words.specs.declared.locks.LockState.{LockState}
use Rattle.vlm_words.specs.declared.resources.ValueBlock.{ValueBlock}
use Rattle.vlm_words.specs.declared.steps.Answer.{Answer}
use Rattle.vlm_words.specs.declared.steps.Step.{Step}
use Rattle.vlm_words.specs.State.{Process, Resource, State}
use Rattle.vlm_model.specs.Endings.{Ending}
use Rattle.vlm_model.specs.Asts.{Queued, asts_for, blocking_asts, completions_of, is_to_warn, resource_after_warning, row_after_warning, row_warnings, warnings}
use Rattle.vlm_model.specs.Effects.{with_value_block}
use Rattle.vlm_words.specs.Rows.{is_empty}
use Rattle.vlm_model.specs.Grants.{service}
use Rattle.vlm_model.specs.Sweeps.{blocks_after_service, is_vacant, resource_after_service, resources_after_sweep, service_asts, sweep_asts}
use Rattle.vlm_model.specs.Granted.{IsGrantTo, WasGranted}
use Rattle.vlm_model.specs.Stepped.{Outcome, Stepped, outcome_endings, outcome_queued, refused_or, step_change, step_refusal}
use Rattle.vlm_model.specs.Runs.{History, Run, begin, next}
use Rattle.vlm_model.proofs.Accounting.{each_first}
use Rattle.vlm_model.proofs.Each.{Any-weaker, any_left, each_append, each_weaker}
use Rattle.vlm_model.proofs.Granted.{granted_always}
use Rattle.vlm_model.proofs.NothingLeft.{is_empty-true}
use Rattle.vlm_model.specs.Warning.{IsNamedByGrant, NamesTheRoutine, WarningsAreOfGrants}
use Rattle.vlm_model.proofs.Completing.{change_queues, each_completion}

-- what a lock holds was granted to it
abbrev Was : List Ending → LockState → Type 0
Was endings row = WasGranted endings row.lkid row.pid row.held

-- so it is with all locks that are granted on these resources
abbrev AllWere : List Ending → List Resource → Type 0
AllWere endings resources = AllByRecursion (λ r. AllByRecursion (Was endings) r.granted) resources

-- ---- completions are no warnings

no_warning : (endings : List Ending) (q : Queued) → q.ast.kind ≡ Completion → IsNamedByGrant endings q
no_warning endings q is warns = cc

all_complete : (endings ended : List Ending) → AllByRecursion (IsNamedByGrant endings) (completions_of ended)
all_complete endings ended = each_completion (IsNamedByGrant endings) (no_warning endings) ended

-- ---- warnings are of what is held

held_named : (endings : List Ending) (held : Option Request) (lkid pid : ℕ) → WasGranted endings lkid pid held
    → AllByRecursion (IsNamedByGrant endings) (blocking_asts held lkid pid)
held_named endings None lkid pid was = tt
held_named endings (Some held) lkid pid was = of_routine held.blocking refl
  where
    of_routine : (routine : Option ℕ) → held.blocking ≡ routine → AllByRecursion (IsNamedByGrant endings) (asts_for Blocking routine held lkid pid)
    of_routine None is = tt
    of_routine (Some routine) is = (
      λ _. Any-weaker (IsGrantTo lkid pid held)
          (NamesTheRoutine (record { pid = pid; ast = record { kind = Blocking; routine = routine; param = held.param; lkid = lkid } }))
          (λ ending grant. record {
            grants = grant.grants;
            process = grant.process;
            lock = grant.lock;
            routine = ap (λ (request : Request). request.blocking) grant.whole ∙ is;
            param = ap (λ (request : Request). request.param) grant.whole;
          }) endings was,
      tt,
    )

row_named : (endings : List Ending) (converting waiting : List LockState) (row : LockState) → Was endings (row_after_warning converting waiting row)
    → AllByRecursion (IsNamedByGrant endings) (row_warnings converting waiting row)
unfolding row_warnings row_after_warning
row_named endings converting waiting row was =
    cond_both (is_to_warn converting waiting row) (blocking_asts row.held row.lkid row.pid) [] (AllByRecursion (IsNamedByGrant endings))
    (λ _. held_named endings row.held row.lkid row.pid
    (cond_both (is_to_warn converting waiting row) (record row { armed = false }) row (λ x. Was endings x
    → Was endings row) (λ _ given. given) (λ _ given. given) was))
    (λ _. tt)

rows_named : (endings : List Ending) (converting waiting rows : List LockState) → AllByRecursion (Was endings) (map (row_after_warning converting waiting) rows)
    → AllByRecursion (IsNamedByGrant endings) (flat_map (row_warnings converting waiting) rows)
rows_named endings converting waiting [] each = tt
rows_named endings converting waiting (row ∷ rows) each =
    each_append (IsNamedByGrant endings) (row_warnings converting waiting row) (flat_map (row_warnings converting waiting) rows)
    (row_named endings converting waiting row each.0) (rows_named endings converting waiting rows each.1)

warnings_named : (endings : List Ending) (block : ValueBlock) (r : Resource)
    → AllByRecursion (Was endings) (resource_after_warning (with_value_block block r)).granted → AllByRecursion (IsNamedByGrant endings) (warnings r)
unfolding resource_after_warning warnings
warnings_named endings block r each = rows_named endings r.converting r.waiting r.granted each

-- on a resource that is dropped nobody is granted
split : (endings : List Ending) (r : Resource) (rest : List Resource) → AllWere endings (cond (not (is_vacant r)) (r ∷ rest) rest)
    → AllByRecursion (Was endings) r.granted × AllWere endings rest
split endings r rest each = of_test (is_vacant r) refl each
  where
    of_test : (b : Bool) → is_vacant r ≡ b → AllWere endings (cond (not b) (r ∷ rest) rest) → AllByRecursion (Was endings) r.granted × AllWere endings rest
    of_test false left each = (each.0, each.1)
    of_test true vacant each = (
      subst (AllByRecursion (Was endings)) (sym (is_empty-true r.granted
          (and_parts (is_empty r.granted) (is_empty r.converting)
          (and_parts (is_empty r.granted && is_empty r.converting) (is_empty r.waiting) vacant).0).0)) tt,
      each,
    )

-- a sweep
sweep_named : (endings : List Ending) (processes : List Process) (resources : List Resource) → AllWere endings (resources_after_sweep processes resources)
    → AllByRecursion (IsNamedByGrant endings) (sweep_asts resources)
unfolding resources_after_sweep sweep_asts service_asts
sweep_named endings processes [] each = tt
sweep_named endings processes (r ∷ rest) each =
    let after : List Process = (blocks_after_service processes r).processes in
    let both = split endings (resource_after_service processes r) (resources_after_sweep after rest) each in
    each_append (IsNamedByGrant endings) (service_asts r) (sweep_asts rest)
    (each_append (IsNamedByGrant endings) (completions_of (service r).endings) (warnings (service r).resource)
    (all_complete endings (service r).endings) (warnings_named endings (blocks_after_service processes r).value_block (service r).resource both.0))
    (sweep_named endings after rest both.1)

-- ---- the steps

made_named : (endings : List Ending) (refusal : Option Cond) (s : State) (change : Stepped) → change.queued ≡ completions_of change.endings
    → AllWere endings (refused_or refusal s change).state.resources → AllByRecursion (IsNamedByGrant endings) (refused_or refusal s change).queued
made_named endings None s change queues each =
    each_append (IsNamedByGrant endings) change.queued (sweep_asts change.state.resources)
    (subst (AllByRecursion (IsNamedByGrant endings)) (sym queues) (all_complete endings change.endings))
    (sweep_named endings change.state.processes change.state.resources each)
made_named endings (Some refusal) s change queues each = tt

outcome_named : (endings : List Ending) (old new : State) (step : Step) (answer : Answer)
    (outcome : Outcome old step new answer) → AllWere endings new.resources
    → AllByRecursion (IsNamedByGrant endings) (outcome_queued outcome)
outcome_named endings old new step answer (inl made) each =
    made_named endings (step_refusal old step) old (step_change old step made.choice) (change_queues old step made.choice)
    (subst (λ (s : State). AllWere endings s.resources) made.state each)
outcome_named endings old new step answer (inr short) each = tt

-- ---- after every run

were_granted : (history : History) (last : State) → Run history last → AllWere history.endings last.resources
were_granted history last run =
    each_weaker (λ r. All (Was history.endings) (r.granted ++ r.converting ++ r.waiting)) (λ r. AllByRecursion (Was history.endings) r.granted)
    (λ r each. each_first (Was history.endings) r.granted r.converting
    (each_first (Was history.endings) (r.granted ++ r.converting) r.waiting
    (recursion_from_All (Was history.endings) (r.granted ++ r.converting ++ r.waiting) each)))
    last.resources
    (recursion_from_All (λ r. All (Was history.endings) (r.granted ++ r.converting ++ r.waiting)) last.resources (granted_always history last run))

named_always : (history : History) (last : State) → Run history last → AllByRecursion (IsNamedByGrant history.endings) history.queued
named_always _ _ begin = tt
named_always _ last (next {history} {old} {new} {step} {answer} run outcome) =
    let endings : List Ending = history.endings ++ outcome_endings outcome in
    each_append (IsNamedByGrant endings) history.queued (outcome_queued outcome)
    (each_weaker (IsNamedByGrant history.endings) (IsNamedByGrant endings)
    (λ q named warns. any_left (NamesTheRoutine q) history.endings (outcome_endings outcome) (named warns)) history.queued (named_always history old run))
    (outcome_named endings old new step answer outcome (were_granted _ new (next run outcome)))

pub warnings_always : (history : History) (last : State) → Run history last → WarningsAreOfGrants history.endings history.queued
warnings_always history last run = All-from_recursion (IsNamedByGrant history.endings) history.queued (named_always history last run)
