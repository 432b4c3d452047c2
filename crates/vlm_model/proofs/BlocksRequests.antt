-- Each lock that is warned is in the way of a queued request.
use Rattle.std.proofs.Common.{◌≡◌, ◌++◌, ◌&&◌, ℕ, Bool, true, false, not, List, [], ◌∷◌, map, cond, Option, None, Some, inl, inr, refl, sym, subst, ap, ◌∙◌}
use Rattle.std.specs.Prelude.{Any}
use Rattle.std.specs.List.{AllByRecursion, flat_map, list_any}
use Rattle.std.proofs.lemmas.Bool.{and_parts, cond_both, or_cases}
use Rattle.std.proofs.lemmas.List.Elements.{All-from_recursion}
use Rattle.vlm_words.specs.declared.asts.AstKind.TheVariants.{Completion, Blocking}
use Rattle.vlm_words.specs.declared.conditions.Cond.{Cond}
use Rattle.vlm_words.specs.declared.locks.Request.{Request}
use Rattle.vlm_words.specs.declared.locks.LockState.{LockState}
use Rattle.vlm_words.specs.declared.resources.ValueBlock.{ValueBlock}
use Rattle.vlm_words.specs.declared.steps.Step.{Step}
use Rattle.vlm_words.specs.State.{Process, Resource, State}
use Rattle.vlm_model.specs.Asts.{Queued, asts_for, blocking_asts, completions_of, blocks_a_request, is_to_warn}
use Rattle.vlm_model.specs.Asts.{resource_after_warning, row_after_warning, row_warnings, warnings}
use Rattle.vlm_words.specs.Rows.{blocks_request, is_empty}
use Rattle.vlm_model.specs.Effects.{with_value_block}
use Rattle.vlm_model.specs.Grants.{service}
use Rattle.vlm_model.specs.Sweeps.{blocks_after_service, is_vacant, resource_after_service, resources_after_sweep, service_asts, sweep_asts}
use Rattle.vlm_model.specs.Laws.{AreCompatible}
use Rattle.vlm_model.specs.Stepped.{Stepped, refused_or, step_change, step_refusal, stepped}
use Rattle.vlm_model.proofs.Each.{Any-behind, Any-here, Any-none, Any-there, any_left, each_append, each_weaker}
use Rattle.vlm_model.proofs.NothingLeft.{is_empty-true}
use Rattle.vlm_model.specs.BlocksRequests.{IsInTheWayOf, IsOfLockInTheWay, WarnedLocksAreInTheWay}
use Rattle.vlm_model.proofs.Completing.{change_queues, each_completion}

-- what is wanted may not be held beside this
abbrev IsKeptOut : Option Request → LockState → Type 0
IsKeptOut held other = AreCompatible other.want held → ⊥

-- the lock stands granted on some resource, in the way of what is queued there
abbrev Stands : List Resource → Queued → Type 0
Stands resources q = Any (λ r. Any (IsInTheWayOf (r.converting ++ r.waiting) q) r.granted) resources

-- so it is with each blocking AST
abbrev IsOn : List Resource → Queued → Type 0
IsOn resources q = q.ast.kind ≡ Blocking → Stands resources q

-- completions are no blocking ASTs
no_warning : (resources : List Resource) (q : Queued) → q.ast.kind ≡ Completion → IsOn resources q
no_warning resources q is warns = cc

-- ---- what is in the way keeps some request out

no : false ≡ true → ⊥
no e = cc

some_kept_out : (held : Request) (rows : List LockState) → list_any (λ row. blocks_request held.mode row.want) rows ≡ true → Any (IsKeptOut (Some held)) rows
some_kept_out held [] any = absurd (no any)
some_kept_out held (row ∷ rows) any =
    elim (or_cases (blocks_request held.mode row.want) (list_any (λ x. blocks_request held.mode x.want) rows) any) [
      | inl here ↦ Any-here (IsKeptOut (Some held)) row rows (of_want row.want here)
      | inr later ↦ Any-there (IsKeptOut (Some held)) row rows (some_kept_out held rows later)
    ]
  where
    of_want : (want : Option Request) → blocks_request held.mode want ≡ true → AreCompatible want (Some held) → ⊥
    of_want None out compatible = no out
    of_want (Some want) out compatible = no (sym (ap not compatible) ∙ out)

some_in_its_way : (held : Option Request) (converting waiting : List LockState) → blocks_a_request held converting waiting ≡ true
    → Any (IsKeptOut held) (converting ++ waiting)
some_in_its_way None converting waiting blocks = absurd (no blocks)
some_in_its_way (Some held) converting waiting blocks =
    elim (or_cases (list_any (λ x. blocks_request held.mode x.want) converting) (list_any (λ x. blocks_request held.mode x.want) waiting) blocks) [
      | inl among ↦ any_left (IsKeptOut (Some held)) converting waiting (some_kept_out held converting among)
      | inr among ↦ Any-behind (IsKeptOut (Some held)) converting waiting (some_kept_out held waiting among)
    ]

-- who is to be warned is in the way
blocks_some : (converting waiting : List LockState) (row : LockState) → is_to_warn converting waiting row ≡ true
    → Any (IsKeptOut row.held) (converting ++ waiting)
unfolding is_to_warn
blocks_some converting waiting row to_warn =
    some_in_its_way row.held converting waiting (and_parts row.armed (blocks_a_request row.held converting waiting) to_warn).1

-- ---- warnings

-- a row's warning tells of the row, as it is once it is warned
row_blocks : (converting waiting : List LockState) (row : LockState)
    → AllByRecursion (λ q. IsInTheWayOf (converting ++ waiting) q (row_after_warning converting waiting row)) (row_warnings converting waiting row)
unfolding row_after_warning row_warnings
row_blocks converting waiting row = of_test (is_to_warn converting waiting row) refl
  where
    of_routine : (routine : Option ℕ) (held : Request) → Any (IsKeptOut row.held) (converting ++ waiting)
        → AllByRecursion (λ q. IsInTheWayOf (converting ++ waiting) q (record row { armed = false })) (asts_for Blocking routine held row.lkid row.pid)
    of_routine None held some = tt
    of_routine (Some routine) held some = (record { lock = refl; process = refl; blocks_request = some }, tt)

    of_held : (held : Option Request) → Any (IsKeptOut row.held) (converting ++ waiting)
        → AllByRecursion (λ q. IsInTheWayOf (converting ++ waiting) q (record row { armed = false })) (blocking_asts held row.lkid row.pid)
    of_held None some = tt
    of_held (Some held) some = of_routine held.blocking held some

    of_test : (b : Bool) → is_to_warn converting waiting row ≡ b
        → AllByRecursion (λ q. IsInTheWayOf (converting ++ waiting) q (cond b (record row { armed = false }) row))
        (cond b (blocking_asts row.held row.lkid row.pid) [])
    of_test false _ = tt
    of_test true to_warn = of_held row.held (blocks_some converting waiting row to_warn)

rows_blocks : (converting waiting rows : List LockState)
    → AllByRecursion (λ q. Any (IsInTheWayOf (converting ++ waiting) q) (map (row_after_warning converting waiting) rows))
    (flat_map (row_warnings converting waiting) rows)
rows_blocks converting waiting [] = tt
rows_blocks converting waiting (row ∷ rows) =
    let after : LockState = row_after_warning converting waiting row in
    let others : List LockState = map (row_after_warning converting waiting) rows in
    each_append (λ q. Any (IsInTheWayOf (converting ++ waiting) q) (after ∷ others))
    (row_warnings converting waiting row) (flat_map (row_warnings converting waiting) rows)
    (each_weaker (λ q. IsInTheWayOf (converting ++ waiting) q after) (λ q. Any (IsInTheWayOf (converting ++ waiting) q) (after ∷ others))
    (λ q here. Any-here (IsInTheWayOf (converting ++ waiting) q) after others here) (row_warnings converting waiting row) (row_blocks converting waiting row))
    (each_weaker (λ q. Any (IsInTheWayOf (converting ++ waiting) q) others) (λ q. Any (IsInTheWayOf (converting ++ waiting) q) (after ∷ others))
    (λ q there. Any-there (IsInTheWayOf (converting ++ waiting) q) after others there) (flat_map (row_warnings converting waiting) rows)
    (rows_blocks converting waiting rows))

-- the lock stands in the way on this resource
abbrev StandsHere : Resource → Queued → Type 0
StandsHere r q = Any (IsInTheWayOf (r.converting ++ r.waiting) q) r.granted

warned_blocks : (block : ValueBlock) (r : Resource) → AllByRecursion (StandsHere (resource_after_warning (with_value_block block r))) (warnings r)
unfolding resource_after_warning warnings
warned_blocks block r = rows_blocks r.converting r.waiting r.granted

-- ---- sweeps

-- a resource on which a lock is granted is not dropped
here_stands : (r : Resource) (rest : List Resource) (q : Queued) → StandsHere r q → Stands (cond (not (is_vacant r)) (r ∷ rest) rest) q
here_stands r rest q here = of_test (is_vacant r) refl
  where
    of_test : (b : Bool) → is_vacant r ≡ b → Stands (cond (not b) (r ∷ rest) rest) q
    of_test false left = Any-here (λ x. StandsHere x q) r rest here
    of_test true vacant =
        absurd (Any-none (IsInTheWayOf (r.converting ++ r.waiting) q) (subst (Any (IsInTheWayOf (r.converting ++ r.waiting) q))
        (is_empty-true r.granted
        (and_parts (is_empty r.granted) (is_empty r.converting)
        (and_parts (is_empty r.granted && is_empty r.converting) (is_empty r.waiting) vacant).0).0)
        here))

-- and what stands behind it stands there still
there_stands : (r : Resource) (rest : List Resource) (q : Queued) → Stands rest q → Stands (cond (not (is_vacant r)) (r ∷ rest) rest) q
there_stands r rest q there =
    cond_both (not (is_vacant r)) (r ∷ rest) rest (λ left. Stands left q) (λ _. Any-there (λ x. StandsHere x q) r rest there) (λ _. there)

sweep_blocks : (processes : List Process) (resources : List Resource) → AllByRecursion (IsOn (resources_after_sweep processes resources)) (sweep_asts resources)
unfolding resources_after_sweep sweep_asts service_asts
sweep_blocks processes [] = tt
sweep_blocks processes (r ∷ rest) =
    let after : List Process = (blocks_after_service processes r).processes in
    let served : Resource = resource_after_service processes r in
    let behind : List Resource = resources_after_sweep after rest in
    let all : List Resource = cond (not (is_vacant served)) (served ∷ behind) behind in
    each_append (IsOn all) (service_asts r) (sweep_asts rest)
    (each_append (IsOn all) (completions_of (service r).endings) (warnings (service r).resource)
    (each_completion (IsOn all) (no_warning all) (service r).endings)
    (each_weaker (StandsHere served) (IsOn all) (λ q here warns. here_stands served behind q here) (warnings (service r).resource)
    (warned_blocks (blocks_after_service processes r).value_block (service r).resource)))
    (each_weaker (IsOn behind) (IsOn all) (λ q there warns. there_stands served behind q (there warns)) (sweep_asts rest) (sweep_blocks after rest))

-- ---- steps

made_blocks : (refusal : Option Cond) (s : State) (change : Stepped) → change.queued ≡ completions_of change.endings
    → AllByRecursion (IsOn (refused_or refusal s change).state.resources) (refused_or refusal s change).queued
made_blocks None s change queues =
    let left : List Resource = resources_after_sweep change.state.processes change.state.resources in
    each_append (IsOn left) change.queued (sweep_asts change.state.resources)
    (subst (AllByRecursion (IsOn left)) (sym queues) (each_completion (IsOn left) (no_warning left) change.endings))
    (sweep_blocks change.state.processes change.state.resources)
made_blocks (Some refusal) s change queues = tt

pub blocks_always : (s : State) (step : Step) (choice : Option LockState) → WarnedLocksAreInTheWay (stepped s step choice)
blocks_always s step choice =
    All-from_recursion (IsOfLockInTheWay (stepped s step choice).state) (stepped s step choice).queued
    (made_blocks (step_refusal s step) s (step_change s step choice) (change_queues s step choice))
