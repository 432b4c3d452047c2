-- A sweep leaves what is stable, and all is stable between the steps.
use Rattle.std.proofs.Common.{◌≡◌, Bool, true, false, not, cond, List, [], ◌∷◌, ◌++◌, filter, flat_map, refl, sym, ap, ◌∙◌, map, ◌&&◌}
use Rattle.std.specs.List.{AllByRecursion, list_any}
use Rattle.std.proofs.lemmas.List.{append-nil}
use Rattle.std.proofs.lemmas.List.Elements.{All-from_recursion}
use Rattle.vlm_words.specs.declared.locks.LockState.{LockState}
use Rattle.vlm_words.specs.State.{Process, Resource, State}
use Rattle.vlm_words.specs.Rows.{is_empty}
use Rattle.vlm_model.specs.Grants.{no_service, service}
use Rattle.vlm_model.specs.Sweeps.{blocks_after_service, is_vacant, processes_after_service, resource_after_service}
use Rattle.vlm_model.specs.Sweeps.{resources_after_service, resources_after_sweep, sweep_endings, service_asts}
use Rattle.vlm_model.specs.Sweeps.{sweep_asts}
use Rattle.vlm_model.specs.Declare.{declare_change}
use Rattle.vlm_model.specs.SetValue.{set_change}
use Rattle.vlm_model.specs.Take.{take_change}
use Rattle.vlm_model.specs.Enqueue.{enq_change}
use Rattle.vlm_model.specs.Convert.{convert_change}
use Rattle.vlm_model.specs.Rundown.{state_after_rundown}
use Rattle.vlm_model.specs.Runs.{History, Run}
use Rattle.vlm_model.specs.Laws.{IsVacant, NoResourceIsVacant}
use Rattle.vlm_model.specs.Stable.{IsStable, IsSweptNext, IsUnswept, unless_vacant}
use Rattle.vlm_model.proofs.Always.{always, kept_by_stepped}
use Rattle.vlm_model.proofs.Each.{each_weaker}
use Rattle.vlm_model.proofs.NothingLeft.{HeadsWait, NothingFits, nothing_fits_always, served_stops, kept_by_all, warned_stops}
use Rattle.std.proofs.lemmas.Bool.{or_parts, or_from}
use Rattle.vlm_model.specs.Asts.{is_to_warn, row_after_warning, row_warnings, has_to_warn, resource_after_warning, warnings, blocks_a_request}
use Rattle.vlm_model.specs.Effects.{with_value_block}
use Rattle.std.specs.Prelude.{⊤}
use Rattle.vlm_model.proofs.EachResource.{each_always}
use Rattle.vlm_model.specs.Withdrawals.{state_after_withdrawals}

-- ---- some lock is left

-- a lock is left on the resource
abbrev Occupied : Resource → Type 0
Occupied r = is_vacant r ≡ false

each_occupied : (resources : List Resource) → AllByRecursion Occupied (filter (λ r. not (is_vacant r)) resources)
each_occupied [] = tt
each_occupied (r ∷ rest) =
    elim (is_vacant r) as (λ b. is_vacant r ≡ b
    → AllByRecursion Occupied
    (cond (not b) (r ∷ filter (λ x. not (is_vacant x)) rest) (filter (λ x. not (is_vacant x)) rest))) [
      | true ↦ λ _. each_occupied rest
      | false ↦ λ is. (is, each_occupied rest)
    ] refl

occupied_swept : (processes : List Process) (resources : List Resource) → AllByRecursion Occupied (resources_after_sweep processes resources)
unfolding resources_after_sweep
occupied_swept processes resources = each_occupied (resources_after_service processes resources)

occupied_always : (history : History) (last : State) → Run history last → AllByRecursion Occupied last.resources
occupied_always =
    always (λ _ s. AllByRecursion Occupied s.resources) tt
    (λ history s _ each.
    kept_by_stepped (λ _ s. AllByRecursion Occupied s.resources) history.endings s each
    (λ d _. occupied_swept (declare_change s d).processes (declare_change s d).resources)
    (λ v _. occupied_swept (set_change s v).processes (set_change s v).resources)
    (λ taker _. occupied_swept (take_change s taker).processes (take_change s taker).resources)
    (λ e _. occupied_swept (enq_change s e).processes (enq_change s e).resources)
    (λ c a _ _. occupied_swept (convert_change s c a).processes (convert_change s c a).resources)
    (λ withdrawals _. occupied_swept (state_after_withdrawals withdrawals s).processes (state_after_withdrawals withdrawals s).resources)
    (λ is_one nodes _. occupied_swept (state_after_rundown is_one nodes s).processes (state_after_rundown is_one nodes s).resources))

occupied_not_vacant : (r : Resource) → Occupied r → IsVacant r → ⊥
occupied_not_vacant r occupied vacant =
    let none : is_vacant r ≡ true = rw (ap is_empty vacant.granted, ap is_empty vacant.converting, ap is_empty vacant.waiting) refl in
    true_false (sym none ∙ occupied)
  where
    true_false : true ≡ false → ⊥
    true_false e = cc

-- no resource is without locks
pub occupied_law : (history : History) (last : State) → Run history last → NoResourceIsVacant last
occupied_law history last run =
    All-from_recursion (λ r. IsVacant r → ⊥) last.resources
    (each_weaker Occupied (λ r. IsVacant r → ⊥) occupied_not_vacant last.resources (occupied_always history last run))

-- ---- nobody is warned

-- where no row is to be warned, none is
none_warned : (converting waiting rows : List LockState) → list_any (is_to_warn converting waiting) rows ≡ false
    → (map (row_after_warning converting waiting) rows ≡ rows) × (flat_map (row_warnings converting waiting) rows ≡ [])
unfolding row_after_warning row_warnings
none_warned converting waiting [] none = (refl, refl)
none_warned converting waiting (row ∷ rows) none =
    let parts = or_parts (is_to_warn converting waiting row) (list_any (is_to_warn converting waiting) rows) none in
    let behind = none_warned converting waiting rows parts.1 in
    (rw parts.0 (ap (λ (all : List LockState). row ∷ all) behind.0), rw parts.0 behind.1)

-- so the resource stays, and nothing is queued
pub unwarned_stays : (r : Resource) → has_to_warn r ≡ false → resource_after_warning r ≡ r
unfolding has_to_warn resource_after_warning
unwarned_stays r none = ap (λ (rows : List LockState). record r { granted = rows }) (none_warned r.converting r.waiting r.granted none).0

pub unwarned_says_nothing : (r : Resource) → has_to_warn r ≡ false → warnings r ≡ []
unfolding has_to_warn warnings
unwarned_says_nothing r none = (none_warned r.converting r.waiting r.granted none).1

-- who is warned is not to be warned again
warned_once : (converting waiting rows : List LockState) → list_any (is_to_warn converting waiting) (map (row_after_warning converting waiting) rows) ≡ false
unfolding row_after_warning is_to_warn
warned_once converting waiting [] = refl
warned_once converting waiting (row ∷ rows) =
    or_from (is_to_warn converting waiting (row_after_warning converting waiting row)) _
    (of_test (row.armed && blocks_a_request row.held converting waiting) refl) (warned_once converting waiting rows)
  where
    of_test : (b : Bool) → (row.armed && blocks_a_request row.held converting waiting) ≡ b
        → is_to_warn converting waiting (cond b (record row { armed = false }) row) ≡ false
    of_test true is = refl
    of_test false is = is

-- nobody is left to warn on a resource that is served
abbrev Unwarned : Resource → Type 0
Unwarned r = has_to_warn r ≡ false

served_unwarned : (r : Resource) → Unwarned (resource_after_warning r)
unfolding has_to_warn resource_after_warning
served_unwarned r = warned_once r.converting r.waiting r.granted

-- after every run
pub unwarned_always : (history : History) (last : State) → Run history last → AllByRecursion Unwarned last.resources
unwarned_always history last run =
    each_always (λ _. ⊤) Unwarned (λ _ _. tt) (λ block r _. served_unwarned (with_value_block block (service r).resource)) kept_by_all history last run

-- ---- nothing is granted

-- where the heads wait, nothing is granted
served_again : (base : Resource) (converting waiting : List LockState) → HeadsWait base.granted converting waiting
    → service (record base { converting = converting; waiting = waiting }) ≡ no_service (record base { converting = converting; waiting = waiting })
unfolding service
served_again base [] [] waits = refl
served_again base [] (row ∷ rows) waits = rw waits refl
served_again base (row ∷ rows) waiting waits = rw waits refl

nothing_granted : (r : Resource) → NothingFits r → service r ≡ no_service r
nothing_granted r waits = served_again r r.converting r.waiting waits

all_stable : (resources : List Resource) → AllByRecursion NothingFits resources → AllByRecursion Unwarned resources → AllByRecursion Occupied resources
    → AllByRecursion IsStable resources
all_stable [] waits unwarned occupied = tt
all_stable (r ∷ rest) waits unwarned occupied = (
  record { served = nothing_granted r waits.0; warned = unwarned.0; occupied = occupied.0 },
  all_stable rest waits.1 unwarned.1 occupied.1,
)

-- every resource is stable
pub stable_law : (history : History) (last : State) → Run history last → AllByRecursion IsStable last.resources
stable_law history last run =
    all_stable last.resources (nothing_fits_always history last run) (unwarned_always history last run) (occupied_always history last run)

-- ---- the sweep

-- what is stable is served to itself
module _ (processes : List Process) (r : Resource) (stable : IsStable r) where
  same_statuses : (blocks_after_service processes r).processes ≡ processes
  unfolding blocks_after_service
  same_statuses = rw (stable.served, unwarned_says_nothing r stable.warned) refl

  same_resource : resource_after_service processes r ≡ r
  unfolding blocks_after_service
  same_resource = rw stable.served (unwarned_stays r stable.warned)

  no_ends : (service r).endings ≡ []
  no_ends = rw stable.served refl

  no_asts : service_asts r ≡ []
  unfolding service_asts
  no_asts = rw (stable.served, unwarned_says_nothing r stable.warned) refl

-- stable resources at the head are passed
passed : (processes : List Process) (before rest : List Resource) → AllByRecursion IsStable before
    → (resources_after_service processes (before ++ rest) ≡ before ++ resources_after_service processes rest)
    × (processes_after_service processes (before ++ rest) ≡ processes_after_service processes rest)
    × (flat_map (λ r. (service r).endings) (before ++ rest) ≡ flat_map (λ r. (service r).endings) rest)
    × (flat_map service_asts (before ++ rest) ≡ flat_map service_asts rest)
passed processes [] rest stable = (refl, refl, refl, refl)
passed processes (r ∷ before) rest stable =
    let more = passed processes before rest stable.1 in
    let statuses = same_statuses processes r stable.0 in (
      rw (same_resource processes r stable.0, statuses) (ap (λ rs. r ∷ rs) more.0),
      ap (λ ps. processes_after_service ps (before ++ rest)) statuses ∙ more.1,
      rw (no_ends processes r stable.0) more.2,
      rw (no_asts processes r stable.0) more.3,
    )

-- and none of them is dropped
none_dropped : (before rest : List Resource) → AllByRecursion IsStable before
    → filter (λ r. not (is_vacant r)) (before ++ rest) ≡ before ++ filter (λ r. not (is_vacant r)) rest
none_dropped [] rest stable = refl
none_dropped (r ∷ before) rest stable = rw stable.0.occupied (ap (λ rs. r ∷ rs) (none_dropped before rest stable.1))

-- so a sweep begins behind them
swept_behind : (processes : List Process) (before rest : List Resource) → AllByRecursion IsStable before
    → resources_after_sweep processes (before ++ rest) ≡ before ++ resources_after_sweep processes rest
unfolding resources_after_sweep
swept_behind processes before rest stable =
    ap (filter (λ r. not (is_vacant r))) (passed processes before rest stable).0
    ∙ none_dropped before (resources_after_service processes rest) stable

ends_behind : (before rest : List Resource) → AllByRecursion IsStable before → sweep_endings (before ++ rest) ≡ sweep_endings rest
unfolding sweep_endings
ends_behind before rest stable = (passed [] before rest stable).2

asts_behind : (before rest : List Resource) → AllByRecursion IsStable before → sweep_asts (before ++ rest) ≡ sweep_asts rest
unfolding sweep_asts
asts_behind before rest stable = (passed [] before rest stable).3

-- the first resource is served, and dropped if it has no lock
swept_first : (processes : List Process) (r : Resource) (after : List Resource)
    → resources_after_sweep processes (r ∷ after)
    ≡ unless_vacant (resource_after_service processes r) ++ resources_after_sweep (blocks_after_service processes r).processes after
unfolding resources_after_sweep
swept_first processes r after =
    let served = resource_after_service processes r in
    let rest = filter (λ x. not (is_vacant x)) (resources_after_service (blocks_after_service processes r).processes after) in
    elim (is_vacant served) as (λ b. cond (not b) (served ∷ rest) rest ≡ cond b [] (served ∷ []) ++ rest) [ true ↦ refl | false ↦ refl ]

ends_first : (r : Resource) (after : List Resource) → sweep_endings (r ∷ after) ≡ (service r).endings ++ sweep_endings after
unfolding sweep_endings
ends_first r after = refl

asts_first : (r : Resource) (after : List Resource) → sweep_asts (r ∷ after) ≡ service_asts r ++ sweep_asts after
unfolding sweep_asts
asts_first r after = refl

-- a resource that is served is stable, if a lock is left on it
served_stable : (processes : List Process) (r : Resource) → AllByRecursion IsStable (unless_vacant (resource_after_service processes r))
served_stable processes r = of_test (is_vacant (resource_after_service processes r)) refl
  where
    of_test : (b : Bool) → is_vacant (resource_after_service processes r) ≡ b → AllByRecursion IsStable (cond b [] (resource_after_service processes r ∷ []))
    of_test true is = tt
    of_test false is = (
      record {
        served =
            nothing_granted (resource_after_service processes r)
            (warned_stops (with_value_block (blocks_after_service processes r).value_block (service r).resource) (served_stops r));
        warned = served_unwarned (with_value_block (blocks_after_service processes r).value_block (service r).resource);
        occupied = is;
      },
      tt,
    )

-- a sweep goes on with the first resource that is not stable
pub swept_next : (processes : List Process) (before : List Resource) (r : Resource) (after : List Resource) → AllByRecursion IsStable before
    → IsSweptNext processes before r after
swept_next processes before r after first =
    let later = (blocks_after_service processes r).processes in
    let left = unless_vacant (resource_after_service processes r) in
    let stable = served_stable processes r in
    record {
      resources =
          swept_behind processes before (r ∷ after) first
          ∙ ap (λ rs. before ++ rs) (swept_first processes r after ∙ sym (swept_behind later left after stable))
          ∙ sym (swept_behind later before (left ++ after) first);
      statuses =
          (passed processes before (r ∷ after) first).1
          ∙ sym ((passed later before (left ++ after) first).1 ∙ (passed later left after stable).1);
      ends =
          ends_behind before (r ∷ after) first ∙ ends_first r after
          ∙ ap (λ es. (service r).endings ++ es) (sym (ends_behind before (left ++ after) first ∙ ends_behind left after stable));
      asts =
          asts_behind before (r ∷ after) first ∙ asts_first r after
          ∙ ap (λ qs. service_asts r ++ qs) (sym (asts_behind before (left ++ after) first ∙ asts_behind left after stable));
      stable = stable;
    }

-- where all are stable it does nothing
pub unswept : (processes : List Process) (resources : List Resource) → AllByRecursion IsStable resources → IsUnswept processes resources
unfolding resources_after_sweep sweep_endings sweep_asts
unswept processes resources stable =
    let all = append-nil resources in
    record {
      resources = ap (resources_after_sweep processes) (sym all) ∙ swept_behind processes resources [] stable ∙ all;
      statuses = ap (processes_after_service processes) (sym all) ∙ (passed processes resources [] stable).1;
      none_ends = ap sweep_endings (sym all) ∙ ends_behind resources [] stable;
      none_queued = ap sweep_asts (sym all) ∙ asts_behind resources [] stable;
    }
