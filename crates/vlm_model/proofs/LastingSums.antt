-- Sums over parts of a lock that never change: only a new request adds to them.
use Rattle.std.proofs.Common.{◌≡◌, ◌≤◌, ◌+◌, ℕ, Bool, true, false, not, List, [], ◌∷◌, ◌++◌, map, cond, Option, None, Some, refl, ap, arith}
use Rattle.std.specs.Prelude.{◌==◌}
use Rattle.std.specs.List.{find, sum_by}
use Rattle.std.proofs.lemmas.Bool.{and_parts, cond_both}
use Rattle.std.proofs.lemmas.List.Filters.{sum_by-filter_both}
use Rattle.std.proofs.lemmas.List.Sums.{sum_by-append, sum_by_push}
use Rattle.vlm_words.specs.declared.locks.Request.{Request}
use Rattle.vlm_words.specs.declared.locks.LockState.{LockState}
use Rattle.vlm_words.specs.declared.resources.ValueBlock.{ValueBlock}
use Rattle.vlm_words.specs.declared.steps.NewRequest.{NewRequest}
use Rattle.vlm_words.specs.State.{Process, Resource, State}
use Rattle.vlm_model.specs.Endings.{Ending}
use Rattle.vlm_model.specs.Effects.{with_value_block}
use Rattle.vlm_model.specs.Grants.{grant_endings, resource_after_grant}
use Rattle.vlm_words.specs.Rows.{granted_row, is_arming, is_lock_of, rows_of, rows_without, wanting_row}
use Rattle.vlm_model.specs.Sweeps.{resources_after_sweep, sweep_endings}
use Rattle.vlm_model.specs.Trees.{enq_site}
use Rattle.vlm_model.specs.Enqueue.{enq_at_once, enq_change, enq_endings, enq_resource, enq_row}
use Rattle.vlm_model.specs.Convert.{resource_after_conversion, resource_after_conversion_of, resource_without_granted}
use Rattle.vlm_model.specs.Withdrawals.{resource_after_going, resource_after_withdrawals, Withdrawal, is_held_by_writer}
use Rattle.vlm_model.specs.Withdrawals.{resource_after_cancel, resource_after_withdrawals, resource_after_writer}
use Rattle.vlm_model.specs.Withdrawals.{resource_without, row_after_cancel, value_block_after_writer}
use Rattle.vlm_model.proofs.Each.{Found, found_at}
use Rattle.vlm_model.proofs.Sums.{sum_of_zero, sum_filter-le, sum_filter_but-le, sum_changed-le, sum_same}
use Rattle.vlm_model.proofs.Weights.{weigh, GrantKeeps, swept_weighs, entered_among_weighs}
use Rattle.vlm_model.proofs.Withdrawing.{kept_withdrawn}
use Rattle.vlm_model.proofs.Warned.{IsArmedBlind}

-- what a row weighs does not depend on what it holds and wants
abbrev pub IsByName : (LockState → ℕ) → Type 0
IsByName f = (row : LockState) (held want : Option Request) (armed : Bool) → f (record row { held = held; want = want; armed = armed }) ≡ f row

-- a grant keeps what the row weighs, and its ending does not count here
pub grant_keeps : (f : LockState → ℕ) → IsByName f → GrantKeeps f (λ ending. 0)
grant_keeps f named at_once row = omega (arith, named row row.want None (is_arming row.want), sum_of_zero (grant_endings at_once row))

-- nor on whether it is armed
pub armed_blind : (f : LockState → ℕ) → IsByName f → IsArmedBlind f
armed_blind f named row armed = named row row.held row.want armed

-- a sweep keeps what all weigh
pub swept_named : (f : LockState → ℕ) → IsByName f → (processes : List Process) (resources : List Resource)
    → sum_by (weigh f) (resources_after_sweep processes resources) ≡ sum_by (weigh f) resources
swept_named f named processes resources =
    omega (arith, swept_weighs f (λ ending. 0) (grant_keeps f named) (armed_blind f named) processes resources, sum_of_zero (sweep_endings resources))

-- a new request adds what its row weighs
pub entered_named : (f : LockState → ℕ) → IsByName f → (s : State) (e : NewRequest)
    → sum_by (weigh f) (resources_after_sweep (enq_change s e).processes (enq_change s e).resources) ≡ sum_by (weigh f) s.resources + f (enq_row s e)
unfolding enq_change enq_resource
entered_named f named s e =
    omega (
      arith,
      swept_named f named (enq_change s e).processes (enq_change s e).resources,
      entered_among_weighs f (λ ending. 0) (grant_keeps f named) s.next_serial (enq_site s e) (enq_row s e) (enq_at_once s e) s.resources,
      sum_of_zero {X = Ending} (enq_endings s e),
    )

-- a conversion adds no weight, whichever row is found
converted_row_named : (f : LockState → ℕ) → IsByName f
    → (request : Request) (at_once : Bool) (pid lkid : ℕ) (block : ValueBlock) (r : Resource) (found : Option LockState)
    → find (is_lock_of pid lkid) r.granted ≡ found → weigh f (resource_after_conversion_of request at_once lkid block r found) ≤ weigh f r
converted_row_named f named request at_once pid lkid block r None is = omega arith
converted_row_named f named request at_once pid lkid block r (Some row) is =
    let at : Found (is_lock_of pid lkid) r.granted row = found_at (is_lock_of pid lkid) r.granted row is in
    let fewer : sum_by f (rows_without lkid r.granted) + f row ≤ sum_by f r.granted =
    sum_filter_but-le f (is_lock_of pid lkid) (λ each. not (each.lkid == lkid)) r.granted row
    (ap not (and_parts (row.lkid == lkid) (row.pid == pid) at.passes).0) at in
    let wanting : f (wanting_row row request) ≡ f row = named row row.held (Some request) row.armed in
    let granted : f (granted_row (wanting_row row request)) ≡ f row = named row (Some request) None (is_arming (Some request)) in
    elim at_once as (λ b.
    weigh f (cond b (with_value_block block (resource_after_grant (resource_without_granted lkid r) (wanting_row row request)))
    (record (resource_without_granted lkid r) { converting = r.converting ++ wanting_row row request ∷ [] })) ≤ weigh f r) [
      | true ↦ omega (arith, fewer, granted, sum_by_push f (rows_without lkid r.granted) (granted_row (wanting_row row request)))
      | false ↦ omega (arith, fewer, wanting, sum_by_push f r.converting (wanting_row row request))
    ]

-- the same, for the row that is found
pub converted_named : (f : LockState → ℕ) → IsByName f → (request : Request) (at_once : Bool) (pid lkid : ℕ) (block : ValueBlock) (r : Resource)
    → weigh f (resource_after_conversion request at_once pid lkid block r) ≤ weigh f r
unfolding resource_after_conversion
converted_named f named request at_once pid lkid block r = converted_row_named f named request at_once pid lkid block r
    (find (is_lock_of pid lkid) r.granted) refl

-- a lock that goes adds no weight
without_named : (f : LockState → ℕ) (lkid : ℕ) (r : Resource) → weigh f (resource_without lkid r) ≤ weigh f r
unfolding resource_without
without_named f lkid r =
    omega (
      arith,
      sum_filter-le f (λ row. not (row.lkid == lkid)) r.granted,
      sum_filter-le f (λ row. not (row.lkid == lkid)) r.converting,
      sum_filter-le f (λ row. not (row.lkid == lkid)) r.waiting,
    )

-- a cancel adds no weight
cancelled_named : (f : LockState → ℕ) → IsByName f → (lkid : ℕ) (r : Resource) → weigh f (resource_after_cancel lkid r) ≤ weigh f r
unfolding resource_after_cancel
cancelled_named f named lkid r =
    omega (
      arith,
      sum_by-append f r.granted (map row_after_cancel (rows_of lkid r.converting)),
      sum_same f row_after_cancel (λ row. named row row.held None row.armed) (rows_of lkid r.converting),
      sum_by-filter_both (λ row. row.lkid == lkid) (λ row. not (row.lkid == lkid)) (λ _. refl) f r.converting,
      sum_filter-le f (λ row. not (row.lkid == lkid)) r.waiting,
    )

-- what a lock leaves in the value block moves no row
left_named : (f : LockState → ℕ) (w : Withdrawal) (r : Resource) → weigh f (resource_after_writer w r) ≡ weigh f r
left_named f w r =
    cond_both (is_held_by_writer w.lkid r) (record r { value_block = value_block_after_writer w r.value_block }) r
    (λ left. weigh f left ≡ weigh f r) (λ _. refl) (λ _. refl)

-- a lock that goes or stays adds no weight
gone_named : (f : LockState → ℕ) → IsByName f → (w : Withdrawal) (r : Resource) → weigh f (resource_after_going w r) ≤ weigh f r
gone_named f named w r =
    cond_both w.stays (resource_after_cancel w.lkid r) (resource_without w.lkid r) (λ left. weigh f left ≤ weigh f r)
    (λ _. cancelled_named f named w.lkid r) (λ _. without_named f w.lkid r)

-- withdrawals add no weight
pub withdrawn_named : (f : LockState → ℕ) → IsByName f → (withdrawals : List Withdrawal) (r : Resource)
    → weigh f (resource_after_withdrawals withdrawals r) ≤ weigh f r
withdrawn_named f named withdrawals r =
    kept_withdrawn (λ left. weigh f left ≤ weigh f r)
    (λ w left fewer. omega (arith, left_named f w left, fewer))
    (λ w left fewer. omega (arith, gone_named f named w left, fewer)) withdrawals r (omega arith)

-- a change that adds no weight on any resource adds none to all, once they are swept
pub changed_named : (f : LockState → ℕ) → IsByName f → (change : Resource → Resource) → ((r : Resource) → weigh f (change r) ≤ weigh f r)
    → (processes : List Process) (resources : List Resource)
    → sum_by (weigh f) (resources_after_sweep processes (map change resources)) ≤ sum_by (weigh f) resources
changed_named f named change fewer processes resources =
    omega (arith, swept_named f named processes (map change resources), sum_changed-le (weigh f) change fewer resources)
