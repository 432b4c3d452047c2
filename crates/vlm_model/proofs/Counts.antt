-- Counting wanted and ended requests: each accepted request is one of them.
use Rattle.std.proofs.Common.{◌≡◌, ◌≤◌, ◌+◌, ℕ, Bool, true, false, not, List, [], ◌∷◌, ◌++◌, map, cond, Option, None, Some, refl, ap, arith}
use Rattle.std.specs.Prelude.{◌==◌}
use Rattle.std.specs.List.{AllByRecursion, flat_map, sum_by}
use Rattle.std.proofs.lemmas.Bool.{and_parts, cond_both}
use Rattle.std.proofs.lemmas.List.{map-id}
use Rattle.std.proofs.lemmas.List.Filters.{sum_by-filter_both}
use Rattle.std.proofs.lemmas.List.Sums.{sum_by-append, sum_by-cons, sum_by_push}
use Rattle.vlm_words.specs.declared.locks.Request.{Request}
use Rattle.vlm_words.specs.declared.locks.LockState.{LockState}
use Rattle.vlm_words.specs.declared.resources.ValueBlock.{ValueBlock}
use Rattle.vlm_words.specs.State.{Process, Resource}
use Rattle.vlm_model.specs.Endings.{Ending, How, row_endings, wanted_endings}
use Rattle.vlm_model.specs.Endings.How.{by_grant}
use Rattle.vlm_model.specs.Effects.{with_value_block}
use Rattle.vlm_model.specs.Grants.{grant_act, grant_endings, resource_after_grant}
use Rattle.vlm_words.specs.Rows.{granted_row, is_lock_of, rows_of, rows_without, wanting_row}
use Rattle.vlm_model.specs.Sweeps.{resources_after_sweep, sweep_endings}
use Rattle.vlm_model.specs.Convert.{resource_after_conversion_of, resource_without_granted}
use Rattle.vlm_model.specs.Withdrawals.{resource_after_going, withdrawn_endings, Withdrawal, is_held_by_writer}
use Rattle.vlm_model.specs.Withdrawals.{queue_endings, resource_after_cancel, resource_after_withdrawals}
use Rattle.vlm_model.specs.Withdrawals.{resource_without, row_after_cancel, value_block_after_writer}
use Rattle.vlm_model.specs.Withdrawals.{withdrawal_endings}
use Rattle.vlm_model.specs.Laws.{IsHeld, times_ended, wanting_on, wants_number}
use Rattle.vlm_model.proofs.Each.{Found, each_filter, each_map, each_weaker}
use Rattle.vlm_model.proofs.RowsFit.{Fit, same_fit, withdrawn_fit}
use Rattle.vlm_model.proofs.Together.{OfOneEach, all_one_after_another, others_end_same}
use Rattle.vlm_model.proofs.Sums.{found-le-sum, sum_changed, sum_of_one, sum_of_zeros}
use Rattle.vlm_model.proofs.Weights.{GrantKeeps, swept_weighs}
use Rattle.vlm_model.proofs.IdsApart.{stands}

-- 1 where the request of this number is wanted
abbrev pub hits : ℕ → Option Request → ℕ
hits number want = cond (wants_number number want) 1 0

-- 1 for a row that wants the request of this number
abbrev pub wants : ℕ → LockState → ℕ
wants number row = hits number row.want

-- 1 for an ending of the request of this number
abbrev pub ends : ℕ → Ending → ℕ
ends number ending = cond (ending.request.number == number) 1 0

-- a request that ends has one ending
pub ended_counts : (number : ℕ) (how : How) (at_once : Bool) (lkid pid : ℕ) (want : Option Request)
    → times_ended number (wanted_endings how at_once lkid pid want) ≡ hits number want
ended_counts number how at_once lkid pid None = refl
ended_counts number how at_once lkid pid (Some request) =
    sum_of_one (ends number) (record { lkid = lkid; pid = pid; request = request; how = how; at_once = at_once })

-- the same for what a row wants
row_ends : (number : ℕ) (how : How) (at_once : Bool) (row : LockState) → times_ended number (row_endings how at_once row) ≡ wants number row
row_ends number how at_once row = ended_counts number how at_once row.lkid row.pid row.want

-- a grant keeps what is wanted and what has ended together
pub wants_kept : (number : ℕ) → GrantKeeps (wants number) (ends number)
wants_kept number at_once row = omega (arith, row_ends number (by_grant (grant_act row.held row.want)) at_once row)

-- the requests of some rows end, each once
rows_end : (number : ℕ) (how : How) (rows : List LockState)
    → times_ended number (flat_map (row_endings how false) rows) ≡ sum_by (wants number) rows
rows_end number how [] = refl
rows_end number how (row ∷ rows) =
    omega (
      arith,
      rows_end number how rows,
      row_ends number how false row,
      sum_by-cons (wants number) row rows,
      sum_by-append (ends number) (row_endings how false row) (flat_map (row_endings how false) rows),
    )

-- the rows that go from a queue end their requests
queue_ends : (number : ℕ) (how : How) (lkid : ℕ) (rows : List LockState)
    → sum_by (wants number) (rows_without lkid rows) + times_ended number (queue_endings how lkid rows) ≡ sum_by (wants number) rows
queue_ends number how lkid rows =
    omega (
      arith,
      rows_end number how (rows_of lkid rows),
      sum_by-filter_both (λ row. row.lkid == lkid) (λ row. not (row.lkid == lkid)) (λ _. refl) (wants number) rows,
    )

-- stable rows want nothing
stable_want_nothing : (number : ℕ) (rows : List LockState) → AllByRecursion IsHeld rows → sum_by (wants number) rows ≡ 0
stable_want_nothing number rows stable =
    sum_of_zeros (wants number) rows
    (each_weaker IsHeld (λ row. wants number row ≡ 0) (λ row is. ap (hits number) is.1) rows stable)

-- rows that are stable want nothing
settling_wants_nothing : (number : ℕ) (rows : List LockState) → sum_by (wants number) (map row_after_cancel rows) ≡ 0
settling_wants_nothing number [] = refl
settling_wants_nothing number (row ∷ rows) =
    omega (arith, settling_wants_nothing number rows, sum_by-cons (wants number) (row_after_cancel row) (map row_after_cancel rows))

-- a lock that goes ends its request
without_counts : (number : ℕ) (w : Withdrawal) (r : Resource) → Fit r
    → wanting_on number (resource_without w.lkid r) + times_ended number (withdrawal_endings w r) ≡ wanting_on number r
unfolding resource_without
without_counts number w r fit =
    omega (
      arith,
      stable_want_nothing number r.granted fit.granted,
      stable_want_nothing number (rows_without w.lkid r.granted) (each_filter IsHeld _ r.granted fit.granted),
      queue_ends number w.converting w.lkid r.converting,
      queue_ends number w.waiting w.lkid r.waiting,
      sum_by-append (ends number) (queue_endings w.converting w.lkid r.converting) (queue_endings w.waiting w.lkid r.waiting),
    )

-- and so does one that stays
staying_counts : (number : ℕ) (w : Withdrawal) (r : Resource)
    → wanting_on number (resource_after_cancel w.lkid r) + times_ended number (withdrawal_endings w r) ≡ wanting_on number r
unfolding resource_after_cancel
staying_counts number w r =
    omega (
      arith,
      sum_by-append (wants number) r.granted (map row_after_cancel (rows_of w.lkid r.converting)),
      settling_wants_nothing number (rows_of w.lkid r.converting),
      queue_ends number w.converting w.lkid r.converting,
      queue_ends number w.waiting w.lkid r.waiting,
      sum_by-append (ends number) (queue_endings w.converting w.lkid r.converting) (queue_endings w.waiting w.lkid r.waiting),
    )

-- a lock that goes or stays ends its request
gone_counts : (number : ℕ) (w : Withdrawal) (r : Resource) → Fit r
    → wanting_on number (resource_after_going w r) + times_ended number (withdrawal_endings w r) ≡ wanting_on number r
gone_counts number w r fit =
    cond_both w.stays (resource_after_cancel w.lkid r) (resource_without w.lkid r)
    (λ left. wanting_on number left + times_ended number (withdrawal_endings w r) ≡ wanting_on number r)
    (λ _. staying_counts number w r) (λ _. without_counts number w r fit)

-- a withdrawal ends the request of its lock, whatever it leaves in the value block
withdrawn_counts : (number : ℕ) (w : Withdrawal) (r : Resource) → Fit r
    → wanting_on number (resource_after_withdrawals (w ∷ []) r) + times_ended number (withdrawal_endings w r) ≡ wanting_on number r
withdrawn_counts number w r fit =
    let written : Resource = record r { value_block = value_block_after_writer w r.value_block } in
    cond_both (is_held_by_writer w.lkid r) written r
    (λ left. wanting_on number (resource_after_going w left) + times_ended number (withdrawal_endings w r) ≡ wanting_on number r)
    (λ _. gone_counts number w written (same_fit r written refl refl refl fit)) (λ _. gone_counts number w r fit)

all_resources_count : (number : ℕ) (w : Withdrawal) (resources : List Resource) → AllByRecursion Fit resources
    → sum_by (wanting_on number) (map (resource_after_withdrawals (w ∷ [])) resources)
    + times_ended number (flat_map (withdrawal_endings w) resources) ≡ sum_by (wanting_on number) resources
all_resources_count number w resources fit =
    sum_changed (wanting_on number) (resource_after_withdrawals (w ∷ [])) (ends number) (withdrawal_endings w) resources
    (each_weaker Fit (λ r. wanting_on number (resource_after_withdrawals (w ∷ []) r) + times_ended number (withdrawal_endings w r) ≡ wanting_on number r)
    (withdrawn_counts number w) resources fit)

-- withdrawals of locks that are apart end the requests of these, each once
withdrawals_count : (number : ℕ) (withdrawals : List Withdrawal) → OfOneEach withdrawals → (resources : List Resource) → AllByRecursion Fit resources
    → sum_by (wanting_on number) (map (resource_after_withdrawals withdrawals) resources)
    + times_ended number (withdrawn_endings withdrawals resources) ≡ sum_by (wanting_on number) resources
withdrawals_count number [] apart resources fit = omega (arith, ap (sum_by (wanting_on number)) (map-id resources))
withdrawals_count number (w ∷ withdrawals) apart resources fit =
    let after : List Resource = map (resource_after_withdrawals (w ∷ [])) resources in
    omega (
      arith,
      all_resources_count number w resources fit,
      withdrawals_count number withdrawals apart.1 after
          (each_map Fit Fit (resource_after_withdrawals (w ∷ [])) (withdrawn_fit (w ∷ [])) resources fit),
      ap (sum_by (wanting_on number)) (all_one_after_another w withdrawals apart.0 resources),
      ap (sum_by (ends number)) (others_end_same w withdrawals apart.0 resources),
      sum_by-append (ends number) (flat_map (withdrawal_endings w) resources) (withdrawn_endings withdrawals resources),
    )

-- after withdrawals and a sweep as many requests are wanted or ended
pub all_withdrawn_count : (number : ℕ) (withdrawals : List Withdrawal) → OfOneEach withdrawals → (processes : List Process) (resources : List Resource)
    → AllByRecursion Fit resources
    → sum_by (wanting_on number) (resources_after_sweep processes (map (resource_after_withdrawals withdrawals) resources))
    + times_ended number (withdrawn_endings withdrawals resources ++ sweep_endings (map (resource_after_withdrawals withdrawals) resources))
    ≡ sum_by (wanting_on number) resources
all_withdrawn_count number withdrawals apart processes resources fit =
    let changes : List Resource = map (resource_after_withdrawals withdrawals) resources in
    omega (
      arith,
      swept_weighs (wants number) (ends number) (wants_kept number) (λ row armed. refl) processes changes,
      sum_by-append (ends number) (withdrawn_endings withdrawals resources) (sweep_endings changes),
      withdrawals_count number withdrawals apart resources fit,
    )

-- a lock that is found has a row
pub found_stands : (pid lkid : ℕ) (rows : List LockState) (row : LockState) → Found (is_lock_of pid lkid) rows row → 1 ≤ sum_by (stands lkid) rows
found_stands pid lkid rows row at =
    let named : stands lkid row ≡ 1 = ap (λ (b : Bool). cond b 1 0) (and_parts (row.lkid == lkid) (row.pid == pid) at.passes).0 in
    omega (arith, found-le-sum (stands lkid) (is_lock_of pid lkid) rows row at)

-- a conversion is wanted or ends, and nothing else does
pub converted_row_counts : (number : ℕ) (request : Request) (at_once : Bool) (lkid : ℕ) (block : ValueBlock) (r : Resource) (row : LockState) → Fit r
    → wanting_on number (resource_after_conversion_of request at_once lkid block r (Some row))
    + times_ended number (cond at_once (grant_endings true (wanting_row row request)) [])
    ≡ wanting_on number r + hits number (Some request)
converted_row_counts number request at_once lkid block r row fit =
    let before : sum_by (wants number) r.granted ≡ 0 = stable_want_nothing number r.granted fit.granted in
    let after : sum_by (wants number) (rows_without lkid r.granted) ≡ 0 =
    stable_want_nothing number (rows_without lkid r.granted) (each_filter IsHeld _ r.granted fit.granted) in
    elim at_once as (λ b.
    wanting_on number
    (cond b (with_value_block block (resource_after_grant (resource_without_granted lkid r) (wanting_row row request)))
    (record (resource_without_granted lkid r) { converting = r.converting ++ wanting_row row request ∷ [] }))
    + times_ended number (cond b (grant_endings true (wanting_row row request)) []) ≡ wanting_on number r + hits number (Some request)) [
      | true ↦ omega (
        arith,
        before,
        after,
        ended_counts number (by_grant (grant_act row.held (Some request))) true row.lkid row.pid (Some request),
        sum_by_push (wants number) (rows_without lkid r.granted) (granted_row (wanting_row row request)),
      )
      | false ↦ omega (arith, before, after, sum_by_push (wants number) r.converting (wanting_row row request))
    ]
