-- Who holds which mode: only the end of a lock or its conversion takes a held mode away.
use Rattle.std.proofs.Common.{◌≡◌, ◌≤◌, ◌+◌, ℕ, zero, suc, Bool, true, false, not, ◌&&◌, List, [], ◌∷◌, ◌++◌, map, drop}
use Rattle.std.proofs.Common.{cond, Option, None, Some, refl, sym, ap, inl, inr, subst, arith}
use Rattle.std.specs.Prelude.{◌==◌}
use Rattle.std.specs.List.{filter, find, list_any, sum_by}
use Rattle.std.proofs.lemmas.Bool.{and_parts, cond_both}
use Rattle.std.proofs.lemmas.Bool.Decides.{eqb_tells, nat_tests}
use Rattle.std.proofs.lemmas.List.Filters.{sum_by-filter_both}
use Rattle.std.proofs.lemmas.List.Sums.{sum_by-append, sum_by-cons, sum_by-le-sum_by, sum_by_push}
use Rattle.vlm_words.specs.declared.locks.Request.{Request}
use Rattle.vlm_words.specs.declared.locks.LockState.{LockState}
use Rattle.vlm_words.specs.declared.resources.ValueBlock.{ValueBlock}
use Rattle.vlm_words.specs.State.{Resource}
use Rattle.vlm_model.specs.Effects.{with_value_block}
use Rattle.vlm_words.specs.Rows.{granted_row, is_arming, is_lock_of, rows_of, rows_without, wanting_row}
use Rattle.vlm_model.specs.Grants.{resource_after_grant, service}
use Rattle.vlm_model.specs.Enqueue.{resource_after_entry}
use Rattle.vlm_model.specs.Convert.{resource_after_conversion, resource_after_conversion_of, resource_without_granted}
use Rattle.vlm_model.specs.Withdrawals.{Withdrawal, is_held_by_writer, resource_after_cancel}
use Rattle.vlm_model.specs.Withdrawals.{resource_after_withdrawals, resource_after_writer, resource_without}
use Rattle.vlm_model.specs.Withdrawals.{row_after_cancel, value_block_after_writer}
use Rattle.vlm_model.specs.Laws.{GrantsFirst}
use Rattle.vlm_model.proofs.Each.{Found, found_at}
use Rattle.vlm_model.proofs.Sums.{any_counts, sum_of_zero, sum_same}
use Rattle.vlm_model.proofs.Weights.{served_weighs, weigh}
use Rattle.vlm_model.proofs.LastingSums.{IsByName, grant_keeps}
use Rattle.vlm_model.proofs.IdsApart.{stands}
use Rattle.vlm_model.proofs.InOrder.{service_in_order}
use Rattle.vlm_model.specs.Asts.{resource_after_warning}
use Rattle.vlm_model.proofs.Warned.{sum_warned}
use Rattle.vlm_model.specs.Sweeps.{served_with}

-- 1 for a row of this lock of this process
abbrev pub locks : ℕ → ℕ → LockState → ℕ
locks pid lkid row = cond (is_lock_of pid lkid row) 1 0

-- how many rows of the lock hold a mode on the resource
abbrev pub held_by : ℕ → ℕ → Resource → ℕ
held_by pid lkid r = sum_by (locks pid lkid) r.granted + sum_by (locks pid lkid) r.converting

pub locks_named : (pid lkid : ℕ) → IsByName (locks pid lkid)
locks_named pid lkid row held want armed = refl

-- a lock of the process that is found among rows is counted there
pub locks_counted : (pid lkid : ℕ) (rows : List LockState) → list_any (is_lock_of pid lkid) rows ≡ true → 1 ≤ sum_by (locks pid lkid) rows
locks_counted pid lkid = any_counts (is_lock_of pid lkid) (locks pid lkid) (λ row here. ap (λ (b : Bool). cond b 1 0) here)

-- a row of the lock is one of its ID
pub locks-le-stands : (pid lkid : ℕ) (row : LockState) → locks pid lkid row ≤ stands lkid row
locks-le-stands pid lkid row = of_tests (row.lkid == lkid) (row.pid == pid)
  where
    of_tests : (a b : Bool) → cond (a && b) 1 0 ≤ cond a 1 0
    of_tests true true = omega arith
    of_tests true false = omega arith
    of_tests false b = omega arith

-- no row of another ID is of the lock
locks_elsewhere : (pid lkid other : ℕ) → (lkid == other) ≡ false → (row : LockState) → (row.lkid == other) ≡ true → locks pid lkid row ≡ 0
locks_elsewhere pid lkid other differs row is = grind (arith, nat_tests, differs, is)

-- a filter that drops rows of no weight keeps the sum
sum_kept : (f : LockState → ℕ) (keep : LockState → Bool) → ((row : LockState) → keep row ≡ false → f row ≡ 0) → (rows : List LockState)
    → sum_by f (filter keep rows) ≡ sum_by f rows
sum_kept f keep light [] = refl
sum_kept f keep light (row ∷ rows) =
    let behind : sum_by f (filter keep rows) ≡ sum_by f rows = sum_kept f keep light rows in
    elim (keep row) as (λ b. keep row ≡ b → sum_by f (cond b (row ∷ filter keep rows) (filter keep rows)) ≡ sum_by f (row ∷ rows)) [
      | true ↦ λ _. omega (arith, behind, sum_by-cons f row (filter keep rows), sum_by-cons f row rows)
      | false ↦ λ dropped. omega (arith, behind, light row dropped, sum_by-cons f row rows)
    ] refl

-- rows of another lock go, and those of this one stay
pub others_go : (pid lkid other : ℕ) → (lkid == other) ≡ false → (rows : List LockState)
    → sum_by (locks pid lkid) (rows_without other rows) ≡ sum_by (locks pid lkid) rows
others_go pid lkid other differs rows =
    sum_kept (locks pid lkid) (λ row. not (row.lkid == other))
    (λ row dropped. locks_elsewhere pid lkid other differs row (not_not (row.lkid == other) dropped)) rows
  where
    not_not : (b : Bool) → not b ≡ false → b ≡ true
    not_not true is = refl
    not_not false is = cc

-- service takes no held mode away
pub served_held : (pid lkid : ℕ) (block : ValueBlock) (r : Resource) → held_by pid lkid r ≤ held_by pid lkid (served_with block r)
unfolding resource_after_warning
served_held pid lkid block r =
    let first : GrantsFirst r (service r).resource (service r).endings = service_in_order r in
    let same : weigh (locks pid lkid) (service r).resource + sum_by (λ ending. 0) (service r).endings ≡ weigh (locks pid lkid) r =
    served_weighs (locks pid lkid) (λ ending. 0) (grant_keeps (locks pid lkid) (locks_named pid lkid)) r in
    let warned : sum_by (locks pid lkid) (served_with block r).granted ≡ sum_by (locks pid lkid) (service r).resource.granted =
    sum_warned (locks pid lkid) (λ row armed. refl) (service r).resource.converting (service r).resource.waiting (service r).resource.granted in
    omega (
      arith,
      same,
      warned,
      sum_of_zero (service r).endings,
      ap (sum_by (locks pid lkid)) first.waiting,
      fewer_left first.new_requests r.waiting,
    )
  where
    fewer_left : (n : ℕ) (rows : List LockState) → sum_by (locks pid lkid) (drop n rows) ≤ sum_by (locks pid lkid) rows
    fewer_left zero rows = omega arith
    fewer_left (suc n) [] = omega arith
    fewer_left (suc n) (row ∷ rows) = omega (arith, fewer_left n rows, sum_by-cons (locks pid lkid) row rows)

-- the entry of a lock takes none away
pub entered_held : (pid lkid : ℕ) (row : LockState) (at_once : Bool) (r : Resource) → held_by pid lkid r ≤ held_by pid lkid (resource_after_entry row at_once r)
unfolding resource_after_entry
entered_held pid lkid row at_once r =
    cond_both at_once (resource_after_grant r row) (record r { waiting = r.waiting ++ row ∷ [] }) (λ after. held_by pid lkid r ≤ held_by pid lkid after)
    (λ _. omega (arith, sum_by_push (locks pid lkid) r.granted (granted_row row))) (λ _. omega arith)

-- where a lock has one row on the resource, all that is held of an ID is held by the row that is found
only_row : (pid lkid : ℕ) (rows : List LockState) (row : LockState) (test : LockState → Bool)
    → sum_by (stands lkid) rows ≤ 1 → stands lkid row ≡ 1 → Found test rows row
    → sum_by (locks pid lkid) rows ≡ locks pid lkid row
only_row pid lkid rows row test one is at =
    let less : (xs : List LockState) → sum_by (locks pid lkid) xs ≤ sum_by (stands lkid) xs =
    λ xs. sum_by-le-sum_by (locks pid lkid) (stands lkid) xs (locks-le-stands pid lkid) in
    omega (
      arith,
      one,
      is,
      less at.before,
      less at.after,
      ap (sum_by (stands lkid)) at.split,
      ap (sum_by (locks pid lkid)) at.split,
      sum_by-append (stands lkid) at.before (row ∷ at.after),
      sum_by-append (locks pid lkid) at.before (row ∷ at.after),
      sum_by-cons (stands lkid) row at.after,
      sum_by-cons (locks pid lkid) row at.after,
    )

-- a conversion takes none away, where its lock has one row on the resource
converted_row_held : (pid lkid owner other : ℕ) (request : Request) (at_once : Bool) (block : ValueBlock) (r : Resource)
    → weigh (stands other) r ≤ 1 → (found : Option LockState)
    → find (is_lock_of owner other) r.granted ≡ found → held_by pid lkid r ≤ held_by pid lkid (resource_after_conversion_of request at_once other block r found)
converted_row_held pid lkid owner other request at_once block r one None is = omega arith
converted_row_held pid lkid owner other request at_once block r one (Some row) is =
    let at : Found (is_lock_of owner other) r.granted row = found_at (is_lock_of owner other) r.granted row is in
    let stays : sum_by (locks pid lkid) r.granted ≤ sum_by (locks pid lkid) (rows_without other r.granted) + locks pid lkid row = same_or_other at in
    elim at_once as (λ b. held_by pid lkid r
    ≤ held_by pid lkid (cond b (with_value_block block (resource_after_grant (resource_without_granted other r) (wanting_row row request)))
    (record (resource_without_granted other r) { converting = r.converting ++ wanting_row row request ∷ [] }))) [
      | true ↦ omega (
        arith,
        stays,
        locks_named pid lkid row (Some request) None (is_arming (Some request)),
        sum_by_push (locks pid lkid) (rows_without other r.granted) (granted_row (wanting_row row request)),
      )
      | false ↦ omega (
        arith,
        stays,
        locks_named pid lkid row row.held (Some request) row.armed,
        sum_by_push (locks pid lkid) r.converting (wanting_row row request),
      )
    ]
  where
    same_or_other : Found (is_lock_of owner other) r.granted row
        → sum_by (locks pid lkid) r.granted ≤ sum_by (locks pid lkid) (rows_without other r.granted) + locks pid lkid row
    same_or_other at =
        elim (eqb_tells lkid other) [
          | inl same ↦ (let counted : stands other row ≡ 1 = ap (λ (b : Bool). cond b 1 0) (and_parts (row.lkid == other) (row.pid == owner) at.passes).0 in
              let all : sum_by (locks pid other) r.granted ≡ locks pid other row =
              only_row pid other r.granted row (is_lock_of owner other) (omega (arith, one)) counted at in
              let here : sum_by (locks pid lkid) r.granted ≡ locks pid lkid row =
              subst (λ (n : ℕ). sum_by (locks pid n) r.granted ≡ locks pid n row) (sym same.1) all in
              omega (arith, here))
          | inr differs ↦ omega (arith, others_go pid lkid other differs.0 r.granted)
        ]

-- the same, for the row that is found
pub converted_held : (pid lkid owner other : ℕ) (request : Request) (at_once : Bool) (block : ValueBlock) (r : Resource) → weigh (stands other) r ≤ 1
    → held_by pid lkid r ≤ held_by pid lkid (resource_after_conversion request at_once owner other block r)
unfolding resource_after_conversion
converted_held pid lkid owner other request at_once block r one =
    converted_row_held pid lkid owner other request at_once block r one (find (is_lock_of owner other) r.granted) refl

-- a cancel takes none away: what converts is granted again
cancelled_held : (pid lkid other : ℕ) (r : Resource) → held_by pid lkid r ≤ held_by pid lkid (resource_after_cancel other r)
unfolding resource_after_cancel
cancelled_held pid lkid other r =
    omega (
      arith,
      sum_by-append (locks pid lkid) r.granted (map row_after_cancel (rows_of other r.converting)),
      sum_same (locks pid lkid) row_after_cancel (λ row. locks_named pid lkid row row.held None row.armed) (rows_of other r.converting),
      sum_by-filter_both (λ row. row.lkid == other) (λ row. not (row.lkid == other)) (λ _. refl) (locks pid lkid) r.converting,
    )

-- another lock that goes takes none away
without_held : (pid lkid other : ℕ) → (lkid == other) ≡ false → (r : Resource) → held_by pid lkid r ≤ held_by pid lkid (resource_without other r)
unfolding resource_without
without_held pid lkid other differs r = omega (arith, others_go pid lkid other differs r.granted, others_go pid lkid other differs r.converting)

-- what a lock leaves in the value block moves no row
left_held : (pid lkid : ℕ) (w : Withdrawal) (r : Resource) → held_by pid lkid (resource_after_writer w r) ≡ held_by pid lkid r
left_held pid lkid w r =
    cond_both (is_held_by_writer w.lkid r) (record r { value_block = value_block_after_writer w r.value_block }) r
    (λ left. held_by pid lkid left ≡ held_by pid lkid r) (λ _. refl) (λ _. refl)

-- a dequeue takes none of another lock away, and a cancel takes none
pub withdrawn_held : (pid lkid : ℕ) (w : Withdrawal) → (w.stays ≡ false → (lkid == w.lkid) ≡ false) → (r : Resource)
    → held_by pid lkid r ≤ held_by pid lkid (resource_after_withdrawals (w ∷ []) r)
withdrawn_held pid lkid w differs r =
    let left : Resource = resource_after_writer w r in
    cond_both w.stays (resource_after_cancel w.lkid left) (resource_without w.lkid left)
    (λ gone. held_by pid lkid r ≤ held_by pid lkid gone)
    (λ _. omega (arith, left_held pid lkid w r, cancelled_held pid lkid w.lkid left))
    (λ goes. omega (arith, left_held pid lkid w r, without_held pid lkid w.lkid (differs goes) left))
