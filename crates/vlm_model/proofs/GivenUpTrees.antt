-- Locks that are given up together include all locks below them.
use Rattle.std.proofs.Common.{◌≡◌, ◌≤◌, ◌<◌, ◌-◌, ℕ, Bool, zero, suc, true, false, List, [], ◌∷◌, ◌++◌, map, filter}
use Rattle.std.proofs.Common.{cond, refl, sym, subst, ap, ◌∙◌, inl, inr, arith}
use Rattle.std.specs.Prelude.{◌==◌, ◌||◌, Any, nat_lt}
use Rattle.std.specs.List.{AllByRecursion, list_any, sum_by, range_with_len}
use Rattle.std.proofs.lemmas.Bool.{and_parts, eqb-true, or_cases, or_parts, or_right}
use Rattle.std.proofs.lemmas.Bool.Decides.{nat_tests}
use Rattle.std.proofs.lemmas.List.Sums.{sum_by-cons}
use Rattle.vlm_words.specs.declared.locks.LockState.{LockState}
use Rattle.vlm_words.specs.declared.steps.Dequeue.{Dequeue}
use Rattle.vlm_words.specs.State.{Resource, State}
use Rattle.vlm_model.specs.Dequeue.{dequeue_lkid, is_dequeued}
use Rattle.vlm_model.specs.OwnLocks.{has_lock_among, is_below, own_lkids, is_lock_among}
use Rattle.vlm_model.specs.Withdrawals.{Withdrawal, resource_after_withdrawals}
use Rattle.vlm_model.proofs.IdsApart.{Apart}
use Rattle.vlm_model.proofs.LocksBelow.{HasRoot, IsRowIn, as_many_levels, at_root, below_up, either, parent_is, root_of, rows_on, rows_rooted, up_at_most}
use Rattle.vlm_model.proofs.Each.{Any-behind, any_left, each_filter, each_member, each_weaker, Any-weaker}
use Rattle.vlm_model.proofs.Holdings.{held_by, locks, others_go}
use Rattle.vlm_model.proofs.EndedLocks.{AllGo, AllListed, IsListed, in_filter, or_second, row_found, row_listed, rows_left, rows_left_behind}
use Rattle.vlm_model.proofs.ReleasedValues.{any_and_each, any_so}
use Rattle.vlm_model.proofs.Rooted.{AllRooted, Position, is_parent, is_rooted, is_up, position}
use Rattle.vlm_model.proofs.Together.{from_on}
use Rattle.vlm_model.proofs.Weights.{weigh}
use Rattle.vlm_model.proofs.WhoseLocks.{NoStrangers, all_anothers, own_are_theirs, strangers, each_passing}
use Rattle.vlm_words.specs.Rows.{rows_without}

-- ---- lists of IDs

-- the number is listed
abbrev pub is_in : ℕ → List ℕ → Bool
is_in m lkids = list_any (λ n. m == n) lkids

-- what is so of each listed number
pub of_listed : (P : ℕ → Type 0) (m : ℕ) (lkids : List ℕ) → AllByRecursion P lkids → is_in m lkids ≡ true → P m
of_listed P m [] each listed = cc
of_listed P m (n ∷ lkids) each listed = elim (or_cases (m == n) (is_in m lkids) listed) [
  | inl here ↦ subst P (sym (eqb-true m n here)) each.0
  | inr later ↦ of_listed P m lkids each.1 later
]

-- what a filter leaves was there
pub was_listed : (test : ℕ → Bool) (m : ℕ) (lkids : List ℕ) → is_in m (filter test lkids) ≡ true → is_in m lkids ≡ true
was_listed test m [] listed = listed
was_listed test m (n ∷ lkids) listed = of_test (test n) (was_listed test m lkids) listed
  where
    of_test : (b : Bool) → (is_in m (filter test lkids) ≡ true → is_in m lkids ≡ true)
        → is_in m (cond b (n ∷ filter test lkids) (filter test lkids)) ≡ true → is_in m (n ∷ lkids) ≡ true
    of_test true behind there = elim (or_cases (m == n) (is_in m (filter test lkids)) there) [
      | inl here ↦ rw here refl
      | inr later ↦ or_right (m == n) (is_in m lkids) (behind later)
    ]
    of_test false behind there = or_right (m == n) (is_in m lkids) (behind there)

-- ---- the parent of a row among own locks

-- no lock has ID 0
own_from_1 : (is_one : ℕ → Bool) (s : State) → AllByRecursion (λ n. 1 ≤ n) (own_lkids is_one s)
own_from_1 is_one s =
    each_filter (λ n. 1 ≤ n) (λ lkid. list_any (has_lock_among is_one lkid) s.resources) (range_with_len 1 (s.next_lkid - 1)) (from_on 1 (s.next_lkid - 1))

-- a process that is none of theirs holds no lock of which no row is a stranger's
no_up_of_strangers : (is_one : ℕ → Bool) (pid lkid : ℕ) → is_one pid ≡ false → (p : Position) (resources : List Resource)
    → NoStrangers is_one resources lkid → list_any (is_up p pid lkid) resources ≡ true → ⊥
no_up_of_strangers is_one pid lkid other p [] none up = let no : false ≡ true = up in cc
no_up_of_strangers is_one pid lkid other p (r ∷ rest) none up = elim (or_cases (is_up p pid lkid r) (list_any (is_up p pid lkid) rest) up) [
  | inl here ↦
      (let some : nat_lt 0 (held_by pid lkid r) ≡ true = (and_parts (is_parent p r) (nat_lt 0 (held_by pid lkid r)) here).1 in
      let more : 0 < held_by pid lkid r = grind (arith, nat_tests, some) in
      omega (
        arith,
        more,
        none,
        sum_by-cons (weigh (strangers is_one lkid)) r rest,
        all_anothers is_one pid lkid other r.granted,
        all_anothers is_one pid lkid other r.converting,
      ))
  | inr later ↦
      no_up_of_strangers is_one pid lkid other p rest (omega (arith, none, sum_by-cons (weigh (strangers is_one lkid)) r rest)) later
]

module _ (s : State) (apart : Apart s) (rooted : AllByRecursion (AllRooted s.resources) s.resources) (is_one : ℕ → Bool) where
  -- a row whose parent is one of theirs is of one of them
  own_row : (row : LockState) (p : Position) → is_in row.parent (own_lkids is_one s) ≡ true → list_any (is_up p row.pid row.parent) s.resources ≡ true
      → is_one row.pid ≡ true
  own_row row p listed up = of_test (is_one row.pid) refl
    where
      none : NoStrangers is_one s.resources row.parent
      none = of_listed (NoStrangers is_one s.resources) row.parent (own_lkids is_one s) (own_are_theirs is_one s apart) listed

      of_test : (b : Bool) → is_one row.pid ≡ b → b ≡ true
      of_test true is = refl
      of_test false other = absurd (no_up_of_strangers is_one row.pid row.parent other p s.resources none up)

  -- where a row stands
  pub found_on : (row : LockState) (r : Resource) → IsRowIn (rows_on r) row → is_one row.pid ≡ true → has_lock_among is_one row.lkid r ≡ true
  found_on row r there theirs = elim (either (λ y. row ≡ y) (r.granted ++ r.converting) r.waiting there) [
    | inl first ↦ elim (either (λ y. row ≡ y) r.granted r.converting first) [
      | inl granted ↦ (let found = row_found is_one s apart row r.granted granted theirs in rw found refl)
      | inr converting ↦
          or_second (list_any (is_lock_among is_one row.lkid) r.granted)
          (list_any (is_lock_among is_one row.lkid) r.converting)
          (list_any (is_lock_among is_one row.lkid) r.waiting)
          (row_found is_one s apart row r.converting converting theirs)
    ]
    | inr waiting ↦
        or_right (list_any (is_lock_among is_one row.lkid) r.granted || list_any
        (is_lock_among is_one row.lkid) r.converting) (list_any (is_lock_among is_one row.lkid) r.waiting)
        (row_found is_one s apart row r.waiting waiting theirs)
  ]

  -- with the parent of a row its own lock is listed
  own_closed : (row : LockState) (r : Resource) → IsRowIn (rows_on r) row → Any (λ x. r ≡ x) s.resources → HasRoot s.resources r row
      → is_in row.parent (own_lkids is_one s) ≡ true → is_in row.lkid (own_lkids is_one s) ≡ true
  own_closed row r there among (at_root none) listed =
      absurd (omega (arith, of_listed (λ n. 1 ≤ n) row.parent (own_lkids is_one s) (own_from_1 is_one s) listed, none))
  own_closed row r there among (below_up up) listed =
      row_listed is_one s apart r among row.lkid (found_on row r there (own_row row (position r) listed up))

-- ---- lists of locks that are given up

-- with the parent of a row its own lock is listed, on each resource
abbrev pub Closed : State → List ℕ → Type 0
Closed s lkids = (row : LockState) (r : Resource) → IsRowIn (rows_on r) row → Any (λ x. r ≡ x) s.resources → HasRoot s.resources r row → r.level ≤ 15
    → is_in row.parent lkids ≡ true → is_in row.lkid lkids ≡ true

-- the locks of processes
pub own_are_closed : (s : State) → Apart s → AllByRecursion (AllRooted s.resources) s.resources → (is_one : ℕ → Bool) → Closed s (own_lkids is_one s)
own_are_closed s apart rooted is_one row r there among root low listed = own_closed s apart rooted is_one row r there among root listed

-- a lock is named, so it is not all of them
pub or_below : (n : ℕ) (b : Bool) → ((suc n == 0) || b) ≡ true → b ≡ true
or_below n b so = grind (arith, nat_tests, so)

-- the locks that DEQALL takes
pub taken_are_closed : (s : State) → Apart s → AllByRecursion (AllRooted s.resources) s.resources → (d : Dequeue)
    → Closed s (filter (is_dequeued s d) (own_lkids (λ pid. pid == d.pid) s))
taken_are_closed s apart rooted d row r there among root low listed =
    in_filter (is_dequeued s d) row.lkid (taken root) (own_lkids (λ pid. pid == d.pid) s)
    (own_closed s apart rooted (λ pid. pid == d.pid) row r there among root parent_owned)
  where
    parent_owned : is_in row.parent (own_lkids (λ pid. pid == d.pid) s) ≡ true
    parent_owned = was_listed (is_dequeued s d) row.parent (own_lkids (λ pid. pid == d.pid) s) listed

    parent_taken : is_dequeued s d row.parent ≡ true
    parent_taken =
        of_listed (λ n. is_dequeued s d n ≡ true) row.parent (filter (is_dequeued s d) (own_lkids (λ pid. pid == d.pid) s))
        (each_passing (is_dequeued s d) (own_lkids (λ pid. pid == d.pid) s)) listed

    of_top : (top : ℕ) → dequeue_lkid s d ≡ top → list_any (is_up (position r) row.pid row.parent) s.resources ≡ true
        → ((top == 0) || is_below 15 top s.resources row.parent) ≡ true → ((top == 0) || is_below 15 top s.resources row.lkid) ≡ true
    of_top zero is up taken = refl
    of_top (suc n) is up taken =
        or_right (suc n == 0) (is_below 15 (suc n) s.resources row.lkid)
        (subst (λ (p : ℕ). ((p == suc n) || is_below 14 (suc n) s.resources p) ≡ true) (sym (parent_is s apart row r there among))
        (or_right (row.parent == suc n) (is_below 14 (suc n) s.resources row.parent)
        (as_many_levels s apart rooted (suc n) (λ same. absurd (omega (arith, same))) 14 row.parent (up_at_most s.resources r row 14 low up)
        (or_below n (is_below 15 (suc n) s.resources row.parent) taken))))

    taken : HasRoot s.resources r row → is_dequeued s d row.lkid ≡ true
    taken (at_root none) =
        absurd (omega (arith, of_listed (λ n. 1 ≤ n) row.parent (own_lkids (λ pid. pid == d.pid) s) (own_from_1 (λ pid. pid == d.pid) s) parent_owned, none))
    taken (below_up up) = of_top (dequeue_lkid s d) refl up parent_taken

-- ---- what is left

-- the row's parent is given up
abbrev pub orphaned_by : List Withdrawal → LockState → Bool
orphaned_by withdrawals row = list_any (λ w. row.parent == w.lkid) withdrawals

pub as_listed : (f : ℕ → Withdrawal) → ((lkid : ℕ) → (f lkid).lkid ≡ lkid) → (m : ℕ) (lkids : List ℕ)
    → list_any (λ w. m == w.lkid) (map f lkids) ≡ is_in m lkids
as_listed f named m [] = refl
as_listed f named m (lkid ∷ lkids) = rw (named lkid, as_listed f named m lkids) refl

-- the rows of a queue are rows of its resource
pub granted_on : (r : Resource) → AllByRecursion (IsRowIn (rows_on r)) r.granted
granted_on r = each_weaker (IsRowIn r.granted) (IsRowIn (rows_on r))
    (λ row there. any_left (λ y. row ≡ y) (r.granted ++ r.converting) r.waiting
    (any_left (λ y. row ≡ y) r.granted r.converting there)) r.granted (each_member r.granted)

pub converting_on : (r : Resource) → AllByRecursion (IsRowIn (rows_on r)) r.converting
converting_on r = each_weaker (IsRowIn r.converting) (IsRowIn (rows_on r))
    (λ row there. any_left (λ y. row ≡ y) (r.granted ++ r.converting) r.waiting
    (Any-behind (λ y. row ≡ y) r.granted r.converting there)) r.converting (each_member r.converting)

pub waiting_on : (r : Resource) → AllByRecursion (IsRowIn (rows_on r)) r.waiting
waiting_on r = each_weaker (IsRowIn r.waiting) (IsRowIn (rows_on r))
    (λ row there. Any-behind (λ y. row ≡ y) (r.granted ++ r.converting) r.waiting there) r.waiting (each_member r.waiting)

module _ (s : State) (rooted : AllByRecursion (AllRooted s.resources) s.resources) (low : AllByRecursion (λ r. r.level ≤ 15) s.resources)
    (f : ℕ → Withdrawal) (named : (lkid : ℕ) → (f lkid).lkid ≡ lkid) (lkids : List ℕ) (closed : Closed s lkids) where
  queue_closed : (r : Resource) → Any (λ x. r ≡ x) s.resources → r.level ≤ 15 → AllRooted s.resources r → (rows : List LockState)
      → AllByRecursion (IsRowIn (rows_on r)) rows → AllByRecursion (IsListed (orphaned_by (map f lkids)) (map f lkids)) rows
  queue_closed r among level its [] each = tt
  queue_closed r among level its (row ∷ rows) each = (
    λ parent.
        as_listed f named row.lkid lkids
        ∙ any_so (is_in row.lkid lkids ≡ true) (rows_on r)
        (Any-weaker (λ y. (row ≡ y) × (is_rooted s.resources (position r) y ≡ true)) (λ y. is_in row.lkid lkids ≡ true)
        (λ y so. closed row r each.0 among
        (root_of s.resources r row (subst (λ (x : LockState). is_rooted s.resources (position r) x ≡ true) (sym so.0) so.1)) level
        (sym (as_listed f named row.parent lkids) ∙ parent)) (rows_on r)
        (any_and_each (λ y. row ≡ y) (λ y. is_rooted s.resources (position r) y ≡ true) (rows_on r) (rows_rooted s.resources r its) each.0)),
    queue_closed r among level its rows each.1,
  )

  all_closed : (rs : List Resource) → AllByRecursion (λ r. Any (λ x. r ≡ x) s.resources) rs → AllByRecursion (λ r. r.level ≤ 15) rs
      → AllByRecursion (AllRooted s.resources) rs → AllByRecursion (AllListed (orphaned_by (map f lkids)) (map f lkids)) rs
  all_closed [] among levels its = tt
  all_closed (r ∷ rest) among levels its = (
    record {
      granted = queue_closed r among.0 levels.0 its.0 r.granted (granted_on r);
      converting = queue_closed r among.0 levels.0 its.0 r.converting (converting_on r);
      waiting = queue_closed r among.0 levels.0 its.0 r.waiting (waiting_on r);
    },
    all_closed rest among.1 levels.1 its.1,
  )

  -- each row whose parent is given up is given up
  pub each_closed : AllByRecursion (AllListed (orphaned_by (map f lkids)) (map f lkids)) s.resources
  each_closed = all_closed s.resources (each_member s.resources) low rooted

-- what is held of a lock that is not given up is held
rows_stay : (pid lkid : ℕ) (withdrawals : List Withdrawal) → list_any (λ w. lkid == w.lkid) withdrawals ≡ false → (rows : List LockState)
    → sum_by (locks pid lkid) (rows_left withdrawals rows) ≡ sum_by (locks pid lkid) rows
rows_stay pid lkid [] none rows = refl
rows_stay pid lkid (w ∷ withdrawals) none rows =
    let parts = or_parts (lkid == w.lkid) (list_any (λ v. lkid == v.lkid) withdrawals) none in
    rows_stay pid lkid withdrawals parts.1 (rows_without w.lkid rows) ∙ others_go pid lkid w.lkid parts.0 rows

pub held_stays : (pid lkid : ℕ) (withdrawals : List Withdrawal) → AllGo withdrawals → list_any (λ w. lkid == w.lkid) withdrawals ≡ false
    → (r : Resource) → held_by pid lkid r ≤ held_by pid lkid (resource_after_withdrawals withdrawals r)
held_stays pid lkid withdrawals go none r =
    let left = rows_left_behind withdrawals go r in
    omega (
      arith,
      ap (sum_by (locks pid lkid)) left.granted,
      ap (sum_by (locks pid lkid)) left.converting,
      rows_stay pid lkid withdrawals none r.granted,
      rows_stay pid lkid withdrawals none r.converting,
    )
