-- The locks of processes that end are removed.
use Rattle.std.proofs.Common.{◌≡◌, ◌≤◌, ◌<◌, ◌+◌, ◌-◌, ℕ, Bool, zero, suc, true, false, not, List, [], ◌∷◌, map, filter}
use Rattle.std.proofs.Common.{cond, refl, sym, subst, ap, ◌∙◌, inl, inr, arith}
use Rattle.std.specs.Prelude.{◌==◌, ◌||◌, Any}
use Rattle.std.specs.List.{AllByRecursion, list_any, range_with_len, sum_by}
use Rattle.std.proofs.lemmas.Bool.{cond_both, eq-eqb, eqb-true}
use Rattle.std.proofs.lemmas.Bool.Decides.{eqb_tells}
use Rattle.std.proofs.lemmas.List.Folds.{list_any-from_Any}
use Rattle.std.proofs.lemmas.List.Sums.{sum_by-cons}
use Rattle.vlm_words.specs.declared.locks.LockState.{LockState}
use Rattle.vlm_words.specs.State.{Resource, State}
use Rattle.vlm_words.specs.Rows.{rows_without}
use Rattle.vlm_model.specs.OwnLocks.{has_lock_among, is_lock_among, own_lkids}
use Rattle.vlm_model.specs.Withdrawals.{Withdrawal, is_held_by_writer, resource_after_cancel, resource_after_each}
use Rattle.vlm_model.specs.Withdrawals.{resource_after_going, resource_after_withdrawals, resource_after_writer}
use Rattle.vlm_model.specs.Withdrawals.{resource_without, value_block_after_writer}
use Rattle.vlm_model.specs.Rundown.{rundown_of, rundowns}
use Rattle.vlm_model.proofs.IdsApart.{Apart, standing}
use Rattle.vlm_model.proofs.Each.{Any-weaker, each_member, each_weaker}
use Rattle.vlm_model.proofs.Sums.{sum_of_zeros}
use Rattle.vlm_model.proofs.Weights.{weigh}
use Rattle.vlm_model.proofs.WhoseLocks.{all_of, held_counted, owned, owning}

-- ---- which locks are listed

in_range : (n first many : ℕ) → first ≤ n → n < first + many → list_any (λ x. n == x) (range_with_len first many) ≡ true
in_range n first zero above below = absurd (omega (arith, above, below))
in_range n first (suc many) above below =
    elim (eqb_tells n first) [
      | inl same ↦ rw (same.0) refl
      | inr other ↦ rw (other.0) (in_range n (first + 1) many (omega (arith, above, other.1)) (omega (arith, below)))
    ]

pub in_filter : (test : ℕ → Bool) (n : ℕ) → test n ≡ true → (xs : List ℕ) → list_any (λ x. n == x) xs ≡ true
    → list_any (λ x. n == x) (filter test xs) ≡ true
in_filter test n passes [] there = cc
in_filter test n passes (x ∷ xs) there =
    elim (eqb_tells n x) [
      | inl same ↦ rw (sym (ap test same.1) ∙ passes, same.0) refl
      | inr other ↦ (let behind = in_filter test n passes xs (subst (λ (b : Bool). (b || list_any (λ y. n == y) xs) ≡ true) other.0 there) in
          cond_both (test x) (x ∷ filter test xs) (filter test xs) (λ kept. list_any (λ y. n == y) kept ≡ true)
          (λ _. rw (other.0) behind) (λ _. behind))
    ]

-- each lock of the processes is listed
pub is_listed : (is_one : ℕ → Bool) (s : State) → Apart s → (lkid : ℕ) → list_any (has_lock_among is_one lkid) s.resources ≡ true
    → list_any (λ n. lkid == n) (own_lkids is_one s) ≡ true
is_listed is_one s apart lkid held =
    let there : 1 ≤ standing lkid s.resources = omega (arith, all_of is_one lkid s.resources, held_counted is_one lkid s.resources held) in
    in_filter (λ n. list_any (has_lock_among is_one n) s.resources) lkid held (range_with_len 1 (s.next_lkid - 1))
    (in_range lkid 1 (s.next_lkid - 1) (not_0 lkid there) (below lkid there))
  where
    not_0 : (n : ℕ) → 1 ≤ standing n s.resources → 1 ≤ n
    not_0 zero there = absurd (omega (arith, there, apart.none_is_0))
    not_0 (suc n) there = omega arith

    below : (n : ℕ) → 1 ≤ standing n s.resources → n < 1 + (s.next_lkid - 1)
    below n there = grind (arith, there, apart.none_to_come n, apart.first)

-- ---- rows that are gone

-- 1 for a row of which it is so
abbrev pub so_many : (LockState → Bool) → LockState → ℕ
so_many is_so row = cond (is_so row) 1 0

-- the second of three tests holds
pub or_second : (a b c : Bool) → b ≡ true → (a || b || c) ≡ true
or_second true true c is = refl
or_second false true c is = refl
or_second a false c is = cc

-- a row of which it is so has a listed lock
abbrev pub IsListed : (LockState → Bool) → List Withdrawal → LockState → Type 0
IsListed is_so withdrawals row = is_so row ≡ true → list_any (λ w. row.lkid == w.lkid) withdrawals ≡ true

-- all rows but those of these locks
abbrev pub rows_left : List Withdrawal → List LockState → List LockState
rows_left [] rows = rows
rows_left (w ∷ withdrawals) rows = rows_left withdrawals (rows_without w.lkid rows)

others_listed : (is_so : LockState → Bool) (w : Withdrawal) (withdrawals : List Withdrawal) (rows : List LockState)
    → AllByRecursion (IsListed is_so (w ∷ withdrawals)) rows → AllByRecursion (IsListed is_so withdrawals) (rows_without w.lkid rows)
others_listed is_so w withdrawals [] each = tt
others_listed is_so w withdrawals (row ∷ rows) each =
    of_test (row.lkid == w.lkid) refl (others_listed is_so w withdrawals rows each.1)
  where
    of_test : (b : Bool) → (row.lkid == w.lkid) ≡ b → AllByRecursion (IsListed is_so withdrawals) (rows_without w.lkid rows)
        → AllByRecursion (IsListed is_so withdrawals) (cond (not b) (row ∷ rows_without w.lkid rows) (rows_without w.lkid rows))
    of_test true here behind = behind
    of_test false other behind =
        (λ so. subst (λ (b : Bool). (b || list_any (λ v. row.lkid == v.lkid) withdrawals) ≡ true) other (each.0 so), behind)

none_left : (is_so : LockState → Bool) (withdrawals : List Withdrawal) (rows : List LockState)
    → AllByRecursion (IsListed is_so withdrawals) rows → sum_by (so_many is_so) (rows_left withdrawals rows) ≡ 0
none_left is_so [] rows listed =
    sum_of_zeros (so_many is_so) rows (each_weaker (IsListed is_so []) (λ row. so_many is_so row ≡ 0) (λ row none. of_test (is_so row) none) rows listed)
  where
    of_test : (b : Bool) → (b ≡ true → false ≡ true) → cond {A = ℕ} b 1 0 ≡ 0
    of_test true none = let no : false ≡ true = none refl in cc
    of_test false none = refl
none_left is_so (w ∷ withdrawals) rows listed =
    none_left is_so withdrawals (rows_without w.lkid rows) (others_listed is_so w withdrawals rows listed)

-- ---- resources

-- all locks that are withdrawn go
abbrev pub AllGo : List Withdrawal → Type 0
AllGo = AllByRecursion (λ w. w.stays ≡ false)

-- what is left in a value block leaves the queues
pub record KeepsRows (before after : Resource) : Type 0 where
  pub granted : after.granted ≡ before.granted
  pub converting : after.converting ≡ before.converting
  pub waiting : after.waiting ≡ before.waiting

pub writers_keep_rows : (withdrawals : List Withdrawal) (r : Resource) → KeepsRows r (resource_after_each resource_after_writer withdrawals r)
writers_keep_rows [] r = record { granted = refl; converting = refl; waiting = refl }
writers_keep_rows (w ∷ withdrawals) r =
    of_test (is_held_by_writer w.lkid r) (writers_keep_rows withdrawals (record r { value_block = value_block_after_writer w r.value_block }))
    (writers_keep_rows withdrawals r)
  where
    of_test : (b : Bool)
        → KeepsRows (record r { value_block = value_block_after_writer w r.value_block })
        (resource_after_each resource_after_writer withdrawals (record r { value_block = value_block_after_writer w r.value_block }))
        → KeepsRows r (resource_after_each resource_after_writer withdrawals r)
        → KeepsRows r (resource_after_each resource_after_writer withdrawals (cond b (record r { value_block = value_block_after_writer w r.value_block }) r))
    of_test true written kept = record { granted = written.granted; converting = written.converting; waiting = written.waiting }
    of_test false written kept = kept

-- the rows of each queue that are left
pub record RowsLeft (withdrawals : List Withdrawal) (before after : Resource) : Type 0 where
  pub granted : after.granted ≡ rows_left withdrawals before.granted
  pub converting : after.converting ≡ rows_left withdrawals before.converting
  pub waiting : after.waiting ≡ rows_left withdrawals before.waiting

left_by_going : (withdrawals : List Withdrawal) → AllGo withdrawals → (r : Resource)
    → RowsLeft withdrawals r (resource_after_each resource_after_going withdrawals r)
unfolding resource_without
left_by_going [] go r = record { granted = refl; converting = refl; waiting = refl }
left_by_going (w ∷ withdrawals) go r =
    subst (λ (b : Bool). RowsLeft (w ∷ withdrawals) r
    (resource_after_each resource_after_going withdrawals (cond b (resource_after_cancel w.lkid r) (resource_without w.lkid r)))) (sym go.0)
    (let behind = left_by_going withdrawals go.1 (resource_without w.lkid r) in
    record { granted = behind.granted; converting = behind.converting; waiting = behind.waiting })

pub rows_left_behind : (withdrawals : List Withdrawal) → AllGo withdrawals → (r : Resource)
    → RowsLeft withdrawals r (resource_after_withdrawals withdrawals r)
rows_left_behind withdrawals go r =
    let kept = writers_keep_rows withdrawals r in
    let left = left_by_going withdrawals go (resource_after_each resource_after_writer withdrawals r) in
    record {
      granted = left.granted ∙ ap (rows_left withdrawals) kept.granted;
      converting = left.converting ∙ ap (rows_left withdrawals) kept.converting;
      waiting = left.waiting ∙ ap (rows_left withdrawals) kept.waiting;
    }

-- all rows of the resource of which it is so have listed locks
pub record AllListed (is_so : LockState → Bool) (withdrawals : List Withdrawal) (r : Resource) : Type 0 where
  pub granted : AllByRecursion (IsListed is_so withdrawals) r.granted
  pub converting : AllByRecursion (IsListed is_so withdrawals) r.converting
  pub waiting : AllByRecursion (IsListed is_so withdrawals) r.waiting

-- no such row is left on the resource
pub none_left_here : (is_so : LockState → Bool) (withdrawals : List Withdrawal) → AllGo withdrawals
    → (r : Resource) → AllListed is_so withdrawals r → weigh (so_many is_so) (resource_after_withdrawals withdrawals r) ≡ 0
none_left_here is_so withdrawals go r listed =
    let left = rows_left_behind withdrawals go r in
    omega (
      arith,
      ap (sum_by (so_many is_so)) left.granted,
      ap (sum_by (so_many is_so)) left.converting,
      ap (sum_by (so_many is_so)) left.waiting,
      none_left is_so withdrawals r.granted listed.granted,
      none_left is_so withdrawals r.converting listed.converting,
      none_left is_so withdrawals r.waiting listed.waiting,
    )

none_left_at_all : (is_so : LockState → Bool) (withdrawals : List Withdrawal) → AllGo withdrawals
    → (resources : List Resource) → AllByRecursion (AllListed is_so withdrawals) resources
    → sum_by (weigh (so_many is_so)) (map (resource_after_withdrawals withdrawals) resources) ≡ 0
none_left_at_all is_so withdrawals go [] listed = refl
none_left_at_all is_so withdrawals go (r ∷ rest) listed =
    omega (
      arith,
      sum_by-cons (weigh (so_many is_so)) (resource_after_withdrawals withdrawals r) (map (resource_after_withdrawals withdrawals) rest),
      none_left_at_all is_so withdrawals go rest listed.1,
      none_left_here is_so withdrawals go r listed.0,
    )

-- ---- the processes that end

pub listed_as : (lkid : ℕ) (lkids : List ℕ) → list_any (λ w. lkid == w.lkid) (map rundown_of lkids) ≡ list_any (λ n. lkid == n) lkids
listed_as lkid [] = refl
listed_as lkid (n ∷ lkids) = ap (λ (b : Bool). (lkid == n) || b) (listed_as lkid lkids)

pub all_go : (lkids : List ℕ) → AllGo (map rundown_of lkids)
all_go [] = tt
all_go (lkid ∷ lkids) = (refl, all_go lkids)

-- a row of a process that ends is one of theirs
owned_less : (is_one : ℕ → Bool) (pid : ℕ) → is_one pid ≡ true → (rows : List LockState)
    → sum_by (owned pid) rows ≤ sum_by (so_many (λ row. is_one row.pid)) rows
owned_less is_one pid ends [] = omega arith
owned_less is_one pid ends (row ∷ rows) =
    omega (
      arith,
      owned_less is_one pid ends rows,
      of_row (row.pid == pid) refl,
      sum_by-cons (owned pid) row rows,
      sum_by-cons (so_many (λ row. is_one row.pid)) row rows,
    )
  where
    of_row : (b : Bool) → (row.pid == pid) ≡ b → cond {A = ℕ} b 1 0 ≤ cond (is_one row.pid) 1 0
    of_row true is = rw (ap is_one (eqb-true row.pid pid is) ∙ ends) (omega arith)
    of_row false is = omega arith

all_owned_less : (is_one : ℕ → Bool) (pid : ℕ) → is_one pid ≡ true → (resources : List Resource)
    → owning pid resources ≤ sum_by (weigh (so_many (λ row. is_one row.pid))) resources
all_owned_less is_one pid ends [] = omega arith
all_owned_less is_one pid ends (r ∷ rest) =
    omega (
      arith,
      all_owned_less is_one pid ends rest,
      owned_less is_one pid ends r.granted,
      owned_less is_one pid ends r.converting,
      owned_less is_one pid ends r.waiting,
      sum_by-cons (weigh (owned pid)) r rest,
      sum_by-cons (weigh (so_many (λ row. is_one row.pid))) r rest,
    )

-- the row is of one of the processes
abbrev pub is_theirs : (ℕ → Bool) → LockState → Bool
is_theirs is_one row = is_one row.pid

module _ (is_one : ℕ → Bool) (s : State) (apart : Apart s) where
  -- a row of a queue of a resource
  pub row_listed : (r : Resource) → Any (λ x. r ≡ x) s.resources
      → ((lkid : ℕ) → has_lock_among is_one lkid r ≡ true → list_any (λ n. lkid == n) (own_lkids is_one s) ≡ true)
  row_listed r among lkid held =
      is_listed is_one s apart lkid
      (list_any-from_Any (has_lock_among is_one lkid) s.resources
      (Any-weaker (λ x. r ≡ x) (λ x. has_lock_among is_one lkid x ≡ true)
      (λ x same. subst (λ (q : Resource). has_lock_among is_one lkid q ≡ true) same held) s.resources among))

  -- the row is found in its queue
  pub row_found : (row : LockState) (rows : List LockState) → Any (λ y. row ≡ y) rows → is_one row.pid ≡ true
      → list_any (is_lock_among is_one row.lkid) rows ≡ true
  row_found row rows among theirs =
      list_any-from_Any (is_lock_among is_one row.lkid) rows
      (Any-weaker (λ y. row ≡ y) (λ y. is_lock_among is_one row.lkid y ≡ true)
      (λ y same. subst (λ (q : LockState). is_lock_among is_one row.lkid q ≡ true) same (rw (eq-eqb row.lkid row.lkid refl, theirs) refl)) rows among)

  queue_listed : (r : Resource) → Any (λ x. r ≡ x) s.resources → (rows all : List LockState)
      → ((lkid : ℕ) → list_any (is_lock_among is_one lkid) all ≡ true → has_lock_among is_one lkid r ≡ true)
      → AllByRecursion (λ row. Any (λ y. row ≡ y) all) rows → AllByRecursion (IsListed (is_theirs is_one) (rundowns is_one s)) rows
  queue_listed r among rows all holds each =
      each_weaker (λ row. Any (λ y. row ≡ y) all) (IsListed (is_theirs is_one) (rundowns is_one s))
      (λ row there theirs. listed_as row.lkid (own_lkids is_one s) ∙ row_listed r among row.lkid (holds row.lkid (row_found row all there theirs))) rows each

  pub resource_listed : (r : Resource) → Any (λ x. r ≡ x) s.resources → AllListed (is_theirs is_one) (rundowns is_one s) r
  resource_listed r among = record {
    granted = queue_listed r among r.granted r.granted (λ lkid held. rw held refl) (each_member r.granted);
    converting = queue_listed r among r.converting r.converting
        (λ lkid held. or_second (list_any (is_lock_among is_one lkid) r.granted)
        (list_any (is_lock_among is_one lkid) r.converting) (list_any (is_lock_among is_one lkid) r.waiting) held)
        (each_member r.converting);
    waiting = queue_listed r among r.waiting r.waiting
        (λ lkid held. third_of
        (list_any (is_lock_among is_one lkid) r.granted || list_any (is_lock_among is_one lkid) r.converting)
        (list_any (is_lock_among is_one lkid) r.waiting) held) (each_member r.waiting);
  }
    where
      third_of : (a b : Bool) → b ≡ true → (a || b) ≡ true
      third_of true true is = refl
      third_of false true is = refl
      third_of a false is = cc

  -- of processes that end no lock is left
  none_of_theirs : sum_by (weigh (so_many (is_theirs is_one))) (map (resource_after_withdrawals (rundowns is_one s)) s.resources) ≡ 0
  none_of_theirs =
      none_left_at_all (is_theirs is_one) (rundowns is_one s) (all_go (own_lkids is_one s)) s.resources
      (each_weaker (λ r. Any (λ x. r ≡ x) s.resources) (AllListed (is_theirs is_one) (rundowns is_one s)) resource_listed s.resources (each_member s.resources))

  pub no_lock_left : (pid : ℕ) → is_one pid ≡ true → owning pid (map (resource_after_withdrawals (rundowns is_one s)) s.resources) ≡ 0
  no_lock_left pid ends =
      omega (arith, none_of_theirs, all_owned_less is_one pid ends (map (resource_after_withdrawals (rundowns is_one s)) s.resources))
