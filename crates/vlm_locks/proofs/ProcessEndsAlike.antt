-- The end of processes changes a resource in the same way, lock by lock in the records and in the plain machine.
use Rattle.std.proofs.Common.{◌≡◌, ℕ, Bool, true, false, not, List, [], ◌∷◌, map, cond, refl, sym, subst, ap, ◌∙◌, arith, inl, inr}
use Rattle.std.specs.Prelude.{◌==◌, ◌||◌, Any}
use Rattle.std.specs.List.{AllByRecursion, filter, list_any, sum_by}
use Rattle.std.proofs.lemmas.Bool.{eq-eqb, or_right}
use Rattle.std.proofs.lemmas.List.Sums.{sum_by-cons}
use Rattle.vlm_words.specs.declared.locks.LockState.{LockState}
use Rattle.vlm_model.specs.OwnLocks.{own_lkids}
use Rattle.vlm_model.specs.Rundown.{rundowns}
use Rattle.vlm_words.specs.State.{Resource, State}
use Rattle.vlm_model.specs.Endings.{How}
use Rattle.vlm_model.specs.Endings.How.{by_rundown}
use Rattle.vlm_model.specs.Withdrawals.{Withdrawal, resource_after_withdrawals}
use Rattle.vlm_model.proofs.IdsApart.{Apart}
use Rattle.vlm_model.proofs.Each.{Any-cases, Any-none, Any-weaker, each_filter, each_member, each_weaker}
use Rattle.vlm_model.proofs.EndedLocks.{AllGo, IsListed, all_go, is_theirs, none_left_here, resource_listed, rows_left_behind, so_many}
use Rattle.vlm_model.proofs.ReleasedValues.{any_and_each, any_so, no_stranger}
use Rattle.vlm_model.proofs.Together.{OfOneEach, one_after_another, rundowns_apart}
use Rattle.vlm_model.proofs.Weights.{weigh}
use Rattle.vlm_model.proofs.WhoseLocks.{NoStrangers, own_are_theirs, strangers}
use Rattle.vlm_locks.specs.Left.{giving_up, is_among, resource_left}
use Rattle.vlm_locks.specs.RunningDown.{resource_after_rundown}
use Rattle.vlm_locks.proofs.ReleasedResources.{IsOthers, IsOwnRow, OthersAlone, OwnRows, nothing_left, one_withdrawn}

-- ---- lists

-- where a sum is 0, so is each of its terms
each_is_0 : {X : Type 0} (f : X → ℕ) (xs : List X) → sum_by f xs ≡ 0 → AllByRecursion (λ x. f x ≡ 0) xs
each_is_0 f [] none = tt
each_is_0 f (x ∷ xs) none = (omega (arith, none, sum_by-cons f x xs), each_is_0 f xs (omega (arith, none, sum_by-cons f x xs)))

-- what holds of each element holds of one of them
of_member : {X : Type 0} (P : X → Type 0) (xs : List X) → AllByRecursion P xs → (x : X) → Any (λ y. x ≡ y) xs → P x
of_member P xs each x among =
    any_so (P x) xs
    (Any-weaker (λ y. (x ≡ y) × P y) (λ y. P x) (λ y so. subst P (sym so.0) so.1) xs (any_and_each (λ y. x ≡ y) P xs each among))

-- functions that agree on each element
same_images : {X Y : Type 0} (f g : X → Y) (xs : List X) → AllByRecursion (λ x. f x ≡ g x) xs → map f xs ≡ map g xs
same_images f g [] same = refl
same_images f g (x ∷ xs) same =
    let here : f x ≡ g x = same.0 in
    let behind : map f xs ≡ map g xs = same_images f g xs same.1 in
    cc

-- ---- the locks are theirs

-- where no row of the lock is a stranger's, all are theirs
rows_own : (is_one : ℕ → Bool) (lkid : ℕ) (rows : List LockState) → sum_by (strangers is_one lkid) rows ≡ 0
    → AllByRecursion (IsOwnRow (is_theirs is_one) lkid) rows
rows_own is_one lkid rows none =
    each_weaker (λ row. strangers is_one lkid row ≡ 0) (IsOwnRow (is_theirs is_one) lkid) (λ row zero same. no_stranger is_one lkid row zero same) rows
    (each_is_0 (strangers is_one lkid) rows none)

own_here : (is_one : ℕ → Bool) (lkid : ℕ) (r : Resource) → weigh (strangers is_one lkid) r ≡ 0 → OwnRows (is_theirs is_one) lkid r
own_here is_one lkid r none = record {
  granted = rows_own is_one lkid r.granted (omega (arith, none));
  converting = rows_own is_one lkid r.converting (omega (arith, none));
  waiting = rows_own is_one lkid r.waiting (omega (arith, none));
}

-- and they are still, once another lock is gone
own_still : (goes : LockState → Bool) (waiting converting : How) (invalidates : Bool) (lkid other : ℕ) (r : Resource) → OwnRows goes other r
    → OwnRows goes other (resource_after_withdrawals (giving_up waiting converting invalidates lkid ∷ []) r)
own_still goes waiting converting invalidates lkid other r own =
    let left = rows_left_behind (giving_up waiting converting invalidates lkid ∷ []) (refl, tt) r in
    record {
      granted = subst (AllByRecursion (IsOwnRow goes other)) (sym left.granted) (but_one r.granted own.granted);
      converting = subst (AllByRecursion (IsOwnRow goes other)) (sym left.converting) (but_one r.converting own.converting);
      waiting = subst (AllByRecursion (IsOwnRow goes other)) (sym left.waiting) (but_one r.waiting own.waiting);
    }
  where
    but_one : (rows : List LockState) → AllByRecursion (IsOwnRow goes other) rows
        → AllByRecursion (IsOwnRow goes other) (filter (λ row. not (row.lkid == lkid)) rows)
    but_one rows each = each_filter (IsOwnRow goes other) (λ row. not (row.lkid == lkid)) rows each

-- ---- lock by lock

-- what is left is the same once some of the locks that go are withdrawn
some_withdrawn : (goes : LockState → Bool) (waiting converting : How) (invalidates : Bool) (lkids : List ℕ)
    → OfOneEach (map (giving_up waiting converting invalidates) lkids) → (r : Resource) → AllByRecursion (λ lkid. OwnRows goes lkid r) lkids
    → resource_left goes invalidates (resource_after_withdrawals (map (giving_up waiting converting invalidates) lkids) r) ≡ resource_left goes invalidates r
some_withdrawn goes waiting converting invalidates [] apart r own = refl
some_withdrawn goes waiting converting invalidates (lkid ∷ lkids) apart r own =
    let gives : ℕ → Withdrawal = giving_up waiting converting invalidates in
    let after : Resource = resource_after_withdrawals (gives lkid ∷ []) r in
    ap (resource_left goes invalidates) (one_after_another (gives lkid) (map gives lkids) apart.0 r)
    ∙ some_withdrawn goes waiting converting invalidates lkids apart.1 after
    (each_weaker (λ n. OwnRows goes n r) (λ n. OwnRows goes n after) (λ n own_n. own_still goes waiting converting invalidates lkid n r own_n) lkids own.1)
    ∙ one_withdrawn goes waiting converting invalidates lkid r own.0

-- where none of the rows that go is left, all stay
others_rows : (goes : LockState → Bool) (rows : List LockState) → sum_by (so_many goes) rows ≡ 0 → AllByRecursion (IsOthers goes) rows
others_rows goes rows none =
    each_weaker (λ row. so_many goes row ≡ 0) (IsOthers goes) (λ row zero. of_test (goes row) zero) rows
    (each_is_0 (so_many goes) rows none)
  where
    of_test : (b : Bool) → cond {A = ℕ} b 1 0 ≡ 0 → b ≡ false
    of_test true one = cc
    of_test false none = refl

others_here : (goes : LockState → Bool) (r : Resource) → weigh (so_many goes) r ≡ 0 → OthersAlone goes r
others_here goes r none = record {
  granted = others_rows goes r.granted (omega (arith, none));
  converting = others_rows goes r.converting (omega (arith, none));
  waiting = others_rows goes r.waiting (omega (arith, none));
}

-- ---- locks of which it is told by their IDs

module _ (waiting converting : How) (invalidates : Bool) (lkids : List ℕ) where
  each_goes : (rest : List ℕ) → AllGo (map (giving_up waiting converting invalidates) rest)
  each_goes [] = tt
  each_goes (lkid ∷ rest) = (refl, each_goes rest)

  -- the rows of a listed lock go
  list_has : (n lkid : ℕ) (ns : List ℕ) → Any (λ x. n ≡ x) ns → lkid ≡ n → list_any (λ x. lkid == x) ns ≡ true
  list_has n lkid [] there same = absurd (Any-none (λ x. n ≡ x) there)
  list_has n lkid (x ∷ ns) there same = elim (Any-cases (λ y. n ≡ y) x ns there) [
    | inl here ↦ rw (eq-eqb lkid x (same ∙ here)) refl
    | inr later ↦ or_right (lkid == x) (list_any (λ y. lkid == y) ns) (list_has n lkid ns later same)
  ]

  rows_listed : (n : ℕ) → Any (λ x. n ≡ x) lkids → (rows : List LockState) → AllByRecursion (IsOwnRow (is_among lkids) n) rows
  rows_listed n there [] = tt
  rows_listed n there (row ∷ rows) = (list_has n row.lkid lkids there, rows_listed n there rows)

  listed_own : (r : Resource) → AllByRecursion (λ lkid. OwnRows (is_among lkids) lkid r) lkids
  listed_own r =
      each_weaker (λ n. Any (λ x. n ≡ x) lkids) (λ n. OwnRows (is_among lkids) n r)
      (λ n there. record { granted = rows_listed n there r.granted; converting = rows_listed n there r.converting; waiting = rows_listed n there r.waiting })
      lkids (each_member lkids)

  -- a row that goes is of a listed lock
  any_mapped : (lkid : ℕ) (ns : List ℕ) → list_any (λ x. lkid == x) ns ≡ true
      → list_any (λ (w : Withdrawal). lkid == w.lkid) (map (giving_up waiting converting invalidates) ns) ≡ true
  any_mapped lkid [] some = some
  any_mapped lkid (x ∷ ns) some = of_test (lkid == x) some (any_mapped lkid ns)
    where
      of_test : (b : Bool) → (b || list_any (λ y. lkid == y) ns) ≡ true
          → (list_any (λ y. lkid == y) ns ≡ true → list_any (λ (w : Withdrawal). lkid == w.lkid) (map (giving_up waiting converting invalidates) ns) ≡ true)
          → (b || list_any (λ (w : Withdrawal). lkid == w.lkid) (map (giving_up waiting converting invalidates) ns)) ≡ true
      of_test true is later = refl
      of_test false is later = later is

  each_listed : (rows : List LockState) → AllByRecursion (IsListed (is_among lkids) (map (giving_up waiting converting invalidates) lkids)) rows
  each_listed [] = tt
  each_listed (row ∷ rows) = (any_mapped row.lkid lkids, each_listed rows)

  -- what becomes of a resource whose listed locks are given up together is what is said of it row by row
  pub given_up_by_rows : OfOneEach (map (giving_up waiting converting invalidates) lkids) → (r : Resource)
      → resource_after_withdrawals (map (giving_up waiting converting invalidates) lkids) r ≡ resource_left (is_among lkids) invalidates r
  given_up_by_rows apart r =
      sym (nothing_left (is_among lkids) invalidates (resource_after_withdrawals (map (giving_up waiting converting invalidates) lkids) r)
      (others_here (is_among lkids) (resource_after_withdrawals (map (giving_up waiting converting invalidates) lkids) r)
      (none_left_here (is_among lkids) (map (giving_up waiting converting invalidates) lkids) (each_goes lkids) r
      (record { granted = each_listed r.granted; converting = each_listed r.converting; waiting = each_listed r.waiting }))))
      ∙ some_withdrawn (is_among lkids) waiting converting invalidates lkids apart r (listed_own r)

-- ---- all their locks

module _ (is_one : ℕ → Bool) (s : State) (apart : Apart s) where
  -- each of the locks has none but rows of these processes on the resource
  all_own : (r : Resource) → Any (λ x. r ≡ x) s.resources → AllByRecursion (λ lkid. OwnRows (is_theirs is_one) lkid r) (own_lkids is_one s)
  all_own r among =
      each_weaker (NoStrangers is_one s.resources) (λ lkid. OwnRows (is_theirs is_one) lkid r)
      (λ lkid none. own_here is_one lkid r
      (of_member (λ x. weigh (strangers is_one lkid) x ≡ 0) s.resources (each_is_0 (weigh (strangers is_one lkid)) s.resources none) r among))
      (own_lkids is_one s) (own_are_theirs is_one s apart)

  resource_by_rows : (r : Resource) → Any (λ x. r ≡ x) s.resources
      → resource_after_withdrawals (rundowns is_one s) r ≡ resource_after_rundown is_one r
  resource_by_rows r among =
      sym (nothing_left (is_theirs is_one) true (resource_after_withdrawals (rundowns is_one s) r)
      (others_here (is_theirs is_one) (resource_after_withdrawals (rundowns is_one s) r)
      (none_left_here (is_theirs is_one) (rundowns is_one s) (all_go (own_lkids is_one s)) r (resource_listed is_one s apart r among))))
      ∙ some_withdrawn (is_theirs is_one) by_rundown by_rundown true (own_lkids is_one s) (rundowns_apart is_one s) r (all_own r among)

-- what becomes of the resources where processes end, their locks withdrawn together, is what is said of it row by row
pub rundown_by_rows : (s : State) (is_one : ℕ → Bool) → Apart s
    → map (resource_after_withdrawals (rundowns is_one s)) s.resources ≡ map (resource_after_rundown is_one) s.resources
rundown_by_rows s is_one apart =
    same_images (resource_after_withdrawals (rundowns is_one s)) (resource_after_rundown is_one) s.resources
    (each_weaker (λ r. Any (λ x. r ≡ x) s.resources)
    (λ r. resource_after_withdrawals (rundowns is_one s) r ≡ resource_after_rundown is_one r)
    (λ r among. resource_by_rows is_one s apart r among) s.resources (each_member s.resources))
