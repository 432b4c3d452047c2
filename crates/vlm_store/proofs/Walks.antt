-- Walks from one resource to the next, and from one lock of a queue to the next: for callers.
use Rattle.std.proofs.Common.{◌≡◌, ℕ, ◌<◌, List, [], ◌∷◌, ◌++◌, length, Option, None, Some, IsSome, refl, sym, ap, ◌∙◌}
use Rattle.std.proofs.Common.{subst, inl, inr, append_assoc, eq-eqb, ne_eqb, arith}
use Rattle.std.specs.Prelude.{◌==◌, if◌then◌else◌}
use Rattle.std.specs.Option.{ForSome}
use Rattle.std.proofs.lemmas.Bool.{cases_eq}
use Rattle.std.proofs.lemmas.Option.{same_Some}
use Rattle.vlm_words.specs.declared.locks.LockState.{LockState}
use Rattle.vlm_collections.specs.Lists.{IsIn}
use Rattle.vlm_store.specs.Records.{AreApart, AreResourcesApart, StoredLock, StoredResource, at_after, first_at}
use Rattle.vlm_store.specs.Records.{first_resource_at, resource_at, resource_at_after}

-- ---- resources

-- the resources that a walk has left, the one of this handle first
abbrev pub resources_from : Option ℕ → List StoredResource → List StoredResource
resources_from None rs = []
resources_from (Some res) [] = []
resources_from (Some res) (r ∷ rest) = if r.at == res then r ∷ rest else resources_from (Some res) rest

-- a resource is among those before and behind it
pub resource_among : (r : StoredResource) (before rest : List StoredResource) → IsIn r (before ++ r ∷ rest)
resource_among r [] rest = inl refl
resource_among r (x ∷ before) rest = inr (resource_among r before rest)

-- a resource before another has another handle
resource_differs : (x r : StoredResource) (before rest : List StoredResource) → AreResourcesApart (x ∷ before ++ r ∷ rest) → ¬ (x.at ≡ r.at)
resource_differs x r before rest apart same = apart.0 r (resource_among r before rest) (sym same)

-- a resource is found by its handle, wherever it stands
pub resource_at-among : (r : StoredResource) (before rest : List StoredResource)
    → AreResourcesApart (before ++ r ∷ rest) → resource_at r.at (before ++ r ∷ rest) ≡ Some r
resource_at-among r [] rest apart = rw (eq-eqb r.at r.at refl) refl
resource_at-among r (x ∷ before) rest apart = rw (ne_eqb x.at r.at (resource_differs x r before rest apart)) (resource_at-among r before rest apart.1)

-- the resource after one is the first of those behind it
pub resource_after-among : (r : StoredResource) (before rest : List StoredResource) → AreResourcesApart (before ++ r ∷ rest)
    → resource_at_after r.at (before ++ r ∷ rest) ≡ first_resource_at rest
resource_after-among r [] rest apart = rw (eq-eqb r.at r.at refl) refl
resource_after-among r (x ∷ before) rest apart = rw (ne_eqb x.at r.at (resource_differs x r before rest apart)) (resource_after-among r before rest apart.1)

-- at a resource, it and those behind it are left
pub resources_from-among : (r : StoredResource) (before rest : List StoredResource) → AreResourcesApart (before ++ r ∷ rest)
    → resources_from (Some r.at) (before ++ r ∷ rest) ≡ r ∷ rest
resources_from-among r [] rest apart = rw (eq-eqb r.at r.at refl) refl
resources_from-among r (x ∷ before) rest apart = rw (ne_eqb x.at r.at (resource_differs x r before rest apart)) (resources_from-among r before rest apart.1)

-- at the first of the last resources, these are left
pub resources_from-first : (before rest : List StoredResource) → AreResourcesApart (before ++ rest)
    → resources_from (first_resource_at rest) (before ++ rest) ≡ rest
resources_from-first before [] apart = refl
resources_from-first before (r ∷ rest) apart = resources_from-among r before rest apart

-- the first of the last resources is there
pub first_resource-there : (before rest : List StoredResource) → AreResourcesApart (before ++ rest)
    → ForSome (first_resource_at rest) (λ res. IsSome (resource_at res (before ++ rest)))
first_resource-there before [] apart res is = cc
first_resource-there before (r ∷ rest) apart res is =
    subst (λ k. IsSome (resource_at k (before ++ r ∷ rest))) (same_Some r.at res is) (rw (resource_at-among r before rest apart) refl)

-- a walk stands at a resource: it is found, it is the first of what is left, and the next one is there
pub record IsAtResource (res : ℕ) (rs : List StoredResource) : Type 0 where
  pub r : StoredResource
  pub found : resource_at res rs ≡ Some r
  pub left : resources_from (Some res) rs ≡ r ∷ resources_from (resource_at_after res rs) rs
  pub next : ForSome (resource_at_after res rs) (λ after. IsSome (resource_at after rs))

-- where a resource stands among the others
record Split (res : ℕ) (rs : List StoredResource) : Type 0 where
  r : StoredResource
  before : List StoredResource
  rest : List StoredResource
  under_handle : r.at ≡ res
  split : before ++ r ∷ rest ≡ rs

-- a resource that is found stands among the others
split_at : (res : ℕ) (rs : List StoredResource) → IsSome (resource_at res rs) → Split res rs
split_at res [] there = cc
split_at res (x ∷ rs) there =
    elim (cases_eq x.at res) [
      | inl same ↦ record { r = x; before = []; rest = rs; under_handle = same; split = refl }
      | inr differs ↦
          let behind = split_at res rs (rw (ne_eqb x.at res differs) at there) in
          record { r = behind.r; before = x ∷ behind.before; rest = behind.rest; under_handle = behind.under_handle; split = ap (λ xs. x ∷ xs) behind.split }
    ]

-- a walk stands at a resource among others
at_among : (r : StoredResource) (before rest : List StoredResource) → AreResourcesApart (before ++ r ∷ rest) → IsAtResource r.at (before ++ r ∷ rest)
at_among r before rest apart =
    let one : before ++ r ∷ [] ++ rest ≡ before ++ r ∷ rest = append_assoc before (r ∷ []) rest in
    let others : AreResourcesApart (before ++ r ∷ [] ++ rest) = subst AreResourcesApart (sym one) apart in
    let after = resource_after-among r before rest apart in
    let behind = ap (λ xs. resources_from (first_resource_at rest) xs) (sym one) ∙ resources_from-first (before ++ r ∷ []) rest others in
    record {
      r = r;
      found = resource_at-among r before rest apart;
      left = resources_from-among r before rest apart ∙ ap (λ xs. r ∷ xs) (sym (ap (λ o. resources_from o (before ++ r ∷ rest)) after ∙ behind));
      next =
          subst (λ o. ForSome o (λ res. IsSome (resource_at res (before ++ r ∷ rest)))) (sym after)
          (subst (λ xs. ForSome (first_resource_at rest) (λ res. IsSome (resource_at res xs))) one (first_resource-there (before ++ r ∷ []) rest others));
    }

-- a walk that has come to a handle of a resource stands at this resource
pub at_resource : (res : ℕ) (rs : List StoredResource) → AreResourcesApart rs → IsSome (resource_at res rs) → IsAtResource res rs
at_resource res rs apart there =
    let split = split_at res rs there in
    subst (λ k. IsAtResource k rs) split.under_handle
    (subst (λ xs. IsAtResource split.r.at xs) split.split (at_among split.r split.before split.rest (subst AreResourcesApart (sym split.split) apart)))

-- fewer resources are left behind one than from it on
pub resources_left-fewer : (res : ℕ) (rs : List StoredResource) → IsAtResource res rs
    → length (resources_from (resource_at_after res rs) rs) < length (resources_from (Some res) rs)
resources_left-fewer res rs at = rw at.left (omega arith)

-- ---- locks

-- the locks that a walk has left, the one of this handle first
abbrev pub locks_from : Option ℕ → List StoredLock → List StoredLock
locks_from None ks = []
locks_from (Some at) [] = []
locks_from (Some at) (k ∷ rest) = if k.at == at then k ∷ rest else locks_from (Some at) rest

-- a lock is among those before and behind it
pub lock_among : (k : StoredLock) (before rest : List StoredLock) → IsIn k (before ++ k ∷ rest)
lock_among k [] rest = inl refl
lock_among k (x ∷ before) rest = inr (lock_among k before rest)

-- a lock before another has another handle
lock_differs : (x k : StoredLock) (before rest : List StoredLock) → AreApart (x ∷ before ++ k ∷ rest) → ¬ (x.at ≡ k.at)
lock_differs x k before rest apart same =
    apart.0 k.row (subst (λ at. IsIn (record { at = at; row = k.row }) (before ++ k ∷ rest)) (sym same) (lock_among k before rest))

-- the lock after one is the first of those behind it
pub after-among : (k : StoredLock) (before rest : List StoredLock) → AreApart (before ++ k ∷ rest) → at_after k.at (before ++ k ∷ rest) ≡ first_at rest
after-among k [] rest apart = rw (eq-eqb k.at k.at refl) refl
after-among k (x ∷ before) rest apart = rw (ne_eqb x.at k.at (lock_differs x k before rest apart)) (after-among k before rest apart.1)

-- at a lock, it and those behind it are left
pub locks_from-among : (k : StoredLock) (before rest : List StoredLock) → AreApart (before ++ k ∷ rest) → locks_from (Some k.at) (before ++ k ∷ rest) ≡ k ∷ rest
locks_from-among k [] rest apart = rw (eq-eqb k.at k.at refl) refl
locks_from-among k (x ∷ before) rest apart = rw (ne_eqb x.at k.at (lock_differs x k before rest apart)) (locks_from-among k before rest apart.1)

-- at the first of the last locks, these are left
pub locks_from-first : (before rest : List StoredLock) → AreApart (before ++ rest) → locks_from (first_at rest) (before ++ rest) ≡ rest
locks_from-first before [] apart = refl
locks_from-first before (k ∷ rest) apart = locks_from-among k before rest apart

-- a lock of this handle is one of these
abbrev pub HasLock : ℕ → List StoredLock → Type 0
HasLock at ks = (row : LockState) × IsIn (record { at = at; row = row }) ks

-- the first of the last locks is there
pub first-there : (before rest : List StoredLock) → ForSome (first_at rest) (λ at. HasLock at (before ++ rest))
first-there before [] at is = cc
first-there before (k ∷ rest) at is = subst (λ x. HasLock x (before ++ k ∷ rest)) (same_Some k.at at is) (k.row, lock_among k before rest)

-- a walk stands at a lock: it is among the others, it is the first of what is left, and the next one is there
pub record IsAtLock (at : ℕ) (ks : List StoredLock) : Type 0 where
  pub row : LockState
  pub among : IsIn (record { at = at; row = row }) ks
  pub left : locks_from (Some at) ks ≡ record { at = at; row = row } ∷ locks_from (at_after at ks) ks
  pub next : ForSome (at_after at ks) (λ after. HasLock after ks)

-- where a lock stands among the others
record LockSplit (k : StoredLock) (ks : List StoredLock) : Type 0 where
  before : List StoredLock
  rest : List StoredLock
  split : before ++ k ∷ rest ≡ ks

-- a lock that is one of these stands among the others
lock_split : (k : StoredLock) (ks : List StoredLock) → IsIn k ks → LockSplit k ks
lock_split k [] among = absurd among
lock_split k (x ∷ ks) among =
    elim among [
      | inl here ↦ record { before = []; rest = ks; split = ap (λ y. y ∷ ks) (sym here) }
      | inr there ↦ let behind = lock_split k ks there in record { before = x ∷ behind.before; rest = behind.rest; split = ap (λ xs. x ∷ xs) behind.split }
    ]

-- a walk stands at a lock among others
lock_at-among : (k : StoredLock) (before rest : List StoredLock) → AreApart (before ++ k ∷ rest) → IsAtLock k.at (before ++ k ∷ rest)
lock_at-among k before rest apart =
    let one : before ++ k ∷ [] ++ rest ≡ before ++ k ∷ rest = append_assoc before (k ∷ []) rest in
    let others : AreApart (before ++ k ∷ [] ++ rest) = subst AreApart (sym one) apart in
    let after = after-among k before rest apart in
    let behind = ap (λ xs. locks_from (first_at rest) xs) (sym one) ∙ locks_from-first (before ++ k ∷ []) rest others in
    record {
      row = k.row;
      among = lock_among k before rest;
      left = locks_from-among k before rest apart ∙ ap (λ xs. k ∷ xs) (sym (ap (λ o. locks_from o (before ++ k ∷ rest)) after ∙ behind));
      next =
          subst (λ o. ForSome o (λ at. HasLock at (before ++ k ∷ rest))) (sym after)
          (subst (λ xs. ForSome (first_at rest) (λ at. HasLock at xs)) one (first-there (before ++ k ∷ []) rest));
    }

-- a walk that has come to a handle of a lock stands at this lock
pub at_lock : (at : ℕ) (ks : List StoredLock) → AreApart ks → HasLock at ks → IsAtLock at ks
at_lock at ks apart there =
    let k : StoredLock = record { at = at; row = there.0 } in
    let split = lock_split k ks there.1 in
    subst (λ xs. IsAtLock at xs) split.split (lock_at-among k split.before split.rest (subst AreApart (sym split.split) apart))

-- fewer locks are left behind one than from it on
pub locks_left-fewer : (at : ℕ) (ks : List StoredLock) → IsAtLock at ks → length (locks_from (at_after at ks) ks) < length (locks_from (Some at) ks)
locks_left-fewer at ks stands = rw stands.left (omega arith)
