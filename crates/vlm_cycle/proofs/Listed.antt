-- Rows in lists, and those before one.
use Rattle.std.proofs.Common.{◌≡◌, ◌≢◌, ℕ, List, [], ◌∷◌, ◌++◌, map, refl, sym, ap, ◌∙◌, subst, inl, inr, eq-eqb, ne_eqb}
use Rattle.std.specs.Prelude.{Any}
use Rattle.std.proofs.lemmas.Bool.{cases_eq}
use Rattle.vlm_words.specs.declared.locks.LockState.{LockState}
use Rattle.vlm_model.specs.Deadlocks.{IsRowAmong}
use Rattle.vlm_words.specs.State.{Resource}
use Rattle.vlm_model.proofs.Each.{Any-cases, Any-here, Any-none, Any-there}
use Rattle.vlm_collections.specs.Lists.{IsIn}
use Rattle.vlm_store.specs.Plain.{plain_resource}
use Rattle.vlm_store.specs.Records.{StoredLock, StoredResource, rows_of_locks}
use Rattle.vlm_cycle.specs.Waiting.{rows_before}
use Rattle.vlm_collections.proofs.HandleLists.{in_behind, in_either}

pub among_is : (row : LockState) (rows : List LockState) → IsRowAmong rows row → IsIn row rows
among_is row [] some = absurd (Any-none (λ (other : LockState). other ≡ row) some)
among_is row (x ∷ rows) some = elim (Any-cases (λ (other : LockState). other ≡ row) x rows some) [
  | inl here ↦ inl here
  | inr later ↦ inr (among_is row rows later)
]

pub is_among : (row : LockState) (rows : List LockState) → IsIn row rows → IsRowAmong rows row
is_among row [] there = absurd there
is_among row (x ∷ rows) there = elim there [
  | inl here ↦ Any-here (λ (other : LockState). other ≡ row) x rows here
  | inr later ↦ Any-there (λ (other : LockState). other ≡ row) x rows (is_among row rows later)
]

-- a row is that of a lock
pub row_in : (k : StoredLock) (ks : List StoredLock) → IsIn k ks → IsIn k.row (rows_of_locks ks)
row_in k [] there = absurd there
row_in k (x ∷ ks) there = elim there [ inl here ↦ inl (ap (λ (y : StoredLock). y.row) here) | inr later ↦ inr (row_in k ks later) ]

pub lock_of : (row : LockState) (ks : List StoredLock) → IsIn row (rows_of_locks ks) → (k : StoredLock) × (IsIn k ks × (k.row ≡ row))
lock_of row [] there = absurd there
lock_of row (x ∷ ks) there = elim there [
  | inl here ↦ (x, (inl refl, here))
  | inr later ↦ (let found = lock_of row ks later in (found.0, (inr found.1.0, found.1.1)))
]

-- what holds of a stored resource holds of some plain one, and the other way
pub any_resource : (P : Resource → Type 0) (r : StoredResource) (rs : List StoredResource) → IsIn r rs → P (plain_resource r) → Any P (map plain_resource rs)
any_resource P r [] there holds = absurd there
any_resource P r (x ∷ rs) there holds = elim there [
  | inl here ↦ Any-here P (plain_resource x) (map plain_resource rs) (subst (λ y. P (plain_resource y)) (sym here) holds)
  | inr later ↦ Any-there P (plain_resource x) (map plain_resource rs) (any_resource P r rs later holds)
]

pub some_resource : (P : Resource → Type 0) (rs : List StoredResource) → Any P (map plain_resource rs)
    → (r : StoredResource) × (IsIn r rs × P (plain_resource r))
some_resource P [] some = absurd (Any-none P some)
some_resource P (x ∷ rs) some = elim (Any-cases P (plain_resource x) (map plain_resource rs) some) [
  | inl here ↦ (x, (inl refl, here))
  | inr later ↦ (let found = some_resource P rs later in (found.0, (inr found.1.0, found.1.1)))
]

-- ---- rows before one

-- no two rows have one ID
abbrev pub RowsApart : List LockState → Type 0
RowsApart [] = Unit {0}
RowsApart (row ∷ rows) = ((other : LockState) → IsIn other rows → other.lkid ≡ row.lkid → ⊥) × RowsApart rows

pub apart_both : (xs ys : List LockState) → RowsApart xs → RowsApart ys
    → ((a b : LockState) → IsIn a xs → IsIn b ys → b.lkid ≡ a.lkid → ⊥) → RowsApart (xs ++ ys)
apart_both [] ys first second cross = second
apart_both (x ∷ xs) ys first second cross = (
  λ other there same. elim (in_either other xs ys there) [
    | inl left ↦ first.0 other left same
    | inr right ↦ cross x other (inl refl) right same
  ],
  apart_both xs ys first.1 second (λ a b in_a in_b. cross a b (inr in_a) in_b),
)

-- a row parts the list
pub split_before : (rows : List LockState) (row : LockState) → RowsApart rows → IsIn row rows
    → (behind : List LockState) × (rows ≡ rows_before row.lkid rows ++ row ∷ behind)
split_before [] row apart there = absurd there
split_before (x ∷ rows) row apart there = elim there [
  | inl here ↦ (rows, rw (eq-eqb x.lkid row.lkid (ap (λ (y : LockState). y.lkid) here)) (ap (λ y. y ∷ rows) here))
  | inr later ↦
      (let found = split_before rows row apart.1 later in
      (found.0, rw (ne_eqb x.lkid row.lkid (λ same. apart.0 row later (sym same))) (ap (λ ys. x ∷ ys) found.1)))
]

pub before_is : (before : List LockState) (row : LockState) (behind : List LockState)
    → RowsApart (before ++ row ∷ behind) → rows_before row.lkid (before ++ row ∷ behind) ≡ before
before_is [] row behind apart = rw (eq-eqb row.lkid row.lkid refl) refl
before_is (x ∷ before) row behind apart =
    rw (ne_eqb x.lkid row.lkid (λ same. apart.0 row (in_behind row before (row ∷ behind) (inl refl)) (sym same)))
    (ap (λ ys. x ∷ ys) (before_is before row behind apart.1))

pub before_differs : (lkid : ℕ) (rows : List LockState) (other : LockState) → IsIn other (rows_before lkid rows) → other.lkid ≢ lkid
before_differs lkid [] other there = absurd there
before_differs lkid (x ∷ rows) other there = elim (cases_eq x.lkid lkid) [
  | inl same ↦ absurd (rw (eq-eqb x.lkid lkid same) at there)
  | inr differs ↦ of_cons differs (before_differs lkid rows other) (rw (ne_eqb x.lkid lkid differs) at there)
]
  where
    of_cons : x.lkid ≢ lkid → (IsIn other (rows_before lkid rows) → other.lkid ≢ lkid) → IsIn other (x ∷ rows_before lkid rows) → other.lkid ≢ lkid
    of_cons differs behind some = elim some [
      | inl here ↦ (λ same. differs (ap (λ (y : LockState). y.lkid) here ∙ same))
      | inr later ↦ behind later
    ]

-- those before one that stands in the first list are of that list
pub before_stops : (xs ys : List LockState) (row : LockState) → IsIn row xs → rows_before row.lkid (xs ++ ys) ≡ rows_before row.lkid xs
before_stops [] ys row there = absurd there
before_stops (x ∷ xs) ys row there = elim (cases_eq x.lkid row.lkid) [
  | inl same ↦ rw (eq-eqb x.lkid row.lkid same) refl
  | inr differs ↦
      rw (ne_eqb x.lkid row.lkid differs)
      (ap (λ zs. x ∷ zs) (before_stops xs ys row (elim there [ inl here ↦ absurd (differs (ap (λ (y : LockState). y.lkid) here)) | inr later ↦ later ])))
]

-- those before one that doesn't are all of the first, and more
pub before_passes : (lkid : ℕ) (xs ys : List LockState) → ((x : LockState) → IsIn x xs → x.lkid ≢ lkid)
    → rows_before lkid (xs ++ ys) ≡ rows_before lkid xs ++ rows_before lkid ys
before_passes lkid [] ys none = refl
before_passes lkid (x ∷ xs) ys none = rw (ne_eqb x.lkid lkid (none x (inl refl))) (ap (λ zs. x ∷ zs) (before_passes lkid xs ys (λ z there. none z (inr there))))

-- before a lock the row is one of those, and the first
pub before_step : (lkid : ℕ) (row : LockState) (rest : List LockState) → row.lkid ≢ lkid → rows_before lkid (row ∷ rest) ≡ row ∷ rows_before lkid rest
before_step lkid row rest differs = rw (ne_eqb row.lkid lkid differs) refl
