-- The state of a lock in a list, found by its handle and by its ID.
use Rattle.std.proofs.Common.{◌≡◌, ◌≢◌, ℕ, List, [], ◌∷◌, true, false, find, None, Some, refl, sym, ap, ◌∙◌, subst, inl, inr, eq-eqb, ne_eqb}
use Rattle.std.specs.List.{list_any}
use Rattle.std.proofs.lemmas.Bool.{cases_eq, or_right}
use Rattle.vlm_words.specs.Rows.{is_lock_of, rows_without}
use Rattle.vlm_words.specs.Rows as plain
use Rattle.vlm_collections.specs.Lists.{IsIn}
use Rattle.vlm_store.specs.Records.{AreApart, StoredLock, rows_of_locks, without_lock}

-- no lock of the list has this ID
abbrev pub IsAbsent : ℕ → List StoredLock → Type 0
IsAbsent lkid locks = (k : StoredLock) → IsIn k locks → k.row.lkid ≢ lkid

-- the lock of this handle is the only one of the list with the ID of this row, and has this row
abbrev pub IsOnly : StoredLock → List StoredLock → Type 0
IsOnly lock locks = (k : StoredLock) → IsIn k locks → (k.row.lkid ≡ lock.row.lkid → k ≡ lock) × (k.at ≡ lock.at → k ≡ lock)

-- ---- a lock that is not there

pub without-absent : (lkid : ℕ) (locks : List StoredLock) → IsAbsent lkid locks → rows_without lkid (rows_of_locks locks) ≡ rows_of_locks locks
without-absent lkid [] absent = refl
without-absent lkid (k ∷ rest) absent =
    rw (ne_eqb k.row.lkid lkid (absent k (inl refl))) (ap (λ xs. k.row ∷ xs) (without-absent lkid rest (λ x there. absent x (inr there))))

pub rows-absent : (lkid : ℕ) (locks : List StoredLock) → IsAbsent lkid locks → plain.rows_of lkid (rows_of_locks locks) ≡ []
rows-absent lkid [] absent = refl
rows-absent lkid (k ∷ rest) absent = rw (ne_eqb k.row.lkid lkid (absent k (inl refl))) (rows-absent lkid rest (λ x there. absent x (inr there)))

pub find-absent : (pid lkid : ℕ) (locks : List StoredLock) → IsAbsent lkid locks → find (is_lock_of pid lkid) (rows_of_locks locks) ≡ None
find-absent pid lkid [] absent = refl
find-absent pid lkid (k ∷ rest) absent = rw (ne_eqb k.row.lkid lkid (absent k (inl refl))) (find-absent pid lkid rest (λ x there. absent x (inr there)))

-- no lock of the list is that of the process
pub any-not : (pid lkid : ℕ) (locks : List StoredLock)
    → ((k : StoredLock) → IsIn k locks → k.row.lkid ≡ lkid → k.row.pid ≢ pid)
    → list_any (is_lock_of pid lkid) (rows_of_locks locks) ≡ false
any-not pid lkid [] other = refl
any-not pid lkid (k ∷ rest) other =
    elim (cases_eq k.row.lkid lkid) [
      | inl same ↦ rw (eq-eqb k.row.lkid lkid same, ne_eqb k.row.pid pid (other k (inl refl) same)) (any-not pid lkid rest (λ x there. other x (inr there)))
      | inr differs ↦ rw (ne_eqb k.row.lkid lkid differs) (any-not pid lkid rest (λ x there. other x (inr there)))
    ]

pub any-absent : (pid lkid : ℕ) (locks : List StoredLock) → IsAbsent lkid locks → list_any (is_lock_of pid lkid) (rows_of_locks locks) ≡ false
any-absent pid lkid locks absent = any-not pid lkid locks (λ k among same. absurd (absent k among same))

-- ---- a lock that is there

pub any-among : (lock : StoredLock) (locks : List StoredLock) → IsIn lock locks → list_any (is_lock_of lock.row.pid lock.row.lkid) (rows_of_locks locks) ≡ true
any-among lock [] among = absurd among
any-among lock (k ∷ rest) among =
    elim among [
      | inl here ↦
          rw (
            eq-eqb k.row.lkid lock.row.lkid (ap (λ (x : StoredLock). x.row.lkid) here),
            eq-eqb k.row.pid lock.row.pid (ap (λ (x : StoredLock). x.row.pid) here),
          ) refl
      | inr there ↦
          or_right (is_lock_of lock.row.pid lock.row.lkid k.row)
          (list_any (is_lock_of lock.row.pid lock.row.lkid) (rows_of_locks rest)) (any-among lock rest there)
    ]

pub find-only : (lock : StoredLock) (locks : List StoredLock) → IsOnly lock locks → IsIn lock locks
    → find (is_lock_of lock.row.pid lock.row.lkid) (rows_of_locks locks) ≡ Some lock.row
find-only lock [] only among = absurd among
find-only lock (k ∷ rest) only among =
    elim (cases_eq k.row.lkid lock.row.lkid) [
      | inl same ↦
          let is : k ≡ lock = (only k (inl refl)).0 same in
          rw (
            eq-eqb k.row.lkid lock.row.lkid same,
            eq-eqb k.row.pid lock.row.pid (ap (λ (x : StoredLock). x.row.pid) is),
          )
          (ap (λ (x : StoredLock). Some x.row) is)
      | inr differs ↦
          rw (ne_eqb k.row.lkid lock.row.lkid differs)
          (elim among [
            | inl here ↦ absurd (differs (ap (λ (x : StoredLock). x.row.lkid) here))
            | inr there ↦ find-only lock rest (λ x there. only x (inr there)) there
          ])
    ]

-- the list without the lock of a handle is that without the lock of its ID
pub without-handle : (lock : StoredLock) (locks : List StoredLock) → IsOnly lock locks
    → rows_of_locks (without_lock lock.at locks) ≡ rows_without lock.row.lkid (rows_of_locks locks)
without-handle lock [] only = refl
without-handle lock (k ∷ rest) only =
    elim (cases_eq k.at lock.at) [
      | inl same ↦
          rw (eq-eqb k.at lock.at same, eq-eqb k.row.lkid lock.row.lkid (ap (λ (x : StoredLock). x.row.lkid) ((only k (inl refl)).1 same)))
          (without-handle lock rest (λ x there. only x (inr there)))
      | inr differs ↦
          rw (ne_eqb k.at lock.at differs, ne_eqb k.row.lkid lock.row.lkid (λ e. differs (ap (λ (x : StoredLock). x.at) ((only k (inl refl)).0 e))))
          (ap (λ xs. k.row ∷ xs) (without-handle lock rest (λ x there. only x (inr there))))
    ]

-- the rows of the ID are its one row
pub rows-only : (lock : StoredLock) (locks : List StoredLock) → AreApart locks → IsOnly lock locks → IsIn lock locks
    → plain.rows_of lock.row.lkid (rows_of_locks locks) ≡ lock.row ∷ []
rows-only lock [] apart only among = absurd among
rows-only lock (k ∷ rest) apart only among =
    elim (cases_eq k.row.lkid lock.row.lkid) [
      | inl same ↦
          let is : k ≡ lock = (only k (inl refl)).0 same in
          let none : IsAbsent lock.row.lkid rest = λ x there e. apart.0 lock.row (moved is ((only x (inr there)).0 e) there) in
          rw (eq-eqb k.row.lkid lock.row.lkid same) (ap (λ xs. k.row ∷ xs) (rows-absent lock.row.lkid rest none) ∙ ap (λ (x : StoredLock). x.row ∷ []) is)
      | inr differs ↦
          rw (ne_eqb k.row.lkid lock.row.lkid differs)
          (elim among [
            | inl here ↦ absurd (differs (ap (λ (x : StoredLock). x.row.lkid) here))
            | inr there ↦ rows-only lock rest apart.1 (λ x there. only x (inr there)) there
          ])
    ]
  where
    moved : k ≡ lock → {x : StoredLock} → x ≡ lock → IsIn x rest → IsIn (record { at = k.at; row = lock.row }) rest
    moved is same there = subst (λ y. IsIn y rest) (same ∙ ap (λ (y : StoredLock). record { at = y.at; row = lock.row }) (sym is)) there
