-- The armed locks of a list, and the handles that a walk over them has still to visit.
use Rattle.std.proofs.Common.{◌≡◌, ◌≤◌, ℕ, true, false, List, [], ◌∷◌, ◌++◌, map, length, cond, Option, None, Some}
use Rattle.std.proofs.Common.{append_assoc, refl, sym, ap, ◌∙◌, subst, inl, inr, arith, eq-eqb, ne_eqb}
use Rattle.std.specs.Prelude.{◌==◌}
use Rattle.std.proofs.lemmas.Bool.{cases_Bool}
use Rattle.std.proofs.lemmas.List.Elements.{filter-append}
use Rattle.vlm_collections.specs.Lists.{IsIn}
use Rattle.vlm_records.specs.declared.handles.Armed.{Armed}
use Rattle.vlm_records.specs.Armed.{is_listed}
use Rattle.vlm_store.specs.Armed.{armed_among}
use Rattle.vlm_store.proofs.Walks.{lock_among}
use Rattle.vlm_store.specs.Records.{AreApart, StoredLock, at_after, first_at}

-- the one before it has another handle
other_before : (x lock : StoredLock) (xs ys : List StoredLock) → AreApart (x ∷ xs ++ lock ∷ ys) → x.at ≡ lock.at → ⊥
other_before x lock xs ys apart same =
    apart.0 lock.row (subst (λ (at : ℕ). IsIn (record { at = at; row = lock.row }) (xs ++ lock ∷ ys)) (sym same) (lock_among lock xs ys))

-- the one behind it
pub behind : (lock : StoredLock) (ys xs : List StoredLock) → AreApart (xs ++ lock ∷ ys) → at_after lock.at (xs ++ lock ∷ ys) ≡ first_at ys
behind lock ys [] apart = rw (eq-eqb lock.at lock.at refl) refl
behind lock ys (x ∷ xs) apart = rw (ne_eqb x.at lock.at (other_before x lock xs ys apart)) (behind lock ys xs apart.1)

-- the handles of locks, and those from one on
abbrev pub handles : List StoredLock → List ℕ
handles locks = map (λ (k : StoredLock). k.at) locks

abbrev pub handles_from : Option ℕ → List ℕ → List ℕ
handles_from None ats = []
handles_from (Some at) [] = []
handles_from (Some at) (x ∷ rest) = cond (x == at) (x ∷ rest) (handles_from (Some at) rest)

-- those from a lock on
pub from_lock : (lock : StoredLock) (ys xs : List StoredLock) → AreApart (xs ++ lock ∷ ys)
    → handles_from (Some lock.at) (handles (xs ++ lock ∷ ys)) ≡ lock.at ∷ handles ys
from_lock lock ys [] apart = rw (eq-eqb lock.at lock.at refl) refl
from_lock lock ys (x ∷ xs) apart = rw (ne_eqb x.at lock.at (other_before x lock xs ys apart)) (from_lock lock ys xs apart.1)

module _ (which : Armed) where
  -- the first is armed, if there is one
  abbrev pub StartsArmed : List StoredLock → Type 0
  StartsArmed [] = Unit {0}
  StartsArmed (k ∷ rest) = is_listed which k.row ≡ true

  -- one that is armed is among the armed
  pub among_armed : (lock : StoredLock) (locks : List StoredLock) → IsIn lock locks → is_listed which lock.row ≡ true → IsIn lock (armed_among which locks)
  among_armed lock [] among is = absurd among
  among_armed lock (k ∷ rest) among is =
      elim among [
        | inl here ↦ let armed : is_listed which k.row ≡ true = ap (λ (x : StoredLock). is_listed which x.row) here
            ∙ is in subst (λ b. IsIn lock (cond b (k ∷ armed_among which rest) (armed_among which rest))) (sym armed)
            (inl here)
        | inr there ↦ elim (is_listed which k.row) as (λ b. IsIn lock (cond b (k ∷ armed_among which rest) (armed_among which rest))) [
          | true ↦ inr (among_armed lock rest there is)
          | false ↦ among_armed lock rest there is
        ]
      ]

  armed_are_among : (lock : StoredLock) (locks : List StoredLock) → IsIn lock (armed_among which locks) → IsIn lock locks
  armed_are_among lock [] among = absurd among
  armed_are_among lock (k ∷ rest) among =
      elim (cases_Bool (is_listed which k.row)) [
        | inl armed ↦ elim (subst
            (λ b. IsIn lock (cond b (k ∷ armed_among which rest)
            (armed_among which rest))) armed among) [
              | inl here ↦ inl here
              | inr there ↦ inr
                  (armed_are_among lock rest there)
            ]
        | inr unarmed ↦ inr (armed_are_among lock rest (subst (λ b. IsIn lock (cond b (k ∷ armed_among which rest) (armed_among which rest))) unarmed among))
      ]

  -- no two of the armed have one handle
  pub armed_apart : (locks : List StoredLock) → AreApart locks → AreApart (armed_among which locks)
  armed_apart [] apart = tt
  armed_apart (k ∷ rest) apart =
      elim (is_listed which k.row) as (λ b. AreApart (cond b (k ∷ armed_among which rest) (armed_among which rest))) [
        | true ↦ (λ row found. apart.0 row (armed_are_among (record { at = k.at; row = row }) rest found), armed_apart rest apart.1)
        | false ↦ armed_apart rest apart.1
      ]

  -- the armed before a lock, that lock, and the armed behind it
  pub armed_split : (before : List StoredLock) (lock : StoredLock) (rest : List StoredLock) → is_listed which lock.row ≡ true
      → armed_among which (before ++ lock ∷ rest) ≡ armed_among which before ++ lock ∷ armed_among which rest
  armed_split before lock rest is =
      filter-append (λ (k : StoredLock). is_listed which k.row) before (lock ∷ rest)
      ∙ ap (λ b. armed_among which before ++ cond b (lock ∷ armed_among which rest) (armed_among which rest)) is

  -- those from the first armed one on are no more than all
  pub from_armed : (ys xs : List StoredLock) → AreApart (xs ++ ys)
      → length (handles_from (first_at (armed_among which ys)) (handles (xs ++ ys))) ≤ length (handles ys)
  from_armed [] xs apart = omega arith
  from_armed (k ∷ ys) xs apart =
      elim (cases_Bool (is_listed which k.row)) [
        | inl armed ↦
            subst (λ b. length (handles_from (first_at (cond b (k ∷ armed_among which ys) (armed_among which ys)))
            (handles (xs ++ k ∷ ys))) ≤ length (handles (k ∷ ys))) (sym armed)
            (rw (from_lock k ys xs apart) (omega arith))
        | inr unarmed ↦
            let moved : xs ++ k ∷ ys ≡ (xs ++ k ∷ []) ++ ys = sym (append_assoc xs (k ∷ []) ys) in
            let few = from_armed ys (xs ++ k ∷ []) (subst AreApart moved apart) in
            subst (λ b. length (handles_from (first_at (cond b (k ∷ armed_among which ys) (armed_among which ys)))
            (handles (xs ++ k ∷ ys))) ≤ length (handles (k ∷ ys))) (sym unarmed)
            (subst (λ locks. length (handles_from (first_at (armed_among which ys)) (handles locks)) ≤ length
            (handles (k ∷ ys))) (sym moved) (omega (arith, few)))
      ]
