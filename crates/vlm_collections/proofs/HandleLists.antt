-- Lists of handles that are apart.
use Rattle.std.proofs.Common.{◌≡◌, ◌≢◌, ◌⊎◌, ℕ, zero, suc, ◌+◌, ◌<◌, ◌≤◌, List, [], ◌∷◌, ◌++◌, length, map, slice_get}
use Rattle.std.proofs.Common.{Some, refl, sym, ap, ◌∙◌, subst, inl, inr, arith, eq-eqb, ne_eqb}
use Rattle.std.proofs.lemmas.Bool.{cases_eq, cond-true, cond-false, not_from_true, not_from_false}
use Rattle.std.proofs.lemmas.Option.{none-some, same_Some}
use Rattle.vlm_collections.specs.Lists.{without, IsIn, IsApart}

pub without_head : (handle first : ℕ) (rest : List ℕ) → first ≡ handle → without handle (first ∷ rest) ≡ without handle rest
without_head handle first rest same = cond-false _ _ _ (not_from_true _ (eq-eqb first handle same))

pub without_past : (handle first : ℕ) (rest : List ℕ) → first ≢ handle → without handle (first ∷ rest) ≡ first ∷ without handle rest
without_past handle first rest other = cond-true _ _ _ (not_from_false _ (ne_eqb first handle other))

pub without_absent : (handle : ℕ) (handles : List ℕ) → ¬ IsIn handle handles → without handle handles ≡ handles
without_absent handle [] absent = refl
without_absent handle (first ∷ rest) absent =
    without_past handle first rest (λ same. absent (inl same))
    ∙ ap (λ xs. first ∷ xs) (without_absent handle rest (λ found. absent (inr found)))

-- the first of handles that are apart leaves the rest behind
pub without_first : (handle : ℕ) (handles : List ℕ) → IsApart handles → Some handle ≡ slice_get handles 0
    → (handles ≡ handle ∷ without handle handles) × (¬ IsIn handle (without handle handles))
without_first handle [] apart first = absurd (none-some handle (sym first))
without_first handle (head ∷ rest) apart first =
    let same = sym (same_Some handle head first) in
    let absent : ¬ IsIn handle rest = λ there. apart.0 (subst (λ k. IsIn k rest) (sym same) there) in
    let gone = without_head handle head rest same ∙ without_absent handle rest absent in
    (rw (gone, same), rw gone absent)

pub IsIn-without : (handle other : ℕ) (handles : List ℕ) → IsIn other (without handle handles) → IsIn other handles × (other ≢ handle)
IsIn-without handle other [] found = absurd found
IsIn-without handle other (first ∷ rest) found =
    elim (cases_eq first handle) [
      | inl same ↦
          let later = IsIn-without handle other rest (subst (IsIn other) (without_head handle first rest same) found) in
          (inr later.0, later.1)
      | inr differs ↦
          elim (subst (IsIn other) (without_past handle first rest differs) found) [
            | inl here ↦ (inl here, λ same. differs (here ∙ same))
            | inr there ↦ let later = IsIn-without handle other rest there in (inr later.0, later.1)
          ]
    ]

pub IsIn-without_kept : (handle other : ℕ) (handles : List ℕ) → IsIn other handles → other ≢ handle → IsIn other (without handle handles)
IsIn-without_kept handle other [] found differs = absurd found
IsIn-without_kept handle other (first ∷ rest) found differs =
    elim (cases_eq first handle) [
      | inl same ↦
          subst (IsIn other) (sym (without_head handle first rest same))
          (elim found [
            | inl here ↦ absurd (differs (sym here ∙ same))
            | inr there ↦ IsIn-without_kept handle other rest there differs
          ])
      | inr apart ↦
          subst (IsIn other) (sym (without_past handle first rest apart))
          (elim found [ inl here ↦ inl here | inr there ↦ inr (IsIn-without_kept handle other rest there differs) ])
    ]

pub IsApart-without : (handle : ℕ) (handles : List ℕ) → IsApart handles → IsApart (without handle handles)
IsApart-without handle [] apart = tt
IsApart-without handle (first ∷ rest) apart =
    elim (cases_eq first handle) [
      | inl same ↦ subst IsApart (sym (without_head handle first rest same)) (IsApart-without handle rest apart.1)
      | inr differs ↦
          subst IsApart (sym (without_past handle first rest differs))
          (λ found. apart.0 (IsIn-without handle first rest found).0, IsApart-without handle rest apart.1)
    ]

pub length-without : (handle : ℕ) (handles : List ℕ) → IsApart handles → IsIn handle handles → length (without handle handles) + 1 ≡ length handles
length-without handle [] apart found = absurd found
length-without handle (first ∷ rest) apart found =
    elim (cases_eq first handle) [
      | inl same ↦
          let gone = without_head handle first rest same ∙ without_absent handle rest (λ there. apart.0 (subst (λ k. IsIn k rest) (sym same) there)) in
          omega (arith, ap length gone)
      | inr differs ↦
          elim found [
            | inl here ↦ absurd (differs here)
            | inr there ↦ omega (arith, ap length (without_past handle first rest differs), length-without handle rest apart.1 there)
          ]
    ]

-- what stands in one of two lists, in the images of a list, and in no list
pub in_ahead : {A : Type 0} (x : A) (xs ys : List A) → IsIn x xs → IsIn x (xs ++ ys)
in_ahead x [] ys there = absurd there
in_ahead x (y ∷ xs) ys there = elim there [ inl here ↦ inl here | inr later ↦ inr (in_ahead x xs ys later) ]

pub in_behind : {A : Type 0} (x : A) (xs ys : List A) → IsIn x ys → IsIn x (xs ++ ys)
in_behind x [] ys there = there
in_behind x (y ∷ xs) ys there = inr (in_behind x xs ys there)

pub in_either : {A : Type 0} (x : A) (xs ys : List A) → IsIn x (xs ++ ys) → IsIn x xs ⊎ IsIn x ys
in_either x [] ys there = inr there
in_either x (y ∷ xs) ys there = elim there [
  | inl here ↦ inl (inl here)
  | inr later ↦ elim (in_either x xs ys later) [ inl first ↦ inl (inr first) | inr second ↦ inr second ]
]

pub in_map : {A B : Type 0} (f : A → B) (x : A) (xs : List A) → IsIn x xs → IsIn (f x) (map f xs)
in_map f x [] there = absurd there
in_map f x (y ∷ xs) there = elim there [ inl here ↦ inl (ap f here) | inr later ↦ inr (in_map f x xs later) ]

pub none_in : {A : Type 0} (xs : List A) → ((x : A) → IsIn x xs → ⊥) → xs ≡ []
none_in [] none = refl
none_in (x ∷ xs) none = absurd (none x (inl refl))

pub IsIn-push : (handle other : ℕ) (handles : List ℕ) → IsIn other (handles ++ handle ∷ []) → IsIn other handles ⊎ (handle ≡ other)
IsIn-push handle other [] found = elim found [ inl here ↦ inr here | inr nowhere ↦ absurd nowhere ]
IsIn-push handle other (first ∷ rest) found =
    elim found [
      | inl here ↦ inl (inl here)
      | inr there ↦ elim (IsIn-push handle other rest there) [ inl old ↦ inl (inr old) | inr new ↦ inr new ]
    ]

pub IsIn-push_kept : (handle other : ℕ) (handles : List ℕ) → IsIn other handles → IsIn other (handles ++ handle ∷ [])
IsIn-push_kept handle other [] found = absurd found
IsIn-push_kept handle other (first ∷ rest) found =
    elim found [ inl here ↦ inl here | inr there ↦ inr (IsIn-push_kept handle other rest there) ]

pub IsIn-push_last : (handle : ℕ) (handles : List ℕ) → IsIn handle (handles ++ handle ∷ [])
IsIn-push_last handle [] = inl refl
IsIn-push_last handle (first ∷ rest) = inr (IsIn-push_last handle rest)

pub IsApart-push : (handle : ℕ) (handles : List ℕ) → IsApart handles → ¬ IsIn handle handles → IsApart (handles ++ handle ∷ [])
IsApart-push handle [] apart absent = (λ nowhere. nowhere, tt)
IsApart-push handle (first ∷ rest) apart absent = (
  λ found. elim (IsIn-push handle first rest found) [ inl old ↦ apart.0 old | inr new ↦ absent (inl (sym new)) ],
  IsApart-push handle rest apart.1 (λ there. absent (inr there)),
)

-- every handle is below the bound
abbrev pub IsBelow : ℕ → List ℕ → Type 0
IsBelow bound handles = (handle : ℕ) → IsIn handle handles → handle < bound

-- leaving a handle out of handles that are apart takes at most one
length-without_le : (handle : ℕ) (handles : List ℕ) → IsApart handles → length handles ≤ length (without handle handles) + 1
length-without_le handle [] apart = omega arith
length-without_le handle (first ∷ rest) apart =
    elim (cases_eq first handle) [
      | inl same ↦
          let gone = without_head handle first rest same ∙ without_absent handle rest (λ there. apart.0 (subst (λ k. IsIn k rest) (sym same) there)) in
          omega (arith, ap length gone)
      | inr differs ↦ omega (arith, ap length (without_past handle first rest differs), length-without_le handle rest apart.1)
    ]

-- there are no more handles than numbers below the bound
pub length-below : (bound : ℕ) (handles : List ℕ) → IsApart handles → IsBelow bound handles → length handles ≤ bound
length-below zero [] apart below = omega arith
length-below zero (first ∷ rest) apart below = absurd (omega (arith, below first (inl refl)))
length-below (suc bound) handles apart below =
    let fewer = length-below bound (without bound handles) (IsApart-without bound handles apart) (λ handle found.
    let kept = IsIn-without bound handle handles found in
    let low = below handle kept.0 in
    let other = kept.1 in
    omega arith) in
    omega (arith, fewer, length-without_le bound handles apart)
