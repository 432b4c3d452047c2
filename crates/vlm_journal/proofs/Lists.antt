-- What begins a list, and where its elements stand.
use Rattle.std.proofs.Common.{◌≡◌, ◌⊎◌, ◌<◌, ℕ, zero, suc, List, [], ◌∷◌, ◌++◌, Some, length, refl, ap, ◌∙◌, sym, append_assoc, arith, inl, inr}
use Rattle.std.specs.List.{slice_get}
use mathlib.Core.List.{IsPrefix}

-- what begins one list begins a longer one
pub prefix_more : {X : Type 0} (xs ys zs : List X) → IsPrefix xs ys → IsPrefix xs (ys ++ zs)
prefix_more xs ys zs h = (h.0 ++ zs, sym (append_assoc xs h.0 zs) ∙ ap (λ (l : List _). l ++ zs) h.1)

-- what begins a beginning begins the whole
pub prefix_then : {X : Type 0} (xs ys zs : List X) → IsPrefix xs ys → IsPrefix ys zs → IsPrefix xs zs
prefix_then xs ys zs h i = (h.0 ++ i.0, sym (append_assoc xs h.0 i.0) ∙ ap (λ (l : List _). l ++ i.0) h.1 ∙ i.1)

-- in front of both stands the same
pub prefix_behind : {X : Type 0} (xs ys zs : List X) → IsPrefix ys zs → IsPrefix (xs ++ ys) (xs ++ zs)
prefix_behind xs ys zs h = (h.0, append_assoc xs ys h.0 ∙ ap (λ (l : List _). xs ++ l) h.1)

-- an element of a list that is long enough
pub element : {X : Type 0} (xs : List X) (k : ℕ) → k < length xs → X
element [] k lt = absurd (omega (arith, lt))
element (x ∷ xs) zero lt = x
element (x ∷ xs) (suc k) lt = element xs k (omega (arith, lt))

-- an element of a longer list is one of the list, or the last
pub by_place : {X : Type 0} (xs : List X) (y z : X) (i : ℕ) → slice_get (xs ++ y ∷ []) i ≡ Some z → (slice_get xs i ≡ Some z) ⊎ ((i ≡ length xs) × (y ≡ z))
by_place [] y z zero h = inr (refl, cc)
by_place [] y z (suc i) h = cc
by_place (x ∷ xs) y z zero h = inl h
by_place (x ∷ xs) y z (suc i) h = elim (by_place xs y z i h) [ inl e ↦ inl e | inr e ↦ inr (ap suc e.0, e.1) ]
