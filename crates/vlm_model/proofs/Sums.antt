-- Sums over lists whose elements come, go and change.
use Rattle.std.proofs.Common.{◌≡◌, ◌∙◌, ◌≤◌, ◌+◌, ℕ, Bool, true, false, List, [], ◌∷◌, ◌++◌, map, cond, refl, ap, inl, inr, arith}
use Rattle.std.specs.List.{AllByRecursion, filter, flat_map, list_any, sum_by}
use Rattle.std.proofs.lemmas.Bool.{or_cases}
use Rattle.std.proofs.lemmas.List.Sums.{sum_by-cons, sum_by-append}
use Rattle.vlm_model.proofs.Each.{Found, filter_but}

-- a sum in which each term is 0
pub sum_of_zeros : {X : Type 0} (f : X → ℕ) (xs : List X) → AllByRecursion (λ x. f x ≡ 0) xs → sum_by f xs ≡ 0
sum_of_zeros f [] each = refl
sum_of_zeros f (x ∷ xs) each =
    let rest : sum_by f xs ≡ 0 = sum_of_zeros f xs each.1 in
    let here : f x ≡ 0 = each.0 in
    omega (arith, sum_by-cons f x xs)

-- a sum of nothing but 0
pub sum_of_zero : {X : Type 0} (xs : List X) → sum_by (λ (x : X). 0) xs ≡ 0
sum_of_zero [] = refl
sum_of_zero {X} (x ∷ xs) =
    let rest : sum_by (λ (y : X). 0) xs ≡ 0 = sum_of_zero xs in
    omega (arith, sum_by-cons (λ (y : X). 0) x xs)

-- the sum over one element
pub sum_of_one : {X : Type 0} (f : X → ℕ) (x : X) → sum_by f (x ∷ []) ≡ f x
sum_of_one f x = omega (arith, sum_by-cons f x [])

-- a sum has a term of each element that passes a test, where each of these is 1
pub any_counts : {X : Type 0} (test : X → Bool) (f : X → ℕ) → ((x : X) → test x ≡ true → f x ≡ 1) → (xs : List X) → list_any test xs ≡ true → 1 ≤ sum_by f xs
any_counts test f one [] any = cc
any_counts test f one (x ∷ xs) any =
    elim (or_cases (test x) (list_any test xs) any) [
      | inl here ↦ omega (arith, one x here, sum_by-cons f x xs)
      | inr later ↦ omega (arith, any_counts test f one xs later, sum_by-cons f x xs)
    ]

-- a filter takes nothing but terms from a sum
pub sum_filter-le : {X : Type 0} (f : X → ℕ) (keep : X → Bool) (xs : List X) → sum_by f (filter keep xs) ≤ sum_by f xs
sum_filter-le f keep [] = omega arith
sum_filter-le f keep (x ∷ xs) =
    let rest : sum_by f (filter keep xs) ≤ sum_by f xs = sum_filter-le f keep xs in
    elim (keep x) as (λ b. sum_by f (cond b (x ∷ filter keep xs) (filter keep xs)) ≤ sum_by f (x ∷ xs)) [
      | true ↦ omega (arith, sum_by-cons f x xs, sum_by-cons f x (filter keep xs))
      | false ↦ omega (arith, sum_by-cons f x xs)
    ]

-- a found element that a filter drops leaves its term out
pub sum_filter_but-le : {X : Type 0} (f : X → ℕ) (found keep : X → Bool) (xs : List X) (z : X) → keep z ≡ false → Found found xs z
    → sum_by f (filter keep xs) + f z ≤ sum_by f xs
sum_filter_but-le f found keep xs z dropped at =
    let kept : sum_by f (filter keep xs) ≡ sum_by f (filter keep (at.before ++ at.after)) =
    ap (λ ys. sum_by f (filter keep ys)) at.split ∙ ap (sum_by f) (filter_but keep at.before z at.after dropped) in
    omega (
      arith,
      kept,
      sum_filter-le f keep (at.before ++ at.after),
      sum_by-append f at.before at.after,
      ap (sum_by f) at.split,
      sum_by-append f at.before (z ∷ at.after),
      sum_by-cons f z at.after,
    )

-- a found element's term is in the sum
pub found-le-sum : {X : Type 0} (f : X → ℕ) (found : X → Bool) (xs : List X) (z : X) → Found found xs z → f z ≤ sum_by f xs
found-le-sum f found xs z at =
    omega (arith, ap (sum_by f) at.split, sum_by-append f at.before (z ∷ at.after), sum_by-cons f z at.after)

-- a sum over a flat map is the sum of the sums
pub sum_flat_map : {X Y : Type 0} (g : Y → ℕ) (h : X → List Y) (xs : List X) → sum_by g (flat_map h xs) ≡ sum_by (λ x. sum_by g (h x)) xs
sum_flat_map g h [] = refl
sum_flat_map g h (x ∷ xs) =
    let rest : sum_by g (flat_map h xs) ≡ sum_by (λ y. sum_by g (h y)) xs = sum_flat_map g h xs in
    omega (arith, sum_by-append g (h x) (flat_map h xs), sum_by-cons (λ y. sum_by g (h y)) x xs)

-- where each element's term and what it brings make up the term that it had, so do the sums
pub sum_changed : {X Y : Type 0} (f : X → ℕ) (change : X → X) (g : Y → ℕ) (brings : X → List Y) (xs : List X)
    → AllByRecursion (λ x. f (change x) + sum_by g (brings x) ≡ f x) xs
    → sum_by f (map change xs) + sum_by g (flat_map brings xs) ≡ sum_by f xs
sum_changed f change g brings [] each = refl
sum_changed f change g brings (x ∷ xs) each =
    let here : f (change x) + sum_by g (brings x) ≡ f x = each.0 in
    let rest : sum_by f (map change xs) + sum_by g (flat_map brings xs) ≡ sum_by f xs = sum_changed f change g brings xs each.1 in
    omega
    (arith, sum_by-cons f x xs, sum_by-cons f (change x) (map change xs), sum_by-append g (brings x) (flat_map brings xs))

-- where no element's term rises, the sum does not
pub sum_changed-le : {X : Type 0} (f : X → ℕ) (change : X → X) → ((x : X) → f (change x) ≤ f x) → (xs : List X)
    → sum_by f (map change xs) ≤ sum_by f xs
sum_changed-le f change lower [] = omega arith
sum_changed-le f change lower (x ∷ xs) =
    let rest : sum_by f (map change xs) ≤ sum_by f xs = sum_changed-le f change lower xs in
    omega (arith, lower x, sum_by-cons f x xs, sum_by-cons f (change x) (map change xs))

-- where each element keeps its term, the sum stays
pub sum_same : {X : Type 0} (f : X → ℕ) (change : X → X) → ((x : X) → f (change x) ≡ f x) → (xs : List X)
    → sum_by f (map change xs) ≡ sum_by f xs
sum_same f change same [] = refl
sum_same f change same (x ∷ xs) =
    let rest : sum_by f (map change xs) ≡ sum_by f xs = sum_same f change same xs in
    omega (arith, same x, sum_by-cons f x xs, sum_by-cons f (change x) (map change xs))
