-- What holds of each element of a list, by recursion on the list.
use Rattle.std.proofs.Common.{◌≡◌, ◌∙◌, ◌<◌, ◌⊎◌, inl, inr, ap, subst, sym, refl, ℕ, zero, suc, Bool, true, false, not}
use Rattle.std.proofs.Common.{List, Some, [], ◌∷◌, ◌++◌, map, length, drop, get_or, arith}
use Rattle.std.specs.Prelude.{Any}
use Rattle.std.specs.List.{AllByRecursion, filter, find, list_all}
use Rattle.std.proofs.lemmas.Bool.{cond_both, cond-false, and_parts}
use Rattle.std.proofs.lemmas.List.Elements.{filter-append}

-- what holds of each element holds of each that a filter keeps
pub each_filter : {X : Type 0} (P : X → Type 0) (test : X → Bool) (xs : List X) → AllByRecursion P xs
    → AllByRecursion P (filter test xs)
each_filter P test [] each = each
each_filter P test (x ∷ xs) each =
    let rest : AllByRecursion P (filter test xs) = each_filter P test xs each.1 in
    cond_both (test x) (x ∷ filter test xs) (filter test xs) (AllByRecursion P) (λ _. (each.0, rest)) (λ _. rest)

-- a function makes Q of P, and so it does of each element
pub each_map : {X Y : Type 0} (P : X → Type 0) (Q : Y → Type 0) (f : X → Y) → ((x : X) → P x → Q (f x))
    → (xs : List X) → AllByRecursion P xs → AllByRecursion Q (map f xs)
each_map P Q f kept [] each = each
each_map P Q f kept (x ∷ xs) each = (kept x each.0, each_map P Q f kept xs each.1)

-- what holds of each element holds of each but one
pub each_remove : {X : Type 0} (P : X → Type 0) (xs : List X) (z : X) (ys : List X) → AllByRecursion P (xs ++ z ∷ ys)
    → AllByRecursion P (xs ++ ys)
each_remove P [] z ys each = each.1
each_remove P (x ∷ xs) z ys each = (each.0, each_remove P xs z ys each.1)

-- what holds of each element and of one more holds with that one put in
pub each_insert : {X : Type 0} (P : X → Type 0) (xs : List X) (z : X) (ys : List X) → P z → AllByRecursion P (xs ++ ys)
    → AllByRecursion P (xs ++ z ∷ ys)
each_insert P [] z ys at_z each = (at_z, each)
each_insert P (x ∷ xs) z ys at_z each = (each.0, each_insert P xs z ys at_z each.1)

-- a test that a whole list passes, each element passes
pub each_passes : {X : Type 0} (test : X → Bool) (xs : List X) → list_all test xs ≡ true → AllByRecursion (λ x. test x ≡ true) xs
each_passes test [] passed = tt
each_passes test (x ∷ xs) passed =
    let parts = and_parts (test x) (list_all test xs) passed in (parts.0, each_passes test xs parts.1)

-- what holds of each element of two lists holds of each of both
pub each_append : {X : Type 0} (P : X → Type 0) (xs ys : List X) → AllByRecursion P xs → AllByRecursion P ys → AllByRecursion P (xs ++ ys)
each_append P [] ys left right = right
each_append P (x ∷ xs) ys left right = (left.0, each_append P xs ys left.1 right)

-- a weaker fact holds of each element too
pub each_so : {X : Type 0} (P : X → Type 0) → ((x : X) → P x) → (xs : List X) → AllByRecursion P xs
each_so P so [] = tt
each_so P so (x ∷ xs) = (so x, each_so P so xs)

-- what follows of each is so of each
pub each_weaker : {X : Type 0} (P Q : X → Type 0) → ((x : X) → P x → Q x) → (xs : List X) → AllByRecursion P xs → AllByRecursion Q xs
each_weaker P Q weaker [] each = each
each_weaker P Q weaker (x ∷ xs) each = (weaker x each.0, each_weaker P Q weaker xs each.1)

-- what holds of each element of two lists holds of each that a filter keeps of the first, and of the second
pub each_filter_left : {X : Type 0} (P : X → Type 0) (test : X → Bool) (xs ys : List X) → AllByRecursion P (xs ++ ys)
    → AllByRecursion P (filter test xs ++ ys)
each_filter_left P test [] ys each = each
each_filter_left P test (x ∷ xs) ys each =
    let rest : AllByRecursion P (filter test xs ++ ys) = each_filter_left P test xs ys each.1 in
    cond_both (test x) (x ∷ filter test xs) (filter test xs) (λ kept. AllByRecursion P (kept ++ ys)) (λ _. (each.0, rest)) (λ _. rest)

-- what holds of each element holds of one in their midst
pub each_at : {X : Type 0} (P : X → Type 0) (xs : List X) (z : X) (ys : List X) → AllByRecursion P (xs ++ z ∷ ys) → P z
each_at P [] z ys each = each.0
each_at P (x ∷ xs) z ys each = each_at P xs z ys each.1

-- what holds of each element holds still when some change and go from the second list to the end of the first
pub each_move : {X : Type 0} (P : X → Type 0) (f : X → X) → ((x : X) → P x → P (f x)) → (moves : X → Bool) (xs ys : List X)
    → AllByRecursion P (xs ++ ys) → AllByRecursion P ((xs ++ map f (filter moves ys)) ++ filter (λ y. not (moves y)) ys)
each_move P f keeps moves [] ys each =
    each_append P (map f (filter moves ys)) (filter (λ y. not (moves y)) ys)
    (each_map P P f keeps (filter moves ys) (each_filter P moves ys each)) (each_filter P (λ y. not (moves y)) ys each)
each_move P f keeps moves (x ∷ xs) ys each = (each.0, each_move P f keeps moves xs ys each.1)

-- the element is the first of the list that passes the test
pub record Found {X : Type 0} (test : X → Bool) (xs : List X) (z : X) : Type 0 where
  pub before : List X
  pub after : List X
  pub split : xs ≡ before ++ z ∷ after
  pub passes : test z ≡ true

-- what is found stands in the list
pub found_at : {X : Type 0} (test : X → Bool) (xs : List X) (z : X) → find test xs ≡ Some z → Found test xs z
found_at test [] z is = cc
found_at {X} test (x ∷ xs) z is =
    cond_both (test x) (Some x) (find test xs) (λ found. found ≡ Some z → Found test (x ∷ xs) z)
    (λ here first.
    let same : x ≡ z = cc in
    record { before = []; after = xs; split = ap (λ (y : X). y ∷ xs) same; passes = subst (λ (y : X). test y ≡ true) same here })
    (λ _ later.
    let at : Found test xs z = found_at test xs z later in
    record { before = x ∷ at.before; after = at.after; split = ap (λ (ys : List X). x ∷ ys) at.split; passes = at.passes })
    is

-- a filter that drops an element in the midst keeps of the others what it keeps
pub filter_but : {X : Type 0} (keep : X → Bool) (xs : List X) (z : X) (ys : List X) → keep z ≡ false
    → filter keep (xs ++ z ∷ ys) ≡ filter keep (xs ++ ys)
filter_but keep xs z ys dropped =
    filter-append keep xs (z ∷ ys) ∙ ap (λ rest. filter keep xs ++ rest) (cond-false (keep z) (z ∷ filter keep ys) (filter keep ys) dropped)
    ∙ sym (filter-append keep xs ys)

-- the first element of a list is one of which it holds
pub Any-here : {X : Type 0} (P : X → Type 0) (x : X) (xs : List X) → P x → Any P (x ∷ xs)
Any-here P x xs holds = (0, x, omega arith, refl, holds)

-- some later element is one of which it holds
pub Any-there : {X : Type 0} (P : X → Type 0) (x : X) (xs : List X) → Any P xs → Any P (x ∷ xs)
Any-there P x xs any = (suc any.0, any.1, (let within : any.0 < length xs = any.2 in omega arith), any.3, any.4)

-- of a list's first element it holds, or of some later one
pub Any-cases : {X : Type 0} (P : X → Type 0) (x : X) (xs : List X) → Any P (x ∷ xs) → P x ⊎ Any P xs
Any-cases {X} P x xs any = at any.0 any.1 any.2 any.3 any.4
  where
    at : (k : ℕ) (y : X) → k < length (x ∷ xs) → get_or (x ∷ xs) k y ≡ y → P y → P x ⊎ Any P xs
    at zero y within is holds = inl (subst P (sym is) holds)
    at (suc k) y within is holds = inr (k, y, (let less : k < length xs = omega arith in less), is, holds)

-- of no element of an empty list it holds
pub Any-none : {X : Type 0} (P : X → Type 0) → Any P [] → ⊥
Any-none P any = let within : any.0 < 0 = any.2 in absurd (omega arith)

-- what holds of no element does not hold of any
pub no_Any : {X : Type 0} (P : X → Type 0) (xs : List X) → AllByRecursion (λ x. P x → ⊥) xs → Any P xs → ⊥
no_Any P [] none any = Any-none P any
no_Any P (x ∷ xs) none any = elim (Any-cases P x xs any) [ inl here ↦ none.0 here | inr there ↦ no_Any P xs none.1 there ]

-- a weaker fact holds of some element too
pub Any-weaker : {X : Type 0} (P Q : X → Type 0) → ((x : X) → P x → Q x) → (xs : List X) → Any P xs → Any Q xs
Any-weaker P Q weaker xs any = (any.0, any.1, any.2, any.3, weaker any.1 any.4)

-- what is so of some element is so of some with others before them
pub Any-behind : {X : Type 0} (P : X → Type 0) (xs ys : List X) → Any P ys → Any P (xs ++ ys)
Any-behind P [] ys any = any
Any-behind P (x ∷ xs) ys any = Any-there P x (xs ++ ys) (Any-behind P xs ys any)

-- what holds of each element holds of each but the first ones
pub each_drop : {X : Type 0} (P : X → Type 0) (n : ℕ) (xs : List X) → AllByRecursion P xs → AllByRecursion P (drop n xs)
each_drop P zero xs each = each
each_drop P (suc n) [] each = tt
each_drop P (suc n) (x ∷ xs) each = each_drop P n xs each.1

-- what is among some is among more
pub any_left : {X : Type 0} (P : X → Type 0) (xs ys : List X) → Any P xs → Any P (xs ++ ys)
any_left P [] ys any = absurd (Any-none P any)
any_left P (x ∷ xs) ys any =
    elim (Any-cases P x xs any) [ inl here ↦ Any-here P x (xs ++ ys) here | inr there ↦ Any-there P x (xs ++ ys) (any_left P xs ys there) ]

-- each element is one of its list
pub each_member : {X : Type 0} (xs : List X) → AllByRecursion (λ x. Any (λ y. x ≡ y) xs) xs
each_member [] = tt
each_member (x ∷ xs) = (
  Any-here (λ y. x ≡ y) x xs refl,
  each_weaker (λ z. Any (λ y. z ≡ y) xs) (λ z. Any (λ y. z ≡ y) (x ∷ xs)) (λ z any. Any-there (λ y. z ≡ y) x xs any) xs (each_member xs),
)

-- what holds of each element holds of one of them
pub each_there : {X : Type 0} (P : X → Type 0) (xs : List X) (x : X) → AllByRecursion P xs → Any (λ y. x ≡ y) xs → P x
each_there P [] x each there = absurd (Any-none (λ y. x ≡ y) there)
each_there P (y ∷ ys) x each there =
    elim (Any-cases (λ z. x ≡ z) y ys there) [ inl here ↦ subst P (sym here) each.0 | inr later ↦ each_there P ys x each.1 later ]
