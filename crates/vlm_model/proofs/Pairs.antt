-- A relation that holds between each element of a list and each later one.
use Rattle.std.proofs.Common.{Bool, true, false, cond, not, ◌≡◌, sym, subst, append_assoc, ℕ, ◌<◌, List, [], ◌∷◌, ◌++◌, map, arith}
use Rattle.std.specs.Prelude.{⊤}
use Rattle.std.specs.List.{AllByRecursion, AllPairs, filter}
use Rattle.std.proofs.lemmas.Bool.{cond_both}
use Rattle.std.proofs.lemmas.List.{append-nil}
use Rattle.std.proofs.lemmas.List.Elements.{All-from_recursion}
use Rattle.std.proofs.lemmas.List.Kept.{AllPairs-cons}
use Rattle.vlm_model.proofs.Each.{Found, filter_but, each_at, each_filter, each_filter_left, each_insert, each_move, each_remove, each_weaker}

-- the relation holds between each element and each later one, as AllPairs says by places
abbrev pub EachPair : {X : Type 0} → (X → X → Type 0) → List X → Type 0
EachPair R [] = ⊤
EachPair R (x ∷ xs) = AllByRecursion (R x) xs × EachPair R xs

-- each pair by recursion is each pair by places
pub AllPairs-from_recursion : {X : Type 0} (R : X → X → Type 0) (xs : List X) → EachPair R xs → AllPairs R xs
AllPairs-from_recursion R [] pairs = λ (i j : ℕ) d (before : i < j) (within : j < 0). absurd (omega arith)
AllPairs-from_recursion R (x ∷ xs) pairs =
    AllPairs-cons R x xs (All-from_recursion (R x) xs pairs.0) (AllPairs-from_recursion R xs pairs.1)

-- a filter keeps what holds of each pair
pub each_pair_filter : {X : Type 0} (R : X → X → Type 0) (test : X → Bool) (xs : List X) → EachPair R xs → EachPair R (filter test xs)
each_pair_filter R test [] pairs = pairs
each_pair_filter R test (x ∷ xs) pairs =
    let rest : EachPair R (filter test xs) = each_pair_filter R test xs pairs.1 in
    cond_both (test x) (x ∷ filter test xs) (filter test xs) (EachPair R) (λ _. (each_filter (R x) test xs pairs.0, rest)) (λ _. rest)

-- each pair but for one element
pub each_pair_remove : {X : Type 0} (R : X → X → Type 0) (xs : List X) (z : X) (ys : List X) → EachPair R (xs ++ z ∷ ys)
    → EachPair R (xs ++ ys)
each_pair_remove R [] z ys pairs = pairs.1
each_pair_remove R (x ∷ xs) z ys pairs = (each_remove (R x) xs z ys pairs.0, each_pair_remove R xs z ys pairs.1)

-- under a relation that goes both ways, an element that has it to each may be put in anywhere
pub each_pair_insert : {X : Type 0} (R : X → X → Type 0) → ((a b : X) → R a b → R b a) → (xs : List X) (z : X) (ys : List X)
    → AllByRecursion (R z) (xs ++ ys) → EachPair R (xs ++ ys) → EachPair R (xs ++ z ∷ ys)
each_pair_insert R both_ways [] z ys to_each pairs = (to_each, pairs)
each_pair_insert R both_ways (x ∷ xs) z ys to_each pairs =
    (each_insert (R x) xs z ys (both_ways z x to_each.0) pairs.0, each_pair_insert R both_ways xs z ys to_each.1 pairs.1)

-- a filter of the first list keeps what holds of each pair of both
pub each_pair_filter_left : {X : Type 0} (R : X → X → Type 0) (test : X → Bool) (xs ys : List X) → EachPair R (xs ++ ys)
    → EachPair R (filter test xs ++ ys)
each_pair_filter_left R test [] ys pairs = pairs
each_pair_filter_left R test (x ∷ xs) ys pairs =
    let rest : EachPair R (filter test xs ++ ys) = each_pair_filter_left R test xs ys pairs.1 in
    cond_both (test x) (x ∷ filter test xs) (filter test xs) (λ kept. EachPair R (kept ++ ys))
    (λ _. (each_filter_left (R x) test xs ys pairs.0, rest)) (λ _. rest)

-- under a relation that goes both ways, an element has it to all others
pub each_pair_pull : {X : Type 0} (R : X → X → Type 0) → ((a b : X) → R a b → R b a) → (xs : List X) (z : X) (ys : List X)
    → EachPair R (xs ++ z ∷ ys) → AllByRecursion (R z) (xs ++ ys)
each_pair_pull R both_ways [] z ys pairs = pairs.0
each_pair_pull R both_ways (x ∷ xs) z ys pairs =
    (both_ways x z (each_at (R x) xs z ys pairs.0), each_pair_pull R both_ways xs z ys pairs.1)

-- an element that is found has the relation to all others, where a filter drops it
pub each_pair_found : {X : Type 0} (R : X → X → Type 0) → ((a b : X) → R a b → R b a) → (found keep : X → Bool) (xs ys : List X) (z : X)
    → keep z ≡ false → Found found xs z → EachPair R (xs ++ ys) → AllByRecursion (R z) (filter keep xs ++ ys)
each_pair_found R both_ways found keep xs ys z dropped at pairs =
    subst (λ all. AllByRecursion (R z) (filter keep all ++ ys)) (sym at.split)
    (rw (filter_but keep at.before z at.after dropped)
    (each_filter_left (R z) keep (at.before ++ at.after) ys
    (rw append_assoc
    (each_pair_pull R both_ways at.before z (at.after ++ ys) (rw append_assoc at (subst (λ all. EachPair R (all ++ ys)) at.split pairs))))))

-- an element that has the relation to each may be put at the end
pub each_pair_push : {X : Type 0} (R : X → X → Type 0) → ((a b : X) → R a b → R b a) → (xs : List X) (z : X)
    → AllByRecursion (R z) xs → EachPair R xs → EachPair R (xs ++ z ∷ [])
each_pair_push R both_ways xs z to_each pairs =
    each_pair_insert R both_ways xs z [] (subst (AllByRecursion (R z)) (sym (append-nil xs)) to_each) (subst (EachPair R) (sym (append-nil xs)) pairs)

-- elements may change to such as have the relation where they had it, and go from the second list to the end of the first
pub each_pair_move : {X : Type 0} (R : X → X → Type 0) → ((a b : X) → R a b → R b a) → (f : X → X) → ((a b : X) → R a b → R a (f b))
    → (moves : X → Bool) (xs ys : List X) → EachPair R (xs ++ ys)
    → EachPair R ((xs ++ map f (filter moves ys)) ++ filter (λ y. not (moves y)) ys)
each_pair_move R both_ways f keeps moves [] [] pairs = pairs
each_pair_move {X} R both_ways f keeps moves [] (y ∷ ys) pairs =
    let gone : List X = filter moves ys in
    let left : List X = filter (λ x. not (moves x)) ys in
    let rest : EachPair R (map f gone ++ left) = each_pair_move R both_ways f keeps moves [] ys pairs.1 in
    elim (moves y) as (λ b. EachPair R (map f (cond b (y ∷ gone) gone) ++ cond (not b) (y ∷ left) left)) [
      | true ↦ (
        each_move (R (f y)) f (keeps (f y)) moves [] ys
            (each_weaker (R y) (R (f y)) (λ x related. both_ways x (f y) (keeps x y (both_ways y x related))) ys pairs.0),
        rest,
      )
      | false ↦ each_pair_insert R both_ways (map f gone) y left (each_move (R y) f (keeps y) moves [] ys pairs.0) rest
    ]
each_pair_move R both_ways f keeps moves (x ∷ xs) ys pairs =
    (each_move (R x) f (keeps x) moves xs ys pairs.0, each_pair_move R both_ways f keeps moves xs ys pairs.1)
