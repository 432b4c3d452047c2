-- Clearing a set of marks.
use Rattle.std.proofs.Common.{◌≡◌, ℕ, zero, suc, ◌<◌, Bool, true, false, List, [], ◌∷◌, length, get_or, set}
use Rattle.std.proofs.Common.{replicate, None, Some, cond, refl, sym, inl, inr, arith}
use Rattle.std.specs.Prelude.{nat_lt, position}
use Rattle.std.specs.List.{position_or_len}
use Rattle.std.proofs.lemmas.Bool.{cases_lt, ltb-false}
use Rattle.std.proofs.lemmas.List.{get_or_past}
use Rattle.std.proofs.lemmas.List.Sums.{fails_before_first}
use Rattle.std.proofs.lemmas.Option.{none-some}

-- how many are marked
abbrev pub marked : List Bool → ℕ
marked [] = 0
marked (true ∷ marks) = suc (marked marks)
marked (false ∷ marks) = marked marks

-- one that is marked and is not then is one less
pub one_less : (marks : List Bool) (n : ℕ) → get_or marks n false ≡ true → marked (set marks n false) < marked marks
one_less [] n is = cc
one_less (true ∷ marks) zero is = omega arith
one_less (false ∷ marks) zero is = cc
one_less (true ∷ marks) (suc n) is = let less = one_less marks n is in omega (arith, less)
one_less (false ∷ marks) (suc n) is = one_less marks n is

-- where no number is marked, this one is not
pub position-None : (marks : List Bool) (n : ℕ) → position (λ is_marked. is_marked) marks ≡ None → get_or marks n false ≡ false
position-None marks n none = by_first (nat_lt (position_or_len (λ m. m) marks) (length marks)) refl none
  where
    by_first : (some : Bool) → nat_lt (position_or_len (λ m. m) marks) (length marks) ≡ some
        → cond some (Some (position_or_len (λ m. m) marks)) None ≡ None → get_or marks n false ≡ false
    by_first true some none = absurd (none-some (position_or_len (λ m. m) marks) (sym none))
    by_first false some none =
        elim (cases_lt n (length marks)) [
          | inl within ↦ fails_before_first (λ m. m) marks n false (omega (arith, within, ltb-false (position_or_len (λ m. m) marks) (length marks) some))
          | inr past ↦ get_or_past marks n false (omega (arith, past))
        ]

-- where none is marked each is not
pub all_clear : (marks : List Bool) → position (λ is_marked. is_marked) marks ≡ None → marks ≡ replicate (length marks) false
all_clear marks none = of_each marks (λ n. position-None marks n none)
  where
    of_each : (xs : List Bool) → ((n : ℕ) → get_or xs n false ≡ false) → xs ≡ replicate (length xs) false
    of_each [] each = refl
    of_each (x ∷ xs) each =
        let first : x ≡ false = each zero in
        let rest : xs ≡ replicate (length xs) false = of_each xs (λ n. each (suc n)) in
        cc
