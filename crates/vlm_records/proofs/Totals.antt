-- Sums over several locks, and the sum over none.
use Rattle.std.proofs.Common.{◌≡◌, ℕ, ◌+◌, ◌≤◌, List, [], ◌∷◌, ◌++◌, length, refl, arith}
use Rattle.std.specs.Prelude.{replicate}
use Rattle.vlm_words.specs.declared.locks.LockState.{LockState}
use Rattle.vlm_words.specs.declared.modes.Mode.{Mode}
use Rattle.vlm_words.specs.declared.modes.Mode.TheVariants.{Nl, Cr, Cw, Pr, Pw, Ex}
use Rattle.vlm_records.specs.Tallies.{Count, by_mode, count_of, how_many, no_tally, total}
use Rattle.vlm_records.specs.Tallies.Count.{of_held, of_wanted}

-- the rows of two lists
pub total-both : (weight : LockState → ℕ) (rows : ℕ → LockState) (xs ys : List ℕ) → total weight rows (xs ++ ys) ≡ total weight rows xs + total weight rows ys
total-both weight rows [] ys = omega arith
total-both weight rows (x ∷ xs) ys = omega (arith, total-both weight rows xs ys)

-- rows that weigh nothing
pub total-nothing : (rows : ℕ → LockState) (xs : List ℕ) → total (λ row. 0) rows xs ≡ 0
total-nothing rows [] = refl
total-nothing rows (x ∷ xs) = omega (arith, total-nothing rows xs)

-- rows that weigh one at most
pub total-length : (weight : LockState → ℕ) (rows : ℕ → LockState) → ((row : LockState) → weight row ≤ 1) → (xs : List ℕ) → total weight rows xs ≤ length xs
total-length weight rows one [] = omega arith
total-length weight rows one (x ∷ xs) = omega (arith, one (rows x), total-length weight rows one xs)

-- six counts are those of the six modes
pub six_counts : (counts : List ℕ) → length counts ≡ 6 → counts ≡ by_mode (count_of counts)
six_counts [] six = absurd (omega (arith, six))
six_counts (a ∷ []) six = absurd (omega (arith, six))
six_counts (a ∷ b ∷ []) six = absurd (omega (arith, six))
six_counts (a ∷ b ∷ c ∷ []) six = absurd (omega (arith, six))
six_counts (a ∷ b ∷ c ∷ d ∷ []) six = absurd (omega (arith, six))
six_counts (a ∷ b ∷ c ∷ d ∷ e ∷ []) six = absurd (omega (arith, six))
six_counts (a ∷ b ∷ c ∷ d ∷ e ∷ f ∷ []) six = refl
six_counts (a ∷ b ∷ c ∷ d ∷ e ∷ f ∷ g ∷ rest) six = absurd (omega (arith, six))

-- where nothing is counted each count is 0
no_count : (mode : Mode) → count_of (replicate 6 0) mode ≡ 0
no_count Nl = refl
no_count Cr = refl
no_count Cw = refl
no_count Pr = refl
no_count Pw = refl
no_count Ex = refl

pub none_counted : (count : Count) (mode : Mode) → how_many count no_tally mode ≡ 0
none_counted of_held mode = no_count mode
none_counted of_wanted mode = no_count mode
