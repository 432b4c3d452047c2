-- The cells of texts are bytes, and four words have all the cells of 31.
use Rattle.std.proofs.Common.{ℕ, ◌≡◌, ◌<◌, ◌≤◌, ◌+◌, ◌-◌, List, [], ◌∷◌, ◌++◌, length, take, replicate, get_or, zero}
use Rattle.std.proofs.Common.{suc, ◌⊎◌, inl, inr, refl, sym, ap, ◌∙◌, subst, arith}
use Rattle.std.specs.Int.{w64, to_le_bytes}
use Rattle.std.proofs.Math.Seq.{take-append_seam}
use Rattle.std.proofs.lemmas.Bool.{cases_lt}
use Rattle.std.proofs.lemmas.Grind.{same_number_lists}
use Rattle.std.proofs.lemmas.Nat.{le_bytes_8}
use Rattle.std.proofs.Math.Numerals.{unary_clauses}
use Rattle.vlm_words.specs.NameWords.{word_at}
use Rattle.vlm_words.specs.Padding.{AreBytes, padded}

-- the first of them
pub take_bytes : (n : ℕ) (cells : List ℕ) → AreBytes cells → AreBytes (take n cells)
take_bytes zero cells bytes i = omega arith
take_bytes (suc n) [] bytes i = omega arith
take_bytes (suc n) (cell ∷ cells) bytes zero = bytes zero
take_bytes (suc n) (cell ∷ cells) bytes (suc i) = take_bytes n cells (λ j. bytes (suc j)) i

-- those of two lists
pub both_bytes : (cells others : List ℕ) → AreBytes cells → AreBytes others → AreBytes (cells ++ others)
both_bytes [] others bytes other_bytes i = other_bytes i
both_bytes (cell ∷ cells) others bytes other_bytes zero = bytes zero
both_bytes (cell ∷ cells) others bytes other_bytes (suc i) = both_bytes cells others (λ j. bytes (suc j)) other_bytes i

-- zeros
pub zero_bytes : (n : ℕ) → AreBytes (replicate n 0)
zero_bytes zero i = omega arith
zero_bytes (suc n) zero = omega arith
zero_bytes (suc n) (suc i) = zero_bytes n i

-- the eight cells from this index on
abbrev eight : List ℕ → ℕ → List ℕ
eight cells at =
    get_or cells at 0 ∷ get_or cells (at + 1) 0 ∷ get_or cells (at + 2) 0 ∷ get_or cells (at + 3) 0 ∷ get_or cells (at + 4) 0 ∷ get_or cells (at + 5) 0
    ∷ get_or cells (at + 6) 0 ∷ get_or cells (at + 7) 0 ∷ []

eight_bytes : (cells : List ℕ) (at : ℕ) → AreBytes cells → AreBytes (eight cells at)
eight_bytes cells at bytes zero = bytes at
eight_bytes cells at bytes (suc zero) = bytes (at + 1)
eight_bytes cells at bytes (suc (suc zero)) = bytes (at + 2)
eight_bytes cells at bytes (suc (suc (suc zero))) = bytes (at + 3)
eight_bytes cells at bytes (suc (suc (suc (suc zero)))) = bytes (at + 4)
eight_bytes cells at bytes (suc (suc (suc (suc (suc zero))))) = bytes (at + 5)
eight_bytes cells at bytes (suc (suc (suc (suc (suc (suc zero)))))) = bytes (at + 6)
eight_bytes cells at bytes (suc (suc (suc (suc (suc (suc (suc zero))))))) = bytes (at + 7)
eight_bytes cells at bytes (suc (suc (suc (suc (suc (suc (suc (suc more)))))))) = omega arith

module _ (cells others : List ℕ) (bytes : AreBytes cells) (other_bytes : AreBytes others) where
  -- equal words are of equal cells
  same_eight : (at : ℕ) → word_at cells at ≡ word_at others at → eight cells at ≡ eight others at
  same_eight at same =
      sym (le_bytes_8 (eight cells at) _ refl (eight_bytes cells at bytes) refl) ∙ ap (to_le_bytes w64) same
      ∙ le_bytes_8 (eight others at) _ refl (eight_bytes others at other_bytes) refl

  same_cell : (at k : ℕ) → k < 8 → eight cells at ≡ eight others at → get_or cells (at + k) 0 ≡ get_or others (at + k) 0
  same_cell at zero _ same = simp unary_clauses (ap (λ e. get_or e 0 0) same)
  same_cell at (suc zero) _ same = ap (λ e. get_or e 1 0) same
  same_cell at (suc (suc zero)) _ same = ap (λ e. get_or e 2 0) same
  same_cell at (suc (suc (suc zero))) _ same = ap (λ e. get_or e 3 0) same
  same_cell at (suc (suc (suc (suc zero)))) _ same = ap (λ e. get_or e 4 0) same
  same_cell at (suc (suc (suc (suc (suc zero))))) _ same = ap (λ e. get_or e 5 0) same
  same_cell at (suc (suc (suc (suc (suc (suc zero)))))) _ same = ap (λ e. get_or e 6 0) same
  same_cell at (suc (suc (suc (suc (suc (suc (suc zero))))))) _ same = ap (λ e. get_or e 7 0) same
  same_cell at (suc (suc (suc (suc (suc (suc (suc (suc more)))))))) few same = absurd (omega (arith, few))

  same_from : (at i : ℕ) → at ≤ i → i < at + 8 → word_at cells at ≡ word_at others at → get_or cells i 0 ≡ get_or others i 0
  same_from at i from below same =
      subst (λ j. get_or cells j 0 ≡ get_or others j 0) (omega arith) (same_cell at (i - at) (omega arith) (same_eight at same))

  -- cells of four equal words are equal
  pub same_cells : length cells ≡ 31 → length others ≡ 31 → word_at cells 0 ≡ word_at others 0 → word_at cells 8 ≡ word_at others 8
      → word_at cells 16 ≡ word_at others 16 → word_at cells 23 ≡ word_at others 23 → cells ≡ others
  same_cells len other_len first second third last = same_number_lists cells others (len
      ∙ sym other_len) (λ i below. at i (omega arith) (cases_lt i 8) (cases_lt i 16) (cases_lt i 23))
    where
      at : (i : ℕ) → i < 31 → (i < 8) ⊎ (8 ≤ i) → (i < 16) ⊎ (16 ≤ i) → (i < 23) ⊎ (23 ≤ i) → get_or cells i 0 ≡ get_or others i 0
      at i below (inl before) _ _ = same_from 0 i (omega arith) (omega arith) first
      at i below (inr from) (inl before) _ = same_from 8 i from (omega arith) second
      at i below (inr _) (inr from) (inl before) = same_from 16 i from (omega arith) third
      at i below (inr _) (inr _) (inr from) = same_from 23 i from (omega arith) last

-- texts of one length with four equal words are equal
pub same_texts : (a b : List ℕ) → AreBytes (padded 31 a) → AreBytes (padded 31 b) → length (padded 31 a) ≡ 31 → length (padded 31 b) ≡ 31
    → length a ≡ length b → word_at (padded 31 a) 0 ≡ word_at (padded 31 b) 0 → word_at (padded 31 a) 8 ≡ word_at (padded 31 b) 8
    → word_at (padded 31 a) 16 ≡ word_at (padded 31 b) 16 → word_at (padded 31 a) 23 ≡ word_at (padded 31 b) 23 → a ≡ b
same_texts a b bytes other_bytes len other_len same_len first second third last =
    sym (take-append_seam a (replicate (31 - length a) 0))
    ∙ ap (take (length a)) (same_cells (padded 31 a) (padded 31 b) bytes other_bytes len other_len first second third last)
    ∙ ap (λ n. take n (padded 31 b)) same_len
    ∙ take-append_seam b (replicate (31 - length b) 0)
