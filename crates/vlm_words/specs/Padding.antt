-- Short texts in an array, padded with zeros.
use Rattle.std.specs.Prelude.{◌≡◌, ◌<◌, ◌≤◌, ℕ, ◌-◌, List, ◌++◌, length, slice_index, take, replicate}
use Rattle.std.proofs.Common.{sym, subst}
use Rattle.std.proofs.lemmas.List.{length-take-le}

-- the cells of a text: its bytes, then zeros
abbrev pub padded : ℕ → List ℕ → List ℕ
padded size text = text ++ replicate (size - length text) 0

-- each cell is a byte
abbrev pub AreBytes : List ℕ → Type 0
AreBytes cells = (i : ℕ) → slice_index cells i < 256

-- the cells hold a text of this length, and zeros after it
pub record IsPadded (size len : ℕ) (cells : List ℕ) : Type 0 where
  pub fits : len ≤ size
  pub whole : length cells ≡ size
  pub clear : cells ≡ padded size (take len cells)
  pub bytes : AreBytes cells

-- the text in the cells has this length
pub length-text : {size len : ℕ} {cells : List ℕ} → IsPadded size len cells → length (take len cells) ≡ len
length-text {size} {len} {cells} h = length-take-le len cells (subst (λ n. len ≤ n) (sym h.whole) h.fits)
