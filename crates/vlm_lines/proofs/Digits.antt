-- The crate hex writes the digits of the definitions.
use Rattle.std.proofs.Common.{◌≡◌, ℕ, zero, suc, ◌/◌, ◌%◌, ◌<◌, ◌==◌, Bool, true, ◌&&◌, List, [], ◌∷◌, slice_index, inl, inr, refl, ap, arith}
use Rattle.std.proofs.lemmas.Bool.{and_parts, cases_lt, eqb-true}
use Rattle.hex.specs.Hex.{IsBytes, encode_with, lower_digits}
use Rattle.vlm_lines.specs.Texts.{hex_digit, hex_text}

-- the first n digits are the same
abbrev all_same : ℕ → Bool
all_same zero = true
all_same (suc n) = (hex_digit n == slice_index lower_digits n) && all_same n

all_same-at : (n k : ℕ) → all_same n ≡ true → k < n → hex_digit k ≡ slice_index lower_digits k
all_same-at zero k h below = absurd (omega arith)
all_same-at (suc n) k h below =
    let parts = and_parts (hex_digit n == slice_index lower_digits n) (all_same n) h in
    elim (cases_lt k n) [
      | inl less ↦ all_same-at n k parts.1 less
      | inr top ↦
          let last : k ≡ n = omega arith in
          rw last (eqb-true _ _ parts.0)
    ]

same_digit : (k : ℕ) → k < 16 → hex_digit k ≡ slice_index lower_digits k
same_digit k below = all_same-at 16 k refl below

-- two digits for each byte are what the crate writes
pub hex_text-encode : (bytes : List ℕ) → IsBytes bytes → encode_with lower_digits bytes ≡ hex_text bytes
unfolding hex_text encode_with
hex_text-encode [] h = refl
hex_text-encode (byte ∷ bytes) h =
    let small : byte < 256 = h 0 in
    let high : byte / 16 < 16 = omega arith in
    let low : byte % 16 < 16 = omega arith in
    rw (same_digit (byte / 16) high, same_digit (byte % 16) low)
    (ap (λ digits. slice_index lower_digits (byte / 16) ∷ slice_index lower_digits (byte % 16) ∷ digits) (hex_text-encode bytes (λ k. h (suc k))))
