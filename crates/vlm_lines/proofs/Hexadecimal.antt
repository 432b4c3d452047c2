-- What the crate hex reads is what the definitions read.
use Rattle.std.proofs.Common.{◌≡◌, ◌≢◌, ◌⊎◌, ◌++◌, ℕ, zero, suc, ◌+◌, ◌*◌, ◌/◌, ◌%◌, ◌==◌, true, false, cond, ◌&&◌}
use Rattle.std.proofs.Common.{List, [], ◌∷◌, length, min, take, Bool, Result, Ok, Err, inl, inr, refl, sym, ap, ◌∙◌}
use Rattle.std.proofs.Common.{arith}
use Rattle.std.proofs.lemmas.Bool.{and_parts, cases_eq}
use Rattle.std.proofs.lemmas.List.{length-take, length-take-le, take_all, take_at}
use Rattle.std.proofs.lemmas.Bool.Decides.{nat_tests}
use Rattle.std.specs.Prelude.{MatchResult}
use Rattle.std.specs.List.{list_all}
use Rattle.std.specs.Char.{is_ascii_hexdigit}
use Rattle.hex.specs.Hex.{decode_pairs, decode_sized, value_at, ◌>>=◌}
use Rattle.hex.specs.declared.error.FromHexError.{FromHexError}
use Rattle.hex.specs.declared.error.FromHexError.TheVariants.{InvalidHexCharacter}
use Rattle.hex.proofs.HexLemmas.{decode_of-even, decode_sized-ok, decode_sized-twice}
use Rattle.vlm_lines.specs.declared.faults.LineFault.{LineFault}
use Rattle.vlm_lines.specs.declared.faults.LineFault.TheVariants.{WrongWord}
use Rattle.vlm_lines.specs.Lines.{bytes_of, digit_value, hex_value}

-- what the crate refuses is a wrong word
abbrev pub as_read : Result (List ℕ) FromHexError → Result (List ℕ) LineFault
as_read (Ok bytes) = Ok bytes
as_read (Err e) = Err WrongWord

-- the crate reads a digit as its number
digit_read : (c i : ℕ) → value_at c i ≡ cond (is_ascii_hexdigit c) (Ok (digit_value c)) (Err (InvalidHexCharacter c i))
digit_read c i = grind (arith, nat_tests)

-- two digits and what is read after them
joined : (p q t : Bool) (v w : ℕ) (e f : FromHexError) (bytes : List ℕ) (r : Result (List ℕ) FromHexError)
    → as_read r ≡ cond t (Ok bytes) (Err WrongWord)
    → as_read (((cond p (Ok v) (Err e)) >>= λ high. cond q (Ok w) (Err f) >>= λ low. Ok (high * 16 + low)) >>= λ byte. r >>= λ rest. Ok (byte ∷ rest))
    ≡ cond (p && (q && t)) (Ok ((v * 16 + w) ∷ bytes)) (Err WrongWord)
joined false q t v w e f bytes r h = refl
joined true false t v w e f bytes r h = refl
joined true true true v w e f bytes (Ok rest) h = cc h
joined true true true v w e f bytes (Err g) h = cc h
joined true true false v w e f bytes (Ok rest) h = cc h
joined true true false v w e f bytes (Err g) h = refl

-- the crate reads pairs of digits as their bytes
pairs_read : (i : ℕ) (s : List ℕ) → length s % 2 ≡ 0 → as_read (decode_pairs i s) ≡ cond (list_all is_ascii_hexdigit s) (Ok (hex_value s)) (Err WrongWord)
unfolding decode_pairs hex_value
pairs_read i [] even = refl
pairs_read i (a ∷ []) even = absurd (omega arith)
pairs_read i (a ∷ b ∷ rest) even =
    rw (digit_read a i, digit_read b (i + 1))
    (joined (is_ascii_hexdigit a) (is_ascii_hexdigit b) (list_all is_ascii_hexdigit rest) (digit_value a)
    (digit_value b) _ _ (hex_value rest) (decode_pairs (i + 2) rest)
    (pairs_read (i + 2) rest (omega arith)))

-- a result that is not `Ok` is a wrong word
not_ok : (r : Result (List ℕ) FromHexError) → ((bytes : List ℕ) → r ≡ Ok bytes → ⊥) → as_read r ≡ Err WrongWord
not_ok (Ok bytes) h = absurd (h bytes refl)
not_ok (Err e) h = refl

-- the crate reads `count` bytes as the definition does
pub bytes_read : (count : ℕ) (word : List ℕ) → bytes_of count word ≡ as_read (decode_sized word count)
unfolding bytes_of
bytes_read count word = elim (cases_eq (length word) (2 * count)) [
  | inl same ↦
      let twice = decode_sized-twice word count same ∙ decode_of-even word (omega (arith, same)) in
      let right : (length word == 2 * count) ≡ true = grind (arith, nat_tests) in
      rw (twice, right) (sym (pairs_read 0 word (omega (arith, same))))
  | inr other ↦
      let bad = not_ok (decode_sized word count) (λ bytes h. other (decode_sized-ok word count bytes h)) in
      rw bad (grind (arith, nat_tests))
]

-- ---- names

-- the bytes of the first pairs of digits
pairs_taken : (m n : ℕ) → m ≡ 2 * n → (digits : List ℕ) → hex_value (take m digits) ≡ take n (hex_value digits)
unfolding hex_value
pairs_taken zero zero twice digits = refl
pairs_taken zero (suc n) twice digits = absurd (omega (arith, twice))
pairs_taken (suc zero) n twice digits = absurd (omega (arith, twice))
pairs_taken (suc (suc m)) zero twice digits = absurd (omega (arith, twice))
pairs_taken (suc (suc m)) (suc n) twice [] = refl
pairs_taken (suc (suc m)) (suc n) twice (digit ∷ []) = refl
pairs_taken (suc (suc m)) (suc n) twice (high ∷ low ∷ digits) =
    ap (λ bytes. (digit_value high * 16 + digit_value low) ∷ bytes) (pairs_taken m n (omega (arith, twice)) digits)

-- the first of digits are digits
pub digits_taken : (m : ℕ) (digits : List ℕ) → list_all is_ascii_hexdigit digits ≡ true → list_all is_ascii_hexdigit (take m digits) ≡ true
digits_taken zero digits all = refl
digits_taken (suc m) [] all = refl
digits_taken (suc m) (digit ∷ digits) all =
    let parts = and_parts (is_ascii_hexdigit digit) (list_all is_ascii_hexdigit digits) all in
    rw (parts.0) (digits_taken m digits parts.1)

-- what is read without a fault
read_is : (r : Result (List ℕ) FromHexError) (bytes : List ℕ) → as_read r ≡ Ok bytes → r ≡ Ok bytes
read_is (Ok read) bytes is = cc
read_is (Err e) bytes is = cc

-- there are half as many bytes as digits
half_as_many : (digits : List ℕ) → length (hex_value digits) ≡ length digits / 2
unfolding hex_value
half_as_many [] = refl
half_as_many (digit ∷ []) = refl
half_as_many (high ∷ low ∷ digits) = omega (arith, half_as_many digits)

-- what the crate reads of digits into room for their bytes
pub all_read : (digits : List ℕ) (count : ℕ) → list_all is_ascii_hexdigit digits ≡ true → length digits ≡ 2 * count
    → decode_sized digits count ≡ Ok (hex_value digits)
all_read digits count all twice =
    decode_sized-twice digits count twice
    ∙ decode_of-even digits (omega (arith, twice))
    ∙ read_is (decode_pairs 0 digits) (hex_value digits)
    (pairs_read 0 digits (omega (arith, twice)) ∙ ap (λ b. cond b (Ok (hex_value digits)) (Err WrongWord)) all)

same_Ok : (a b : List ℕ) → ◌≡◌ {A = Result (List ℕ) FromHexError} (Ok a) (Ok b) → a ≡ b
same_Ok a b is = cc

-- what was written, where it is read as it was decoded
pub written_is : (r : Result (List ℕ) FromHexError) (answered : Result Unit FromHexError) (bytes out : List ℕ) → r ≡ Ok bytes
    → MatchResult r (λ read. (answered ≡ Ok tt) × (out ≡ read)) (λ e. answered ≡ Err e) → out ≡ bytes
written_is (Ok read) answered bytes out is written = written.1 ∙ same_Ok read bytes is
written_is (Err e) answered bytes out is written = cc

-- the written bytes begin with the first 32 bytes of the name
pub name_of_pairs : (digits written rest : List ℕ) (count : ℕ) → count ≡ min 32 (length digits / 2) → written ≡ hex_value (take (2 * count) digits)
    → take 32 (take count (written ++ rest)) ≡ take 32 (hex_value digits)
name_of_pairs digits written rest count is read =
    ap (take 32) (take_at written rest count many ∙ taken) ∙ none_left_out
  where
    bytes : List ℕ
    bytes = hex_value digits

    half : length bytes ≡ length digits / 2
    half = half_as_many digits

    taken : written ≡ take count bytes
    taken = read ∙ pairs_taken (2 * count) count refl digits

    many : length written ≡ count
    many = ap (λ (xs : List ℕ). length xs) taken ∙ length-take-le count bytes (omega (arith, half, is))

    none_left_out : take 32 (take count bytes) ≡ take 32 bytes
    none_left_out = of_test (cases_eq count 32)
      where
        of_test : (count ≡ 32) ⊎ (count ≢ 32) → take 32 (take count bytes) ≡ take 32 bytes
        of_test (inl full) = rw full (take_all 32 (take 32 bytes) (omega (arith, length-take 32 bytes)))
        of_test (inr less) = ap (take 32) (take_all count bytes (omega (arith, half, is, less)))
