-- Where the first piece of a list ends.
use Rattle.std.proofs.Common.{◌≡◌, zero, get_or, length-drop, ℕ, ◌+◌, suc, ◌<◌, Bool, true, false, not, cond, List, []}
use Rattle.std.proofs.Common.{◌∷◌, length, take, drop, sym, refl, ap, ◌∙◌, arith, add-one, Option, Some, None, ltb}
use Rattle.std.proofs.Common.{unwrap_or}
use Rattle.std.proofs.lemmas.Bool.Decides.{nat_tests}
use Rattle.std.proofs.lemmas.List.Sums.{prefix_len-le-length, passes_at_first}
use Rattle.std.proofs.lemmas.List.{nil_from_length, get_or-drop}
use Rattle.std.proofs.lemmas.Bool.{false≢true}
use Rattle.std.specs.List.{position_or_len, filter}
use Rattle.vlm_lines.specs.Lines.{pieces, onto, words_of, is_blank, is_nothing}

-- what a byte in front does to the first piece
put_front : (ends : ℕ → Bool) (byte n : ℕ) (bytes : List ℕ) (b : Bool) → pieces ends bytes ≡ take n bytes ∷ pieces ends (drop (suc n) bytes)
    → cond b ([] ∷ pieces ends bytes) (onto byte (pieces ends bytes))
    ≡ take (cond (not b) (1 + n) 0) (byte ∷ bytes) ∷ pieces ends (drop (suc (cond (not b) (1 + n) 0)) (byte ∷ bytes))
put_front ends byte n bytes true e = refl
put_front ends byte n bytes false e = let next : 1 + n ≡ suc n = omega arith in rw (next, e) refl

-- a byte alone, a separator or not
first_alone : (ends : ℕ → Bool) (byte : ℕ) (b : Bool)
    → cond b ([] ∷ []) ((byte ∷ []) ∷ []) ≡ take (cond (not b) 1 0) (byte ∷ []) ∷ pieces ends (drop (cond (not b) 1 0) [])
first_alone ends byte true = refl
first_alone ends byte false = refl

-- a list with a byte begins with the piece before its first separator
first_piece : (ends : ℕ → Bool) (byte : ℕ) (bytes : List ℕ)
    → pieces ends (byte ∷ bytes) ≡ take (position_or_len ends (byte ∷ bytes)) (byte ∷ bytes) ∷ pieces ends
    (drop (suc (position_or_len ends (byte ∷ bytes))) (byte ∷ bytes))
first_piece ends byte [] = first_alone ends byte (ends byte)
first_piece ends byte (next ∷ bytes) = put_front ends byte _ (next ∷ bytes) (ends byte) (first_piece ends next bytes)

-- the same of a list that is not empty
pub pieces_first : (ends : ℕ → Bool) (bytes : List ℕ) → 0 < length bytes
    → pieces ends bytes ≡ take (position_or_len ends bytes) bytes ∷ pieces ends
    (drop (position_or_len ends bytes + 1) bytes)
pieces_first ends [] h = absurd (omega arith)
pieces_first ends (byte ∷ bytes) h = rw add-one (first_piece ends byte bytes)

-- a blank in front changes no word
drop_blank : (byte : ℕ) (bytes : List ℕ) (n : ℕ) (b : Bool) → is_blank byte ≡ b → words_of (drop n bytes) ≡ words_of bytes
    → words_of (drop (cond (not (not b)) (1 + n) 0) (byte ∷ bytes)) ≡ words_of (byte ∷ bytes)
drop_blank byte bytes n true blank e = let next : 1 + n ≡ suc n = omega arith in rw (next, blank) e
drop_blank byte bytes n false blank e = refl

-- nor do all the blanks in front
words_of-drop_blanks : (bytes : List ℕ) → words_of (drop (position_or_len (λ byte. not (is_blank byte)) bytes) bytes) ≡ words_of bytes
words_of-drop_blanks [] = refl
words_of-drop_blanks (byte ∷ bytes) = drop_blank byte bytes _ (is_blank byte) refl (words_of-drop_blanks bytes)

-- the place of the first separator, or the length where there is none
pub end_found : (ends : ℕ → Bool) (bytes : List ℕ) (r : Option ℕ)
    → r ≡ cond (ltb (position_or_len ends bytes) (length bytes)) (Some (position_or_len ends bytes)) None
    → unwrap_or r (length bytes) ≡ position_or_len ends bytes
end_found ends bytes r e = let l = prefix_len-le-length (λ byte. not (ends byte)) bytes in grind (arith, nat_tests)

-- where no byte but blanks is found there is no word
pub no_word : (bytes : List ℕ) (r : Option ℕ)
    → r ≡ cond (ltb (position_or_len (λ byte. not (is_blank byte)) bytes) (length bytes))
    (Some (position_or_len (λ byte. not (is_blank byte)) bytes)) None → r ≡ None → words_of bytes ≡ []
no_word bytes r e none =
    let n = position_or_len (λ byte. not (is_blank byte)) bytes in
    let past : length (drop n bytes) ≡ 0 = let l = length-drop n bytes in grind (arith, nat_tests) in
    sym (words_of-drop_blanks bytes) ∙ ap words_of (nil_from_length (drop n bytes) past)

-- the place of the first byte that is no blank, where there is one
pub start_found : (bytes : List ℕ) (start : ℕ) (r : Option ℕ)
    → r ≡ cond (ltb (position_or_len (λ byte. not (is_blank byte)) bytes) (length bytes))
    (Some (position_or_len (λ byte. not (is_blank byte)) bytes)) None → r ≡ Some start
    → start ≡ position_or_len (λ byte. not (is_blank byte)) bytes
start_found bytes start r e some = grind (arith, nat_tests)

-- a piece with a byte is a word
piece_kept : (n byte : ℕ) (bytes : List ℕ) (rest : List (List ℕ)) → 0 < n
    → filter (λ word. not (is_nothing word)) (take n (byte ∷ bytes) ∷ rest) ≡ take n (byte ∷ bytes) ∷ filter (λ word. not (is_nothing word)) rest
piece_kept zero byte bytes rest h = absurd (omega arith)
piece_kept (suc n) byte bytes rest h = refl

-- a piece whose first byte is no separator has a byte
some_byte : (n : ℕ) (b : Bool) → b ≡ false → 0 < cond (not b) (1 + n) 0
some_byte n true e = absurd (false≢true (sym e))
some_byte n false e = omega arith

-- a list without a blank in front begins with its first word
word_in_front : (byte : ℕ) (bytes : List ℕ) → is_blank byte ≡ false
    → words_of (byte ∷ bytes) ≡ take (position_or_len is_blank (byte ∷ bytes)) (byte ∷ bytes) ∷ words_of
    (drop (suc (position_or_len is_blank (byte ∷ bytes))) (byte ∷ bytes))
word_in_front byte bytes h =
    ap (filter (λ word. not (is_nothing word))) (first_piece is_blank byte bytes)
    ∙ piece_kept (position_or_len is_blank (byte ∷ bytes)) byte bytes
    (pieces is_blank (drop (suc (position_or_len is_blank (byte ∷ bytes))) (byte ∷ bytes)))
    (some_byte _ (is_blank byte) h)

-- what is not true is false
false_from_not : (b : Bool) → not b ≡ true → b ≡ false
false_from_not true e = sym e
false_from_not false e = refl

-- the byte after the blanks in front is no blank
no_blank : (bytes rest : List ℕ) (byte : ℕ) → byte ∷ rest ≡ drop (position_or_len (λ byte. not (is_blank byte)) bytes) bytes → is_blank byte ≡ false
no_blank bytes rest byte e =
    let n = position_or_len (λ byte. not (is_blank byte)) bytes in
    let here : n < length bytes = let l = simp length-drop at (ap length e) in omega arith in
    let passes = passes_at_first (λ byte. not (is_blank byte)) bytes 0 here in
    let sum : n ≡ n + 0 = omega arith in
    let same : get_or bytes n 0 ≡ byte = ap (λ m. get_or bytes m 0) sum ∙ sym (get_or-drop n bytes 0 0) ∙ ap (λ xs. get_or xs 0 0) (sym e) in
    false_from_not (is_blank byte) (ap (λ x. not (is_blank x)) (sym same) ∙ passes)

-- a word is followed by the same words with the blank after it and without
pass_blank : (byte : ℕ) (bytes : List ℕ) (n : ℕ) (b : Bool) → is_blank byte ≡ b → words_of (drop (suc n) bytes) ≡ words_of (drop n bytes)
    → words_of (drop (suc (cond (not b) (1 + n) 0)) (byte ∷ bytes)) ≡ words_of (drop (cond (not b) (1 + n) 0) (byte ∷ bytes))
pass_blank byte bytes n true blank e = rw blank refl
pass_blank byte bytes n false blank e = let next : 1 + n ≡ suc n = omega arith in rw next e

blank_kept : (bytes : List ℕ) → words_of (drop (suc (position_or_len is_blank bytes)) bytes) ≡ words_of (drop (position_or_len is_blank bytes) bytes)
blank_kept [] = refl
blank_kept (byte ∷ bytes) = pass_blank byte bytes _ (is_blank byte) refl (blank_kept bytes)

-- the first word begins after the blanks in front
pub first_word : (bytes rest : List ℕ) (n : ℕ) → rest ≡ drop (position_or_len (λ byte. not (is_blank byte)) bytes) bytes
    → 0 < length rest → n ≡ position_or_len is_blank rest
    → words_of bytes ≡ take n rest ∷ words_of (drop n rest)
first_word bytes [] n e h m = absurd (omega arith)
first_word bytes (byte ∷ rest) n e h m =
    sym (words_of-drop_blanks bytes) ∙ ap words_of (sym e)
    ∙ rw m (word_in_front byte rest (no_blank bytes rest byte e)
    ∙ ap (λ words. take (position_or_len is_blank (byte ∷ rest)) (byte ∷ rest) ∷ words) (blank_kept (byte ∷ rest)))

-- and it has a byte
pub word_has_byte : (bytes rest : List ℕ) (n : ℕ)
    → rest ≡ drop (position_or_len (λ byte. not (is_blank byte)) bytes) bytes → 0 < length rest
    → n ≡ position_or_len is_blank rest → 0 < n
word_has_byte bytes [] n e h m = absurd (omega arith)
word_has_byte bytes (byte ∷ rest) n e h m = rw m (some_byte _ (is_blank byte) (no_blank bytes rest byte e))
