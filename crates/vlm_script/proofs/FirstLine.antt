-- Where the first line of a script ends.
use Rattle.std.proofs.Common.{◌≡◌, ℕ, ◌+◌, ◌-◌, ◌<◌, List, ◌∷◌, length, take, drop, length-drop, sym, ap, ◌∙◌, arith}
use Rattle.std.proofs.lemmas.List.{drop-drop, drop_all, nil_from_length, take_all}
use Rattle.std.specs.List.{position_or_len}
use Rattle.vlm_lines.specs.Lines.{is_line_feed, lines_of}
use Rattle.vlm_lines.proofs.Pieces.{pieces_first}

-- the first line, and the bytes after its line feed
line_first : (bytes line rest after : List ℕ) (n : ℕ) → 0 < length bytes → n ≡ position_or_len is_line_feed bytes
    → line ≡ take n bytes → rest ≡ drop n bytes → after ≡ drop 1 rest
    → lines_of bytes ≡ line ∷ lines_of after
line_first bytes line rest after n some e front back next =
    let more : drop (position_or_len is_line_feed bytes + 1) bytes ≡ after = ap (λ m. drop (m + 1) bytes) (sym e)
    ∙ sym (drop-drop 1 n bytes) ∙ ap (drop 1) (sym back) ∙ sym next in
    pieces_first is_line_feed bytes some
    ∙ ap (λ x. x ∷ lines_of (drop (position_or_len is_line_feed bytes + 1) bytes)) (ap (λ m. take m bytes) (sym e) ∙ sym front)
    ∙ ap (λ x. line ∷ lines_of x) more

-- the last line, which no line feed ends
pub last_line : (bytes line rest : List ℕ) (n : ℕ) → 0 < length bytes → n ≡ position_or_len is_line_feed bytes
    → line ≡ take n bytes → rest ≡ drop n bytes → length rest ≡ 0
    → lines_of bytes ≡ line ∷ lines_of rest
last_line bytes line rest n some e front back none =
    line_first bytes line rest rest n some e front back (nil_from_length rest none ∙ sym (drop_all 1 rest (omega arith)))

-- a line that a line feed ends
pub ended_line : (bytes line rest : List ℕ) (n : ℕ) → 0 < length bytes → n ≡ position_or_len is_line_feed bytes → line ≡ take n bytes → rest ≡ drop n bytes
    → lines_of bytes ≡ line ∷ lines_of (take (length rest - 1) (drop 1 rest))
ended_line bytes line rest n some e front back =
    line_first bytes line rest (take (length rest - 1) (drop 1 rest)) n some e front back
    (take_all (length rest - 1) (drop 1 rest) (let l = length-drop 1 rest in omega arith))
