use Rattle.std.proofs.Common.{◌/◌, ◌%◌, ap, sym, ◌∙◌}
use Rattle.std.specs.Prelude.{◌==◌}
use Rattle.std.specs.Int.{bit_at}
use Rattle.std.proofs.lemmas.List.{get_or_past}
use Rattle.std.proofs.lemmas.Nat.Bits.{shr_and_one}
use Rattle.vlm_collections.specs.Words.{bit_of}
use Rattle.vlm_collections.proofs.Bits.{bit_of-zero}
use Rattle.vlm_collections.proofs.bit_words.has_bit.Goals as goal

pub returns-in-Some : goal.returns-in-Some
unfolding bit_of
returns-in-Some c =
    let h = c.in-Some.ensures.lookup in
    ap (λ bit. bit == 1) (shr_and_one c.in-Some.word.now (c.args.number % 64)) ∙ ap (λ word. bit_at word (c.args.number % 64) == 1) (h.3.1 0)

pub returns-in-None : goal.returns-in-None
returns-in-None c =
    ap (λ bit. bit == 1) (sym (bit_of-zero c.args.words.now c.args.number (get_or_past c.args.words.now (c.args.number / 64) 0 c.in-None.ensures.lookup.3)))
