use Rattle.std.proofs.Common.{w64, arith}
use Rattle.std.proofs.lemmas.Nat.Bits.{bit_at_set_same, bit_at_set_other}
use Rattle.vlm_collections.proofs.Bits.{sets_of}
use Rattle.vlm_collections.proofs.bit_words.set_bit.Goals as goal

pub returns : goal.returns
returns c =
    sets_of 1 c.args.number _ _ (omega arith)
    (bit_at_set_same w64 _ _ (omega arith))
    (λ i h other. bit_at_set_other w64 _ _ (omega arith) i other)
