use Rattle.std.proofs.Common.{w64, arith}
use Rattle.std.proofs.lemmas.Nat.Bits.{bit_at_clear_same, bit_at_clear_other}
use Rattle.vlm_collections.proofs.Bits.{sets_of}
use Rattle.vlm_collections.proofs.bit_words.clear_bit.Goals as goal

pub returns-clause-sets : goal.returns-clause-sets
returns-clause-sets c =
    sets_of 0 c.args.number _ _ (omega arith)
    (bit_at_clear_same w64 _ _ (omega arith))
    (λ i h other. bit_at_clear_other w64 _ _ (omega arith) i h other)
