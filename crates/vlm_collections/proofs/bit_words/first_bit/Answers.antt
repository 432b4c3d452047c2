use Rattle.std.proofs.Common.{◌<◌, length, arith}
use Rattle.std.specs.Prelude.{slice_index}
use Rattle.std.proofs.lemmas.Nat.{trailing_le}
use Rattle.vlm_collections.proofs.Bits.{first_in, within-some}
use Rattle.vlm_collections.proofs.bit_words.first_bit.Goals as goal

pub overflow_add-result : goal.overflow_add-result
overflow_add-result c =
    let inside : c.args.word < length c.args.words.now = within-some c.args.words.now c.args.word c.requires.first.some in
    omega (arith, trailing_le 64 (slice_index c.args.words.now c.args.word))

pub returns : goal.returns
returns c = first_in c.args.words.now c.args.word c.requires.first (omega (arith, c.type_inv.words c.args.word))
