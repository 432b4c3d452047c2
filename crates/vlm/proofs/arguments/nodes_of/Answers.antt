use Rattle.std.proofs.Common.{arith, decimal}
use Rattle.std.specs.Str.Parse.{ExplainsUnsignedError, HasUnsignedDigitsIfOk, ParsesUnsigned}
use Rattle.vlm.proofs.Asked.{read_as_decimal, read_as_spelled}
use Rattle.vlm.proofs.arguments.nodes_of.Goals as goal

pub returns-clause-number : goal.returns-clause-number
returns-clause-number c = λ n least most is.
    let reads = c.get_one.ensures.value (decimal n) is in
    let read = read_as_decimal _ (λ bs r. ParsesUnsigned 8 10 bs r × ExplainsUnsignedError 10 bs r
    × HasUnsignedDigitsIfOk bs r) 8 n c.get_one.result reads (λ u x g. g.0) (omega arith) (omega arith) in
    let number = rw read at c.unwrap_or.ensures in
    let clamped = rw number at c.clamp.ensures in
    omega arith

pub returns-clause-spelled : goal.returns-clause-spelled
returns-clause-spelled c = λ text n spells least most is.
    let reads = c.get_one.ensures.value text is in
    let read = read_as_spelled _ (λ bs r. ParsesUnsigned 8 10 bs r × ExplainsUnsignedError 10 bs r
    × HasUnsignedDigitsIfOk bs r) 8 n text c.get_one.result reads (λ u x g. g.0) spells (omega arith) in
    let number = rw read at c.unwrap_or.ensures in
    let clamped = rw number at c.clamp.ensures in
    omega arith
