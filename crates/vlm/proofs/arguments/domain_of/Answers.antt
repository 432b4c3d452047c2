use Rattle.std.proofs.Common.{arith, decimal}
use Rattle.std.specs.Str.Parse.{ExplainsUnsignedError, HasUnsignedDigitsIfOk, ParsesUnsigned}
use Rattle.vlm.proofs.Asked.{read_as_decimal, read_as_spelled}
use Rattle.vlm.proofs.arguments.domain_of.Goals as goal

-- the number is the one that the text gives
pub returns-in-Some-clause-group : goal.returns-in-Some-clause-group
returns-in-Some-clause-group c = λ n most is.
    let reads = c.get_one.ensures.value (decimal n) is in
    let read = read_as_decimal _ (λ bs r. ParsesUnsigned 16 10 bs r × ExplainsUnsignedError 10 bs r
    × HasUnsignedDigitsIfOk bs r) 16 n c.get_one.result reads (λ u x g. g.0) (omega arith) most in
    cc

-- a number is read
pub returns-in-None-clause-group : goal.returns-in-None-clause-group
returns-in-None-clause-group c = λ n most is.
    let reads = c.get_one.ensures.value (decimal n) is in
    let read = read_as_decimal _ (λ bs r. ParsesUnsigned 16 10 bs r × ExplainsUnsignedError 10 bs r
    × HasUnsignedDigitsIfOk bs r) 16 n c.get_one.result reads (λ u x g. g.0) (omega arith) most in
    cc

pub returns-in-Some-clause-spelled : goal.returns-in-Some-clause-spelled
returns-in-Some-clause-spelled c = λ text n spells most is.
    let reads = c.get_one.ensures.value text is in
    let read = read_as_spelled _ (λ bs r. ParsesUnsigned 16 10 bs r × ExplainsUnsignedError 10 bs r
    × HasUnsignedDigitsIfOk bs r) 16 n text c.get_one.result reads (λ u x g. g.0) spells (omega (arith, most)) in
    cc

pub returns-in-None-clause-spelled : goal.returns-in-None-clause-spelled
returns-in-None-clause-spelled c = λ text n spells most is.
    let reads = c.get_one.ensures.value text is in
    let read = read_as_spelled _ (λ bs r. ParsesUnsigned 16 10 bs r × ExplainsUnsignedError 10 bs r
    × HasUnsignedDigitsIfOk bs r) 16 n text c.get_one.result reads (λ u x g. g.0) spells (omega (arith, most)) in
    cc
