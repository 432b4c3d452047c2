use Rattle.std.proofs.Common.{ap, ◌∙◌, length, arith}
use Rattle.std.specs.Prelude.{position}
use Rattle.vlm_collections.specs.Marks.{marks_of}
use Rattle.vlm_collections.proofs.Bits.{none_below, no_bits, one_word, within-one}
use Rattle.vlm_collections.proofs.Numbers.{position-first, position-none}
use Rattle.vlm_collections.proofs.marks.Marks.first.Goals as goal

pub returns-then-self-eq0 : goal.returns-then-self-eq0
returns-then-self-eq0 c =
    let numbers = c.self.inside.numbers.items in
    let words = c.self.inside.words in
    let top = c.self.inside.top in
    position-none numbers (no_bits numbers (none_below numbers words c.self.invariant.words
    (none_below words top c.self.invariant.top (one_word top c.self.invariant.single c.if-self-eq0.true))))
    ∙ ap (position (λ is_marked. is_marked)) c.self.view_is

pub overflow_cast-result : goal.overflow_cast-result
overflow_cast-result c =
    omega (arith, c.self.invariant.few, ap length c.deref.ensures.value, within-one c.deref.result.now c.first_bit.result c.first_bit.ensures.one)

pub returns : goal.returns
returns c =
    position-first c.deref.result.now c.first_bit.result c.first_bit.ensures
    ∙ ap (λ words. position (λ is_marked. is_marked) (marks_of words)) c.deref.ensures.value
    ∙ ap (position (λ is_marked. is_marked)) c.self.view_is
