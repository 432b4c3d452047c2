use Rattle.std.proofs.Common.{◌∙◌, ap, length, refl, arith}
use Rattle.vlm_collections.proofs.Levels.{has_word, levels-top, levels-word, marks-set}
use Rattle.vlm_collections.proofs.marks.Marks.unmark.Goals as goal

pub clear_bit-requires : goal.clear_bit-requires
clear_bit-requires c =
    omega (
      arith,
      c.from-number.ensures,
      ap length c.deref_mut.ensures.value,
      has_word c.self.inside c.args.self.now c.args.number c.self.view_is c.requires,
    )

pub returns-then-not-clear_bit : goal.returns-then-not-clear_bit
returns-then-not-clear_bit c =
    marks-set c.self.inside c.deref_mut.result.now c.clear_bit.new.words c.args.self.now 0 c.from-number.result c.args.number
    c.deref_mut.ensures.value (c.clear_bit.auto.words
    ∙ ap length c.deref_mut.ensures.value) c.self.view_is c.from-number.ensures c.requires c.clear_bit.ensures.sets

pub invariant_of-self-then-clear_bit : goal.invariant_of-self-then-clear_bit
invariant_of-self-then-clear_bit c =
    levels-top c.self.inside c.deref_mut.result.now c.clear_bit.new.words c.clear_bit-2.new.words c.clear_bit-then-clear_bit.new.words c.from-number.result
    c.self.invariant c.deref_mut.ensures.value (c.clear_bit.auto.words ∙ ap length c.deref_mut.ensures.value) c.clear_bit-then-clear_bit.auto.words
    c.clear_bit.ensures.sets (c.if-not-clear_bit.ensures.empty.0 refl)
    c.clear_bit-2.ensures.sets (c.if-clear_bit.ensures.empty.0 refl)
    c.clear_bit-then-clear_bit.ensures.sets

pub invariant_of-self-else-clear_bit : goal.invariant_of-self-else-clear_bit
invariant_of-self-else-clear_bit c =
    levels-word c.self.inside c.deref_mut.result.now c.clear_bit.new.words c.clear_bit-2.new.words c.from-number.result
    c.self.invariant c.deref_mut.ensures.value (c.clear_bit.auto.words ∙ ap length c.deref_mut.ensures.value)
    c.clear_bit.ensures.sets (c.if-not-clear_bit.ensures.empty.0 refl)
    c.clear_bit-2.ensures.sets c.clear_bit-2.ensures.none (λ empty. let e = c.if-clear_bit.ensures.empty.1 empty in cc)

pub returns-then-clear_bit : goal.returns-then-clear_bit
returns-then-clear_bit c =
    marks-set c.self.inside c.deref_mut.result.now c.clear_bit.new.words c.args.self.now 0 c.from-number.result c.args.number
    c.deref_mut.ensures.value (c.clear_bit.auto.words
    ∙ ap length c.deref_mut.ensures.value) c.self.view_is c.from-number.ensures c.requires c.clear_bit.ensures.sets

pub returns-else-clear_bit : goal.returns-else-clear_bit
returns-else-clear_bit c =
    marks-set c.self.inside c.deref_mut.result.now c.clear_bit.new.words c.args.self.now 0 c.from-number.result c.args.number
    c.deref_mut.ensures.value (c.clear_bit.auto.words
    ∙ ap length c.deref_mut.ensures.value) c.self.view_is c.from-number.ensures c.requires c.clear_bit.ensures.sets
