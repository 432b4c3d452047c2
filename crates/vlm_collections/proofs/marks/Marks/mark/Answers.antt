use Rattle.std.proofs.Common.{◌∙◌, ap, length, arith}
use Rattle.vlm_collections.proofs.Levels.{has_word, levels-marked, marks-set}
use Rattle.vlm_collections.proofs.marks.Marks.mark.Goals as goal

pub set_bit-requires : goal.set_bit-requires
set_bit-requires c =
    omega (
      arith,
      c.from-number.ensures,
      ap length c.deref_mut.ensures.value,
      has_word c.self.inside c.args.self.now c.args.number c.self.view_is c.requires,
    )

pub invariant_of-self : goal.invariant_of-self
invariant_of-self c =
    levels-marked c.self.inside c.deref_mut.result.now c.set_bit.new.words c.set_bit-2.new.words c.set_bit-3.new.words c.from-number.result
    c.self.invariant c.deref_mut.ensures.value (c.set_bit.auto.words ∙ ap length c.deref_mut.ensures.value) c.set_bit-3.auto.words
    c.set_bit.ensures c.set_bit-2.ensures c.set_bit-3.ensures

pub returns : goal.returns
returns c =
    marks-set c.self.inside c.deref_mut.result.now c.set_bit.new.words c.args.self.now 1 c.from-number.result c.args.number
    c.deref_mut.ensures.value (c.set_bit.auto.words ∙ ap length c.deref_mut.ensures.value) c.self.view_is c.from-number.ensures c.requires c.set_bit.ensures
