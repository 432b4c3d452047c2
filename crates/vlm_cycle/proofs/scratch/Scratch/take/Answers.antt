use Rattle.std.proofs.Common.{◌∙◌, ap, sym, arith}
use Rattle.vlm_records.specs.NodeMarks.{is_marked}
use Rattle.vlm_cycle.specs.declared.scratch.Scratch.{Scratch}
use Rattle.vlm_cycle.proofs.MarksOneByOne.{none_of_nodes}
use Rattle.vlm_cycle.proofs.scratch.Scratch.take.Goals as goal

pub returns : goal.returns
returns c = (
  c.loop-node.invariant.0,
  λ pid.
      ap (λ (m : Scratch). is_marked m.todo pid) (sym c.loop-node.invariant.0)
      ∙ none_of_nodes c.loop-node.self.todo
      (λ other first last. c.loop-node.invariant.1 other first
      (omega (arith, last, c.loop-node-test.false, c.loop-node.auto.node-end))) pid,
)
