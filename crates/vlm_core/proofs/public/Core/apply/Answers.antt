use Rattle.vlm_machine.specs.Machine.{plain_state}
use Rattle.vlm_core.proofs.ReachableStates.{next_reachable}
use Rattle.vlm_core.proofs.public.Core.apply.Goals as goal

-- the step leads on, and leaves room for the notes and the marks of the next
pub invariant_of-self : goal.invariant_of-self
invariant_of-self c = record {
  reachable =
      next_reachable (plain_state c.self.inside.machine)
      (plain_state c.step.new.self) c.args.step.now c.step.result c.self.invariant.reachable c.step.ensures.outcome;
  notes = c.step.ensures.notes;
  marks = c.step.ensures.marks;
}
