use Rattle.std.proofs.Common.{◌∙◌, subst}
use Rattle.vlm_collections.specs.Lists.{IsIn}
use Rattle.vlm_machine.specs.Machine.{MachineState}
use Rattle.vlm_machine.proofs.ProcessesAlone.{paid_declared, paid_refused, rests_declared, rests_refused}
use Rattle.vlm_machine.proofs.records.Machine.declare_change.Goals as goal

pub add_process-requires-clause-new : goal.add_process-requires-clause-new
add_process-requires-clause-new c p among same =
    c.requires.new p (subst (λ (m : MachineState). IsIn p m.records.processes) c.self.view_is among) (same ∙ c.next_pid-pid.ensures)

-- where memory is refused it is as it was
pub invariant_of-self : goal.invariant_of-self
invariant_of-self c = record {
  rest = rests_refused c.self.inside.store c.add_process.new.self c.in_err-add_process.ensures.err c.self.invariant.rest;
  paid = paid_refused c.self.inside.store c.add_process.new.self c.in_err-add_process.ensures.err c.self.invariant.paid;
}

-- between two steps it is as it was, with one process more
pub invariant_of-self-2 : goal.invariant_of-self-2
invariant_of-self-2 c =
    record {
      rest = rests_declared c.self.inside.store c.add_process.new.self _ c.in_ok-add_process.field-0
          c.next_pid-pid.result c.args.declaration.now c.in_ok-add_process.ensures.added
          c.in_ok-add_process.ensures.sound.after c.self.invariant.rest;
      paid = paid_declared c.self.inside.store c.add_process.new.self _ c.in_ok-add_process.field-0
          c.next_pid-pid.result c.args.declaration.now c.in_ok-add_process.ensures.added c.self.invariant.paid;
    }
