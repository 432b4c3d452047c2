use Rattle.std.proofs.Common.{◌∙◌, List, ap, sym, subst, arith}
use Rattle.vlm_words.specs.State.{Node}
use Rattle.vlm_words.specs.Steps.{is_of_node}
use Rattle.vlm_model.specs.Rundown.{nodes_after_departure}
use Rattle.vlm_locks.specs.RunningDown.{CanEndProcesses}
use Rattle.vlm_machine.specs.Machine.{MachineState, kept, plain_state}
use Rattle.vlm_machine.proofs.EndOfProcess.{can_end, state_ended, to_sweep}
use Rattle.vlm_machine.proofs.RunDown.{is_apart}
use Rattle.vlm_machine.proofs.records.Machine.leave_change.Goals as goal

pub end_processes_of-requires-clause-can_end : goal.end_processes_of-requires-clause-can_end
end_processes_of-requires-clause-can_end c =
    subst (λ (m : MachineState). CanEndProcesses c.args.touched.now m.records) (sym c.self.view_is)
    (can_end c.args.self.now c.args.touched.now (rw (← c.self.view_is) c.self.invariant.rest)
    (rw (← c.self.view_is) c.self.invariant.paid) c.requires.between c.requires.notes)

pub returns-clause-change : goal.returns-clause-change
returns-clause-change c =
    let m = kept c.self.inside in
    let between = rw (← c.self.view_is) at c.requires.between in
    rw (← c.self.view_is)
    (ap (λ (its : List Node). plain_state (record m { nodes = its; records = c.end_processes_of.new.store })) c.depart.ensures
    ∙ state_ended m (is_of_node c.args.node)
    (nodes_after_departure m.nodes c.args.node) c.end_processes_of.new.store c.args.touched.now
    c.end_processes_of.new.touched
    (is_apart (plain_state m) between.ids (omega arith)) c.end_processes_of.ensures.ended)

pub returns-clause-to_sweep : goal.returns-clause-to_sweep
returns-clause-to_sweep c =
    let m = kept c.self.inside in
    let between = rw (← c.self.view_is) at c.requires.between in
    to_sweep m (record m { nodes = c.depart.new.nodes; records = c.end_processes_of.new.store })
    (is_of_node c.args.node) c.args.touched.now c.end_processes_of.new.touched between c.end_processes_of.ensures.ended c.end_processes_of.ensures.can_end
