use Rattle.std.proofs.Common.{sym, subst, arith}
use Rattle.vlm_model.specs.Rundown.{is_ended_by}
use Rattle.vlm_store.specs.Records.{IsProcess}
use Rattle.vlm_locks.specs.RunningDown.{AreEnded, CanEndProcesses}
use Rattle.vlm_machine.specs.Machine.{MachineState, kept, plain_state}
use Rattle.vlm_machine.proofs.EndOfProcess.{can_end, state_ended, to_sweep}
use Rattle.vlm_machine.proofs.RunDown.{is_apart}
use Rattle.vlm_machine.proofs.records.Machine.rundown_change.Goals as goal

pub end_process-requires-clause-can_end : goal.end_process-requires-clause-can_end
end_process-requires-clause-can_end c =
    subst (λ (m : MachineState). CanEndProcesses c.args.touched.now m.records) (sym c.self.view_is)
    (can_end c.args.self.now c.args.touched.now (rw (← c.self.view_is) c.self.invariant.rest)
    (rw (← c.self.view_is) c.self.invariant.paid) c.requires.between c.requires.notes)

-- the caller has ended
abbrev pub ended : (c : goal.After-end_process)
    → AreEnded (is_ended_by c.args.caller.now.pid) c.self.inside.store c.end_process.new.store c.args.touched.now c.end_process.new.touched
ended c =
    let caller = c.args.caller.now in
    c.end_process.ensures.ended caller.pid
    (subst (λ (m : MachineState). IsProcess caller.at caller.pid m.records) (sym c.self.view_is) c.requires.caller.lives)

pub returns-clause-change : goal.returns-clause-change
returns-clause-change c =
    let m = kept c.self.inside in
    let between = rw (← c.self.view_is) at c.requires.between in
    rw (← c.self.view_is)
    (state_ended m (is_ended_by c.args.caller.now.pid) m.nodes c.end_process.new.store c.args.touched.now c.end_process.new.touched
    (is_apart (plain_state m) between.ids (omega arith)) (ended c))

pub returns-clause-to_sweep : goal.returns-clause-to_sweep
returns-clause-to_sweep c =
    let m = kept c.self.inside in
    let between = rw (← c.self.view_is) at c.requires.between in
    to_sweep m (record m { records = c.end_process.new.store }) (is_ended_by c.args.caller.now.pid) c.args.touched.now c.end_process.new.touched between
    (ended c) c.end_process.ensures.can_end

pub returns-clause-room : goal.returns-clause-room
returns-clause-room c = (ended c).same_room
