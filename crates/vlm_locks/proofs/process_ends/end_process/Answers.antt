use Rattle.vlm_locks.proofs.FoundByHandle.{process_here, process_there}
use Rattle.vlm_locks.proofs.ProcessGone.{others_can_end, process_ended}
use Rattle.vlm_locks.proofs.process_ends.end_process.Goals as goal

pub remove_process-requires-clause-there : goal.remove_process-requires-clause-there
remove_process-requires-clause-there c =
    let who = process_here c.args.store.now c.requires.can_end.rest.sound c.args.owner c.requires.owner in
    process_there c.run_down.new.store c.args.owner who.0 (c.run_down.ensures who.0 who.1).lives

pub remove_process-requires-clause-idle : goal.remove_process-requires-clause-idle
remove_process-requires-clause-idle c =
    let who = process_here c.args.store.now c.requires.can_end.rest.sound c.args.owner c.requires.owner in
    (c.run_down.ensures who.0 who.1).gone

pub returns-clause-ended : goal.returns-clause-ended
returns-clause-ended c pid lives =
    let down = c.run_down.ensures pid lives in
    process_ended c.args.store.now c.run_down.new.store c.remove_process.new.self c.args.touched.now c.run_down.new.touched c.args.owner pid
    c.remove_process.new.self.room.processes down.can_end.rest.sound down.lives down.gone c.remove_process.ensures.removed
    down.resources down.statuses down.kept down.only_touched down.same_room

pub returns-clause-can_end : goal.returns-clause-can_end
returns-clause-can_end c =
    let who = process_here c.args.store.now c.requires.can_end.rest.sound c.args.owner c.requires.owner in
    let down = c.run_down.ensures who.0 who.1 in
    others_can_end c.run_down.new.store c.remove_process.new.self c.run_down.new.touched c.args.owner who.0
    c.remove_process.new.self.room.processes down.can_end.rest.sound down.lives down.gone c.remove_process.ensures.removed
    c.remove_process.ensures.sound.after down.can_end
