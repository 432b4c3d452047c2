use Rattle.vlm.proofs.WatchedSteps.{ended_before}
use Rattle.vlm.proofs.monitor.watch.watch_steps.Goals as goal

pub returns-in-Err : goal.returns-in-Err
returns-in-Err g c = ended_before c.args.key c.args.steps.now c.in-Err.fault c.args.text.now.items c.in-Err.ensures.faults c.requires
