use Rattle.std.proofs.Common.{subst}
use Rattle.vlm_store.specs.Records.{FindsProcess}
use Rattle.vlm_cycle.specs.Covering.{IsNearBehind}
use Rattle.vlm_cycle.proofs.MarksOneByOne.{marks_none}
use Rattle.vlm_cycle.proofs.OwnRequests.{none_behind}
use Rattle.vlm_cycle.proofs.deadlocks.find_behind.Goals as goal

-- one that does not live waits for nobody
pub returns-in_default : goal.returns-in_default
returns-in_default c =
    let s = c.args.store.now in
    marks_none (IsNearBehind s c.args.pid) c.args.scratch.now
    (none_behind s c.process.ensures.sound c.args.pid (subst (FindsProcess s c.args.pid) c.in_default.is c.process.ensures.found))

pub returns-in-Some : goal.returns-in-Some
returns-in-Some c = c.find_behind_own.ensures c.args.pid c.in-Some.ensures.found
