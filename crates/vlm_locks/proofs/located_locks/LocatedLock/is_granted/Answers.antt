use Rattle.std.proofs.Common.{rules}
use Rattle.vlm_locks.proofs.located_locks.LocatedLock.is_granted.Goals as goal

pub returns-in-Granted : goal.returns-in-Granted
returns-in-Granted c = search rules
