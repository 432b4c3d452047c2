use Rattle.std.proofs.Common.{rules}
use Rattle.vlm_locks.proofs.releases.is_writer.Goals as goal

pub returns-in-Pw : goal.returns-in-Pw
returns-in-Pw c = search rules
