use Rattle.std.proofs.Common.{rules}
use Rattle.vlm_queue.proofs.queues.is_empty.Goals as goal

pub returns-clause-empty : goal.returns-clause-empty
returns-clause-empty c = search rules
