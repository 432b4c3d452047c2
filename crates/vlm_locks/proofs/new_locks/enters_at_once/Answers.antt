use Rattle.std.proofs.Common.{rules}
use Rattle.vlm_model.specs.Enqueue.{is_at_once}
use Rattle.vlm_locks.proofs.new_locks.enters_at_once.Goals as goal

pub returns-then-is_empty : goal.returns-then-is_empty
unfolding is_at_once
returns-then-is_empty c = search rules
