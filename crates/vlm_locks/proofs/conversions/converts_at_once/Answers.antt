use Rattle.std.proofs.Common.{rules}
use Rattle.vlm_model.specs.Convert.{converts_at_once}
use Rattle.vlm_locks.proofs.conversions.converts_at_once.Goals as goal

pub returns-then-not-has : goal.returns-then-not-has
unfolding converts_at_once
returns-then-not-has c = search rules

pub returns-else-not-has : goal.returns-else-not-has
unfolding converts_at_once
returns-else-not-has c = search rules
