use Rattle.vlm_core.proofs.LockCounts.{locks_told}
use Rattle.vlm_core.proofs.public.Core.lock_count.Goals as goal

pub returns : goal.returns
returns c = rw (← c.self.view_is, ← c.self-inside.view_is) (locks_told _ c.self-inside.invariant.rest _ c.lock_count.ensures)
