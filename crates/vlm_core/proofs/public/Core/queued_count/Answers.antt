use Rattle.vlm_core.proofs.LockCounts.{queued_told}
use Rattle.vlm_core.proofs.public.Core.queued_count.Goals as goal

pub returns : goal.returns
returns c = rw (← c.self.view_is, ← c.self-inside.view_is) (queued_told _ c.self-inside.invariant.rest _ c.queued_count.ensures)
