use Rattle.vlm_core.proofs.LockCounts.{nobody_owns, own_told}
use Rattle.vlm_core.proofs.public.Core.own_count.Goals as goal

pub returns-in-Some : goal.returns-in-Some
returns-in-Some c =
    rw (← c.self.view_is, ← c.self-inside.view_is)
    (own_told _ c.self-inside.invariant.rest _ c.in-Some.process c.args.pid c.in-Some.ensures.found c.own_lock_count.ensures.owned)

pub returns-in-None : goal.returns-in-None
returns-in-None c = rw (← c.self.view_is, ← c.self-inside.view_is) (nobody_owns _ c.process.ensures.sound c.args.pid c.in-None.ensures.found)
