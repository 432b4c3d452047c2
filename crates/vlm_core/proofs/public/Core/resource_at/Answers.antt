use Rattle.vlm_core.proofs.public.Core.resource_at.Goals as goal

pub returns : goal.returns
returns c = rw (← c.self.view_is, ← c.self-inside.view_is) c.resource_at.ensures
