use Rattle.std.proofs.lemmas.List.{length-map}
use Rattle.vlm_core.proofs.public.Core.resource_count.Goals as goal

pub returns : goal.returns
returns c = rw (← c.self.view_is, ← c.self-inside.view_is, length-map) c.resource_count.ensures
