use Rattle.std.proofs.Common.{◌∙◌}
use Rattle.vlm_queue.specs.Views.{resource_view}
use Rattle.vlm_core.proofs.FoundByKey.{key_fits, key_missing, key_read}
use Rattle.vlm_core.proofs.public.Core.resource.Goals as goal

pub returns : goal.returns
returns c =
    rw (← c.self.view_is, ← c.self-inside.view_is, ← c.key_of-key.ensures)
    (key_read resource_view c.args.domain _
    (rw c.key_of-key.ensures
    (key_fits c.args.parent c.args.domain c.args.name)) _ c.self-inside.invariant.rest c.resource.ensures.sound
    c.in_ok-res.res
    c.in_ok-res.ensures.found c.resource_view.result c.resource_view.ensures)

pub returns-in_err-res : goal.returns-in_err-res
returns-in_err-res c =
    rw (← c.self.view_is, ← c.self-inside.view_is, ← c.key_of-key.ensures)
    (c.from_residual.ensures
    ∙ key_missing resource_view c.args.domain _
    (rw c.key_of-key.ensures
    (key_fits c.args.parent c.args.domain c.args.name)) _ c.self-inside.invariant.rest c.in_err-res.ensures.found)
