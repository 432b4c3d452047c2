use Rattle.std.proofs.Common.{◌∙◌, sym}
use Rattle.vlm_core.proofs.NextRecords.{last_shown, next_shown, next_there, no_next}
use Rattle.vlm_core.proofs.FoundByKey.{key_fits}
use Rattle.vlm_core.proofs.public.Core.resource_after.Goals as goal

pub returns-in_err-res : goal.returns-in_err-res
returns-in_err-res c =
    rw (← c.self.view_is, ← c.self-inside.view_is, ← c.key_of-key.ensures)
    (c.from_residual.ensures
    ∙ no_next c.args.domain _
    (rw c.key_of-key.ensures
    (key_fits c.args.parent c.args.domain c.args.name)) _ c.self-inside.invariant.rest c.in_err-res.ensures.found)

pub resource_view-requires : goal.resource_view-requires
resource_view-requires c =
    next_there c.args.domain _
    (rw c.key_of-key.ensures
    (key_fits c.args.parent c.args.domain c.args.name)) _ c.self-inside.invariant.rest c.resource.ensures.sound
    c.in_ok-res.res
    c.in_ok-res.ensures.found c.in-Some.next (sym c.next_resource.ensures.next ∙ c.in-Some.is)

pub returns-in-Some : goal.returns-in-Some
returns-in-Some c =
    rw (← c.self.view_is, ← c.self-inside.view_is, ← c.key_of-key.ensures)
    (next_shown c.args.domain _
    (rw c.key_of-key.ensures
    (key_fits c.args.parent c.args.domain c.args.name)) _ c.self-inside.invariant.rest c.resource.ensures.sound
    c.in_ok-res.res
    c.in_ok-res.ensures.found c.in-Some.next (sym c.next_resource.ensures.next ∙ c.in-Some.is) c.resource_view.result c.resource_view.ensures)

pub returns-in-None : goal.returns-in-None
returns-in-None c =
    rw (← c.self.view_is, ← c.self-inside.view_is, ← c.key_of-key.ensures)
    (last_shown c.args.domain _
    (rw c.key_of-key.ensures
    (key_fits c.args.parent c.args.domain c.args.name)) _ c.self-inside.invariant.rest c.resource.ensures.sound
    c.in_ok-res.res
    c.in_ok-res.ensures.found (sym c.next_resource.ensures.next ∙ c.in-None.is))
