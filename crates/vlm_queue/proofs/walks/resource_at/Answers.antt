use Rattle.std.proofs.Common.{sym, ◌∙◌}
use Rattle.vlm_queue.proofs.Indexed.{no_resource_shown, resource_shown}
use Rattle.vlm_queue.proofs.walks.resource_at.Goals as goal

pub returns : goal.returns
returns c =
    resource_shown c.args.index _ c.in_ok-res.res c.resource_view.result c.nth_resource.ensures.sound.resources_apart
    (sym c.nth_resource.ensures.found ∙ c.in_ok-res.was) c.resource_view.ensures

pub returns-in_err-res : goal.returns-in_err-res
returns-in_err-res c = c.from_residual.ensures ∙ no_resource_shown c.args.index _ (sym c.nth_resource.ensures.found ∙ c.in_err-res.was)
