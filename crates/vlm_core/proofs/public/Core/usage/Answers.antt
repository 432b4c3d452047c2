use Rattle.std.proofs.Common.{◌∙◌, refl}
use Rattle.vlm_words.specs.declared.resources.Key.TheVariants.{Root}
use Rattle.vlm_queue.specs.Views.{usage}
use Rattle.vlm_core.proofs.FoundByKey.{key_missing, key_read}
use Rattle.vlm_core.proofs.public.Core.usage.Goals as goal

pub returns : goal.returns
returns c =
    rw (← c.self.view_is, ← c.self-inside.view_is)
    (key_read usage c.args.domain
    (Root c.args.domain c.args.name) refl _ c.self-inside.invariant.rest c.resource.ensures.sound c.in_ok-res.res
    c.in_ok-res.ensures.found c.usage_of.result c.usage_of.ensures)

pub returns-in_err-res : goal.returns-in_err-res
returns-in_err-res c =
    rw (← c.self.view_is, ← c.self-inside.view_is)
    (c.from_residual.ensures ∙ key_missing usage c.args.domain (Root c.args.domain c.args.name) refl _ c.self-inside.invariant.rest c.in_err-res.ensures.found)
