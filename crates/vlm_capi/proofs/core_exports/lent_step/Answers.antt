use Rattle.std.proofs.Common.{rules}
use Rattle.vlm_model.specs.Stepped.{Outcome}
use Rattle.vlm_capi.proofs.Serving.{lends_core}
use Rattle.vlm_capi.proofs.core_exports.lent_step.Goals as goal

pub returns : goal.returns
returns c =
    lends_core _ (λ s r s'. Outcome s c.args.step s' r)
    (λ s r s' made. search rules) c.args.handle.now.slot.held c.with_core.result c.with_core.new.self.slot.held
    c.with_core.ensures
