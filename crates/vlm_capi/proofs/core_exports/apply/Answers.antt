use Rattle.std.proofs.Common.{sym, subst}
use Rattle.vlm_model.specs.Stepped.{Outcome}
use Rattle.vlm_capi.specs.Lending.{LendsCore}
use Rattle.vlm_capi.specs.Served.{Served}
use Rattle.vlm_capi.proofs.Serving.{served}
use Rattle.vlm_capi.proofs.core_exports.apply.Goals as goal

pub returns-in-Some-lent_step : goal.returns-in-Some-lent_step
returns-in-Some-lent_step c =
    let before = c.args.handle.now.slot.held in let after = c.lent_step.new.handle.slot.held in let answer =
    c.in-Some-lent_step.answer in let step = c.in-Some.step in
    let lent = subst (λ r. LendsCore (λ s a s'. Outcome s step s' a) before r after) c.in-Some-lent_step.is c.lent_step.ensures in
    subst (λ step. Served before step after answer) (sym c.in-Some.is) (served before step answer after lent)
