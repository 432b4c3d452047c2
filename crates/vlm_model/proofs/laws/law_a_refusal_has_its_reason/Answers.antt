use Rattle.vlm_model.proofs.Reasons.{reasons_always}
use Rattle.vlm_model.proofs.laws.law_a_refusal_has_its_reason.Goals as goal

pub returns : goal.returns
returns c = reasons_always
