use Rattle.vlm_model.proofs.Taking.{taking_always}
use Rattle.vlm_model.proofs.laws.law_asts_are_taken_in_order.Goals as goal

pub returns : goal.returns
returns c = taking_always
