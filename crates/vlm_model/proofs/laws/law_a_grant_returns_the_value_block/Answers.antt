use Rattle.vlm_model.proofs.Returned.{returned_always}
use Rattle.vlm_model.proofs.laws.law_a_grant_returns_the_value_block.Goals as goal

pub returns : goal.returns
returns c = returned_always
