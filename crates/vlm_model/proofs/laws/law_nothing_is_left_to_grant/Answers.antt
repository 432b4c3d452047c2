use Rattle.vlm_model.proofs.NothingLeft.{nothing_left_always}
use Rattle.vlm_model.proofs.laws.law_nothing_is_left_to_grant.Goals as goal

pub returns : goal.returns
returns c = nothing_left_always
