use Rattle.vlm_model.proofs.NothingToWarn.{nothing_to_warn_always}
use Rattle.vlm_model.proofs.laws.law_nothing_is_left_to_warn.Goals as goal

pub returns : goal.returns
returns c = nothing_to_warn_always
