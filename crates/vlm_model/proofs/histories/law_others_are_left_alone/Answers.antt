use Rattle.vlm_model.proofs.Owners.{left_alone_always}
use Rattle.vlm_model.proofs.histories.law_others_are_left_alone.Goals as goal

pub returns : goal.returns
returns c = left_alone_always
