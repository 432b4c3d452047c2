use Rattle.vlm_model.proofs.Departing.{told_always}
use Rattle.vlm_model.proofs.histories.law_a_departed_node_is_answered_departed.Goals as goal

pub returns : goal.returns
returns c = told_always
