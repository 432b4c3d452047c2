use Rattle.vlm_model.proofs.Departing.{none_lives_always}
use Rattle.vlm_model.proofs.histories.law_no_process_of_a_departed_node_lives.Goals as goal

pub returns : goal.returns
returns c = none_lives_always
