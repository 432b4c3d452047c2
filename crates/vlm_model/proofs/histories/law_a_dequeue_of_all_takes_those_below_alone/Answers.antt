use Rattle.vlm_model.proofs.TakenBelow.{takes_always}
use Rattle.vlm_model.proofs.histories.law_a_dequeue_of_all_takes_those_below_alone.Goals as goal

pub returns : goal.returns
returns c = takes_always
