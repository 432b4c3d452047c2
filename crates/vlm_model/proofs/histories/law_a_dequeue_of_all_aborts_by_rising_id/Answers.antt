use Rattle.vlm_model.proofs.AbortedInOrder.{aborts_always}
use Rattle.vlm_model.proofs.histories.law_a_dequeue_of_all_aborts_by_rising_id.Goals as goal

pub returns : goal.returns
returns c = aborts_always
