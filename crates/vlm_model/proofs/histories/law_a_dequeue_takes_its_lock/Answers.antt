use Rattle.vlm_model.proofs.TakenAlone.{takes_its_lock}
use Rattle.vlm_model.proofs.histories.law_a_dequeue_takes_its_lock.Goals as goal

pub returns : goal.returns
returns c = takes_its_lock
