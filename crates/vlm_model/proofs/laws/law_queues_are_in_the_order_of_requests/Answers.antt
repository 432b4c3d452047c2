use Rattle.vlm_model.proofs.QueueOrder.{queue_order_always}
use Rattle.vlm_model.proofs.laws.law_queues_are_in_the_order_of_requests.Goals as goal

pub returns : goal.returns
returns c = queue_order_always
