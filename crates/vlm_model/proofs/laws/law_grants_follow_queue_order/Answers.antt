use Rattle.vlm_model.proofs.GrantsAtOnce.{queue_order_always}
use Rattle.vlm_model.proofs.laws.law_grants_follow_queue_order.Goals as goal

pub returns : goal.returns
returns c = queue_order_always
