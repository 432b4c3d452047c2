use Rattle.vlm_model.proofs.Joining.{order_kept_always}
use Rattle.vlm_model.proofs.laws.law_changes_keep_the_order_of_queues.Goals as goal

pub returns : goal.returns
returns c = order_kept_always
