use Rattle.vlm_model.proofs.DueAstsRise.{raising_always}
use Rattle.vlm_model.proofs.histories.law_only_own_requests_raise_what_is_due.Goals as goal

pub returns : goal.returns
returns c = raising_always c.law_asts_are_taken_in_order.ensures
