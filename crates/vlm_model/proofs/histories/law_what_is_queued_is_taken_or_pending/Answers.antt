use Rattle.vlm_model.proofs.Accounting.{taken_or_pending_always}
use Rattle.vlm_model.proofs.histories.law_what_is_queued_is_taken_or_pending.Goals as goal

pub returns : goal.returns
returns c = taken_or_pending_always c.law_asts_are_taken_in_order.ensures
