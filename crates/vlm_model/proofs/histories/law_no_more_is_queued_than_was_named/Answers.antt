use Rattle.vlm_model.proofs.DueAstsRise.{no_more_always}
use Rattle.vlm_model.proofs.histories.law_no_more_is_queued_than_was_named.Goals as goal

pub returns : goal.returns
returns c = no_more_always
