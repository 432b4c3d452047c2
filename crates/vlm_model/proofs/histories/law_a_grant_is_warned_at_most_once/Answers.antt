use Rattle.vlm_model.proofs.WarnedOnce.{warned_once_always}
use Rattle.vlm_model.proofs.histories.law_a_grant_is_warned_at_most_once.Goals as goal

pub returns : goal.returns
returns c = warned_once_always
