use Rattle.vlm_model.proofs.WarnedSince.{warned_since_always}
use Rattle.vlm_model.proofs.histories.law_a_grant_is_armed_or_was_warned.Goals as goal

pub returns : goal.returns
returns c = warned_since_always
