use Rattle.vlm_model.proofs.AtOnce.{at_once_always}
use Rattle.vlm_model.proofs.histories.law_what_fits_is_granted_at_once.Goals as goal

pub returns : goal.returns
returns c = at_once_always
