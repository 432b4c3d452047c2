use Rattle.vlm_model.proofs.Granted.{granted_always}
use Rattle.vlm_model.proofs.laws.law_no_grant_is_hidden.Goals as goal

pub returns : goal.returns
returns c = granted_always
