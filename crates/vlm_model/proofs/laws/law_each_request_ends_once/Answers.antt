use Rattle.vlm_model.proofs.EndsOnce.{ends_once_always}
use Rattle.vlm_model.proofs.laws.law_each_request_ends_once.Goals as goal

pub returns : goal.returns
returns c = ends_once_always
