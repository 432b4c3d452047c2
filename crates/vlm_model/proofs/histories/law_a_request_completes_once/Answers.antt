use Rattle.vlm_model.proofs.Completing.{completes_always}
use Rattle.vlm_model.proofs.histories.law_a_request_completes_once.Goals as goal

pub returns : goal.returns
returns c = completes_always
