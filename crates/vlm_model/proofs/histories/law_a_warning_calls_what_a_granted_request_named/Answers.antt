use Rattle.vlm_model.proofs.Warning.{warnings_always}
use Rattle.vlm_model.proofs.histories.law_a_warning_calls_what_a_granted_request_named.Goals as goal

pub returns : goal.returns
returns c = warnings_always
