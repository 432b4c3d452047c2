use Rattle.vlm_model.proofs.Reuse.{always_as_a_rundown}
use Rattle.vlm_model.proofs.service_laws.law_giving_up_all_is_a_rundown_to_others.Goals as goal

pub returns : goal.returns
returns c = always_as_a_rundown
