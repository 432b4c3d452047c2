use Rattle.vlm_model.proofs.Stable.{occupied_law}
use Rattle.vlm_model.proofs.laws.law_no_resource_is_vacant.Goals as goal

pub returns : goal.returns
returns c = occupied_law
