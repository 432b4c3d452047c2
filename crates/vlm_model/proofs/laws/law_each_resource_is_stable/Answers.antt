use Rattle.vlm_model.proofs.Stable.{stable_law}
use Rattle.vlm_model.proofs.laws.law_each_resource_is_stable.Goals as goal

pub returns : goal.returns
returns c = stable_law
