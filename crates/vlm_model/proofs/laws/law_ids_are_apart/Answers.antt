use Rattle.vlm_model.proofs.IdsApart.{ids_always}
use Rattle.vlm_model.proofs.laws.law_ids_are_apart.Goals as goal

pub returns : goal.returns
returns c = ids_always
