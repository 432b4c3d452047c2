use Rattle.vlm_model.proofs.Trees.{parents_always}
use Rattle.vlm_model.proofs.laws.law_a_parent_outlives_its_sublocks.Goals as goal

pub returns : goal.returns
returns c = parents_always
