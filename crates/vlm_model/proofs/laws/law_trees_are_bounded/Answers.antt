use Rattle.vlm_model.proofs.Trees.{trees_always}
use Rattle.vlm_model.proofs.laws.law_trees_are_bounded.Goals as goal

pub returns : goal.returns
returns c = trees_always
