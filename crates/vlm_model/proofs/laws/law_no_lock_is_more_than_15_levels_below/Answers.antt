use Rattle.vlm_model.proofs.Trees.{chains_always}
use Rattle.vlm_model.proofs.laws.law_no_lock_is_more_than_15_levels_below.Goals as goal

pub returns : goal.returns
returns c = chains_always
