use Rattle.vlm_model.proofs.Cycles.{finds_always}
use Rattle.vlm_model.proofs.laws.law_a_search_finds_who_is_caught.Goals as goal

pub returns : goal.returns
returns c = finds_always
