use Rattle.vlm_model.specs.Search.{search_refusal}
use Rattle.vlm_model.proofs.NoNewCycles.{none_caught_anew}
use Rattle.vlm_model.proofs.histories.law_a_search_catches_nobody_anew.Goals as goal

pub returns : goal.returns
returns c = λ s node choice. none_caught_anew s node choice (search_refusal s node)
