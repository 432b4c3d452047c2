use Rattle.vlm_model.proofs.Writers.{writers_always}
use Rattle.vlm_model.proofs.laws.law_only_writers_change_value_blocks.Goals as goal

pub returns : goal.returns
returns c = writers_always
