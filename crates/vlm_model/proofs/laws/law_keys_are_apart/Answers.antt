use Rattle.vlm_model.proofs.Keys.{keys_always}
use Rattle.vlm_model.proofs.laws.law_keys_are_apart.Goals as goal

pub returns : goal.returns
returns c = keys_always
