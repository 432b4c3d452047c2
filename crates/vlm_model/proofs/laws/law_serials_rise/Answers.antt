use Rattle.vlm_model.proofs.Keys.{serials_always}
use Rattle.vlm_model.proofs.laws.law_serials_rise.Goals as goal

pub returns : goal.returns
returns c = serials_always
