use Rattle.vlm_model.proofs.Numbers.{numbers_always}
use Rattle.vlm_model.proofs.laws.law_numbers_are_given_once.Goals as goal

pub returns : goal.returns
returns c = numbers_always
