use Rattle.vlm_model.proofs.Living.{none_given_twice}
use Rattle.vlm_model.proofs.histories.law_no_id_is_given_twice.Goals as goal

pub returns : goal.returns
returns c = none_given_twice
