use Rattle.vlm_model.proofs.TailMarks.{tails_always}
use Rattle.vlm_model.proofs.histories.law_a_tail_is_valid_with_its_value.Goals as goal

pub returns : goal.returns
returns c = tails_always
