use Rattle.vlm_model.proofs.WritingConversions.{writes_at_once_always}
use Rattle.vlm_model.proofs.laws.law_writes_are_granted_at_once.Goals as goal

pub returns : goal.returns
returns c = writes_at_once_always
