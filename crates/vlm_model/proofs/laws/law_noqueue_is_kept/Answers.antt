use Rattle.vlm_model.proofs.Queued.{noqueue_always}
use Rattle.vlm_model.proofs.laws.law_noqueue_is_kept.Goals as goal

pub returns : goal.returns
returns c = noqueue_always
