use Rattle.vlm_model.proofs.BlocksRequests.{blocks_always}
use Rattle.vlm_model.proofs.histories.law_a_warned_lock_blocks_a_request.Goals as goal

pub returns : goal.returns
returns c = blocks_always
