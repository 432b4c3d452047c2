use Rattle.vlm_model.proofs.WrittenBlocks.{written_always}
use Rattle.vlm_model.proofs.laws.law_a_step_writes_the_status_blocks_that_are_named.Goals as goal

pub returns : goal.returns
returns c = written_always
