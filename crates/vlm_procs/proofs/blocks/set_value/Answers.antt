use Rattle.std.proofs.Common.{rules}
use Rattle.vlm_model.specs.StatusBlocks.{processes_after_setting}
use Rattle.vlm_procs.proofs.blocks.set_value.Goals as goal

pub returns-clause-written : goal.returns-clause-written
unfolding processes_after_setting
returns-clause-written c = search rules
