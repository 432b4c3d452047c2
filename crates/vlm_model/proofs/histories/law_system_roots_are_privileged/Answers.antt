use Rattle.vlm_model.proofs.Privileges.{privileges_always}
use Rattle.vlm_model.proofs.histories.law_system_roots_are_privileged.Goals as goal

pub returns : goal.returns
returns c = privileges_always
