use Rattle.vlm_model.proofs.HeldModes.{held_modes_always}
use Rattle.vlm_model.proofs.laws.law_held_modes_are_compatible.Goals as goal

pub returns : goal.returns
returns c = held_modes_always
