use Rattle.vlm_model.specs.Laws.{HeldModesAreCompatible}
use Rattle.vlm_cluster.proofs.Throughout.{throughout}
use Rattle.vlm_cluster.proofs.laws.law_modes_stay_compatible.Goals as goal

pub returns : goal.returns
returns c entries last journal =
    throughout (λ history state. HeldModesAreCompatible state) c.law_join.ensures c.law_journal.ensures
    c.law_held_modes_are_compatible.ensures entries last journal
