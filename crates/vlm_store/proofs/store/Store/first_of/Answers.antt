use Rattle.vlm_store.proofs.LivingProcesses.{is_sound}
use Rattle.vlm_store.proofs.FirstOf.{first_living_shown}
use Rattle.vlm_store.proofs.store.Store.first_of.Goals as goal

pub returns-clause-first : goal.returns-clause-first
returns-clause-first c = rw (← c.self.view_is) (first_living_shown c.self.inside c.self.invariant c.args.node c.first.result c.first.ensures)

pub returns-clause-sound : goal.returns-clause-sound
returns-clause-sound c = rw (← c.self.view_is) (is_sound c.self.inside c.self.invariant)
