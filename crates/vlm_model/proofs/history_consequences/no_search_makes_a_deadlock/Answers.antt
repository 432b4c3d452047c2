use Rattle.vlm_model.proofs.TwoDeadlocked.{first_caught, nobody_caught}
use Rattle.vlm_model.proofs.history_consequences.no_search_makes_a_deadlock.Goals as goal

pub returns : goal.returns
returns c = λ old new a b law two nobody. nobody_caught old a nobody (law a (first_caught new a b two))
