use Rattle.vlm_model.proofs.Stable.{swept_next, unswept}
use Rattle.vlm_model.proofs.laws.law_a_sweep_touches_only_what_is_not_stable.Goals as goal

pub returns-clause-next : goal.returns-clause-next
returns-clause-next c = swept_next

pub returns-clause-done : goal.returns-clause-done
returns-clause-done c = unswept
