use Rattle.vlm_model.proofs.Standing.{converted_locks_always, new_locks_always}
use Rattle.vlm_model.proofs.laws.law_a_lock_stands_as_asked_for.Goals as goal

pub returns-clause-new : goal.returns-clause-new
returns-clause-new c = new_locks_always

pub returns-clause-converted : goal.returns-clause-converted
returns-clause-converted c = converted_locks_always
