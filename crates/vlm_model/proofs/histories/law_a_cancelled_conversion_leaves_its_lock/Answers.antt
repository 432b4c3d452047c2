use Rattle.vlm_model.proofs.TakenAlone.{cancels_its_request, ends_its_victim}
use Rattle.vlm_model.proofs.histories.law_a_cancelled_conversion_leaves_its_lock.Goals as goal

pub returns-clause-cancel : goal.returns-clause-cancel
returns-clause-cancel c = cancels_its_request

pub returns-clause-search : goal.returns-clause-search
returns-clause-search c = ends_its_victim
