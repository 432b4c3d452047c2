use Rattle.vlm_queue.proofs.Walking.{all_left, first_there}
use Rattle.vlm_queue.proofs.walks.first_resource.Goals as goal

pub returns-clause-there : goal.returns-clause-there
returns-clause-there c = rw c.first_resource.ensures.first (first_there c.args.store.now c.first_resource.ensures.sound)

pub returns-clause-left : goal.returns-clause-left
returns-clause-left c = rw c.first_resource.ensures.first (all_left c.args.store.now.resources)
