use Rattle.vlm_queue.proofs.Walking.{next_there, one_left}
use Rattle.vlm_queue.proofs.walks.next_resource.Goals as goal

pub returns-clause-there : goal.returns-clause-there
returns-clause-there c = rw c.next_resource.ensures.next (next_there c.args.store.now c.args.res c.next_resource.ensures.sound c.requires)

pub returns-clause-left : goal.returns-clause-left
returns-clause-left c = rw c.next_resource.ensures.next (one_left c.args.store.now c.args.res c.next_resource.ensures.sound c.requires)
