use Rattle.vlm_queue.proofs.queues.can_hold.Goals as goal

pub returns : goal.returns
returns c = c.can_hold.ensures
