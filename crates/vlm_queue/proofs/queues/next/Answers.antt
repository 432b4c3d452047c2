use Rattle.vlm_queue.proofs.queues.next.Goals as goal

pub returns : goal.returns
returns c = c.next.ensures
