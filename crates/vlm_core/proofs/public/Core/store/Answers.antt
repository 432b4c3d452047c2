use Rattle.vlm_queue.proofs.Indexed.{queue_given}
use Rattle.vlm_core.proofs.public.Core.store.Goals as goal

pub returns-clause-queues : goal.returns-clause-queues
returns-clause-queues c r among queue = queue_given _ r queue c.self-inside.invariant.rest.sound among

pub returns-clause-sound : goal.returns-clause-sound
returns-clause-sound c = c.self-inside.invariant.rest.sound
