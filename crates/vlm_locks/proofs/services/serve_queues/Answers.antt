use Rattle.vlm_locks.proofs.ServiceEnds.{served_alone, served_then}
use Rattle.vlm_locks.proofs.services.serve_queues.Goals as goal

-- once no conversion is left, the new requests are served
pub returns-in-None-clause-served : goal.returns-in-None-clause-served
returns-in-None-clause-served c =
    served_then c.args.res c.args.value_block.now c.args.store.now c.serve_queue.new.value_block c.serve_queue.new.store c.serve_queue.ensures.served
    c.serve_queue-in-None.new.value_block c.serve_queue-in-None.new.store c.in-None.ensures.first c.serve_queue-in-None.ensures.served

-- where conversions are left, nothing else is
pub returns-in-Some-clause-served : goal.returns-in-Some-clause-served
returns-in-Some-clause-served c =
    served_alone c.args.res c.args.value_block.now c.args.store.now c.serve_queue.new.value_block c.serve_queue.new.store c.serve_queue.ensures.served
    c.in-Some.field-0 c.in-Some.ensures.first
