use Rattle.vlm_locks.proofs.ServiceEnds.{granted, still_there}
use Rattle.vlm_locks.proofs.ReservedAsts.{paid_valued}
use Rattle.vlm_locks.proofs.services.grant_queued.Goals as goal

pub returns-clause-granted : goal.returns-clause-granted
returns-clause-granted c =
    granted c.args.res c.args.store.now c.serve_queues.new.store c.set_value_block.new.self
    c.resource_record.result.now.value_block c.serve_queues.new.value_block
    c.resource_record.ensures.sound c.resource_record.ensures.value_block c.serve_queues.ensures.served c.set_value_block.ensures.written

pub returns-clause-there : goal.returns-clause-there
returns-clause-there c =
    still_there c.args.res c.args.store.now c.serve_queues.new.store c.set_value_block.new.self
    c.resource_record.result.now.value_block c.serve_queues.new.value_block
    c.resource_record.ensures.sound c.resource_record.ensures.value_block c.serve_queues.ensures.served c.set_value_block.ensures.written

pub returns-clause-paid : goal.returns-clause-paid
returns-clause-paid c =
    paid_valued c.serve_queues.new.store c.set_value_block.new.self c.set_value_block.ensures.sound.before c.args.res
    c.serve_queues.new.value_block c.set_value_block.ensures.written
    c.serve_queues.ensures.paid
