use Rattle.vlm_locks.proofs.FoundByHandle.{process_still, process_there}
use Rattle.vlm_locks.proofs.endings.grant_without_value_block.Goals as goal

pub accept_granted-requires : goal.accept_granted-requires
accept_granted-requires c = process_there c.args.store.now c.args.at c.args.row.now.pid c.requires.process

pub tell_grant-requires-clause-process : goal.tell_grant-requires-clause-process
tell_grant-requires-clause-process c =
    process_still c.args.store.now c.accept_granted.new.store c.args.at c.args.row.now.pid c.accept_granted.ensures.only_notices c.requires.process
