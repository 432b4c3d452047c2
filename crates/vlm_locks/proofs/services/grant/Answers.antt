use Rattle.vlm_locks.proofs.QueuedLocks.{owner_is}
use Rattle.vlm_locks.proofs.services.grant.Goals as goal

-- a lock that moves leaves the processes
pub end_by_grant-requires-clause-process : goal.end_by_grant-requires-clause-process
end_by_grant-requires-clause-process c =
    rw c.move_lock.ensures.moved
    (owner_is c.args.store.now c.lock_record.result.now.owner c.lock_record.result.now.row c.args.row.now
    (c.lock_record.ensures.only c.args.row.now c.requires.stored) c.lock_record.ensures.owner)

-- and what they are owed
pub end_by_grant-requires-clause-owed : goal.end_by_grant-requires-clause-owed
end_by_grant-requires-clause-owed c = rw c.move_lock.ensures.moved c.requires.owed

pub returns-clause-owed : goal.returns-clause-owed
returns-clause-owed c = rw c.move_lock.ensures.moved at c.end_by_grant.ensures.owed
