use Rattle.vlm_locks.proofs.located_locks.located_lock.Goals as goal

pub returns-clause-only : goal.returns-clause-only
returns-clause-only c row stored = c.lock_record-record.ensures.only row stored
