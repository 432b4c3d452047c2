use Rattle.std.proofs.Common.{◌≤◌, ℕ, sym, subst}
use Rattle.vlm_words.specs.Dues.{row_due}
use Rattle.vlm_locks.specs.Entering.{new_row}
use Rattle.vlm_locks.proofs.FoundByHandle.{process_still, process_there}
use Rattle.vlm_locks.proofs.ReservedByRequests.{owed_waiting}
use Rattle.vlm_locks.proofs.new_locks.accept_entered.Goals as goal

-- ---- where it waits

pub accept-requires : goal.accept-requires
accept-requires c = process_there c.args.store.now c.args.new_lock.now.owner c.args.new_lock.now.pid c.requires.owner

pub returns-then-not-new_lock-clause-owed : goal.returns-then-not-new_lock-clause-owed
returns-then-not-new_lock-clause-owed c =
    rw c.if-not-new_lock.true (owed_waiting (new_row c.args.new_lock.now) c.args.store.now c.accept.new.store c.accept.ensures.dues)

-- ---- where the request names the value block

pub accept-requires-then-has : goal.accept-requires-then-has
accept-requires-then-has c = process_there c.args.store.now c.args.new_lock.now.owner c.args.new_lock.now.pid c.requires.owner

pub end_by_grant-requires-clause-process : goal.end_by_grant-requires-clause-process
end_by_grant-requires-clause-process c =
    let new_lock = c.args.new_lock.now in
    rw c.wanting_state-row.ensures (process_still c.args.store.now c.accept-then-has.new.store new_lock.owner new_lock.pid
    c.accept-then-has.ensures.only_notices c.requires.owner)

pub end_by_grant-requires-clause-owed : goal.end_by_grant-requires-clause-owed
end_by_grant-requires-clause-owed c =
    let new_lock = c.args.new_lock.now in
    rw c.wanting_state-row.ensures (subst (λ (due : ℕ). row_due (new_row new_lock) ≤ due) (sym (c.accept-then-has.ensures.dues new_lock.pid)) c.requires.owed)
