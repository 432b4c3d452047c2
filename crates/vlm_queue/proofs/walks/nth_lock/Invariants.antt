use Rattle.std.proofs.Common.{◌≡◌}
use Rattle.vlm_records.specs.declared.handles.Place.TheVariants.{Queued}
use Rattle.vlm_store.specs.Records.{locks_at}
use Rattle.vlm_queue.specs.Walks.{lock_at_index}
use Rattle.vlm_queue.proofs.walks.nth_lock.Given as goal

-- the walk has come to the lock at the index that is counted
abbrev pub invariant-loop : goal.invariant-loop
invariant-loop l = l.at ≡ lock_at_index l.counter (locks_at (Queued l.fn.res l.fn.queue) l.store)
