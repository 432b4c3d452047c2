use Rattle.std.proofs.Common.{length}
use Rattle.vlm_records.specs.declared.handles.Place.TheVariants.{Queued}
use Rattle.vlm_store.specs.Records.{locks_at}
use Rattle.vlm_locks.specs.Owing.{IsPaid}
use Rattle.vlm_locks.proofs.Granting.{IsServing}
use Rattle.vlm_locks.proofs.services.serve_queue.Given as goal

-- the queue is served so far, and what is due is owed
abbrev pub invariant-loop-lock : goal.invariant-loop-lock
invariant-loop-lock l = IsServing l.queue l.res l.initial.value_block l.initial.store l.value_block l.store × IsPaid l.store

abbrev pub decreases-loop-lock : goal.decreases-loop-lock
decreases-loop-lock l = length (locks_at (Queued l.res l.queue) l.store)
