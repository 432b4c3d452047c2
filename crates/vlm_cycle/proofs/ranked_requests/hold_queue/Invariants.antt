use Rattle.std.proofs.Common.{length}
use Rattle.vlm_queue.specs.Walks.{IsInQueue, rows_to_walk, rows_queued}
use Rattle.vlm_cycle.proofs.GaugePeaks.{HoldersBut, KeepsPeaks}
use Rattle.vlm_cycle.proofs.ranked_requests.hold_queue.Given as goal

-- what is held before this lock is counted
abbrev pub invariant-loop-at : goal.invariant-loop-at
invariant-loop-at l = record {
  there : IsInQueue l.fn.res l.fn.queue l.at l.store;
  counted : HoldersBut l.store l.ranks l.blocker_ranks.held (rows_queued l.fn.res l.fn.queue l.store) (rows_to_walk l.fn.res l.fn.queue l.at l.store);
  kept : KeepsPeaks l.initial.blocker_ranks.held l.blocker_ranks.held;
}

abbrev pub decreases-loop-at : goal.decreases-loop-at
decreases-loop-at l = length (rows_to_walk l.fn.res l.fn.queue l.at l.store)
