use Rattle.std.proofs.Common.{length}
use Rattle.vlm_queue.specs.Walks.{IsInQueue, rows_to_walk, rows_queued}
use Rattle.vlm_cycle.specs.Waiting.{IsRoomy, OwnsBlocker}
use Rattle.vlm_cycle.proofs.MarksOneByOne.{GoesOn}
use Rattle.vlm_cycle.proofs.blockers.find_blockers.Given as goal

-- what is marked behind this lock is marked of the whole queue
abbrev pub invariant-loop-at : goal.invariant-loop-at
invariant-loop-at l = record {
  there : IsInQueue l.fn.res l.fn.queue l.at l.store;
  roomy : IsRoomy l.store l.scratch;
  goes_on : GoesOn OwnsBlocker (rows_to_walk l.fn.res l.fn.queue l.at l.store) (rows_queued l.fn.res l.fn.queue l.store) l.initial.scratch l.scratch;
}

abbrev pub decreases-loop-at : goal.decreases-loop-at
decreases-loop-at l = length (rows_to_walk l.fn.res l.fn.queue l.at l.store)
