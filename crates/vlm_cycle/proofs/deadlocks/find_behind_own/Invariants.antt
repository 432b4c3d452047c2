use Rattle.std.proofs.Common.{length}
use Rattle.vlm_store.specs.Records.{own_handles_at}
use Rattle.vlm_locks.proofs.ChosenLocks.{on_from}
use Rattle.vlm_cycle.specs.Waiting.{IsRoomy}
use Rattle.vlm_cycle.proofs.MarksOneByOne.{GoesOn}
use Rattle.vlm_cycle.proofs.OwnRequests.{IsAtOwn, OwnWaitFor}
use Rattle.vlm_cycle.proofs.deadlocks.find_behind_own.Given as goal

-- what is marked behind this lock is marked of all locks of the process
abbrev pub invariant-loop-at : goal.invariant-loop-at
invariant-loop-at l = record {
  there : IsAtOwn l.at (own_handles_at l.fn.owner l.store);
  roomy : IsRoomy l.store l.scratch;
  goes_on : GoesOn (OwnWaitFor l.store) (on_from l.at (own_handles_at l.fn.owner l.store)) (own_handles_at l.fn.owner l.store) l.initial.scratch l.scratch;
}

abbrev pub decreases-loop-at : goal.decreases-loop-at
decreases-loop-at l = length (on_from l.at (own_handles_at l.fn.owner l.store))
