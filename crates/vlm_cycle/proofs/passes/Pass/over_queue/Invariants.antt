use Rattle.std.proofs.Common.{◌≡◌, length}
use Rattle.vlm_queue.specs.Walks.{IsInQueue, rows_to_walk, rows_queued}
use Rattle.vlm_cycle.specs.Marking.{KeepsRoom}
use Rattle.vlm_cycle.specs.Passing.{MayPass}
use Rattle.vlm_cycle.specs.Waiting.{IsRoomy}
use Rattle.vlm_cycle.proofs.PassesGoOn.{PassGoesOn}
use Rattle.vlm_cycle.proofs.Ranked.{IsPassing}
use Rattle.vlm_cycle.proofs.passes.Pass.over_queue.Given as goal

-- the pass over what is left makes the pass over the whole queue
abbrev pub invariant-loop-at : goal.invariant-loop-at
invariant-loop-at l = record {
  there : IsInQueue l.fn.res l.fn.queue l.at l.store;
  roomy : IsRoomy l.store l.scratch;
  room : KeepsRoom l.initial.scratch l.scratch;
  ranks : l.scratch.ranks ≡ l.initial.scratch.ranks;
  may : MayPass l.store l.initial.scratch.ranks l.self;
  passing : IsPassing l.store l.initial.scratch.ranks (rows_queued l.fn.res l.fn.queue l.store)
      (rows_to_walk l.fn.res l.fn.queue l.at l.store) l.initial.blocker_ranks l.blocker_ranks;
  goes_on : PassGoesOn l.store l.initial.scratch.ranks (rows_to_walk l.fn.res l.fn.queue l.at l.store)
      (rows_queued l.fn.res l.fn.queue l.store) l.initial.self l.self;
}

abbrev pub decreases-loop-at : goal.decreases-loop-at
decreases-loop-at l = length (rows_to_walk l.fn.res l.fn.queue l.at l.store)
