use Rattle.std.proofs.Common.{◌≡◌, length}
use Rattle.std.specs.List.{list_any}
use Rattle.vlm_records.specs.declared.handles.Place.TheVariants.{Queued}
use Rattle.vlm_store.specs.Records.{locks_at}
use Rattle.vlm_queue.specs.Walks.{IsInQueue}
use Rattle.vlm_cycle.specs.Covering.{covers, rows_ahead}
use Rattle.vlm_cycle.specs.Waiting.{IsRoomy}
use Rattle.vlm_cycle.proofs.WalksToHead.{rows_until}
use Rattle.vlm_cycle.proofs.MarksOneByOne.{GoesOn}
use Rattle.vlm_cycle.proofs.OwnerWalks.{OwnsNearest}
use Rattle.vlm_cycle.proofs.blockers.find_nearest.Given as goal

-- what is marked up to this lock is marked of all rows before the waiting one, and none that was passed covers
abbrev pub invariant-loop-at : goal.invariant-loop-at
invariant-loop-at l = record {
  there : IsInQueue l.waiting.res l.waiting.queue l.at l.store;
  roomy : IsRoomy l.store l.scratch;
  goes_on : GoesOn OwnsNearest (rows_until l.at (locks_at (Queued l.waiting.res l.waiting.queue) l.store))
      (rows_ahead l.waiting l.store) l.initial.scratch l.scratch;
  covered : list_any covers (rows_ahead l.waiting l.store) ≡ list_any covers (rows_until l.at (locks_at (Queued l.waiting.res l.waiting.queue) l.store));
}

abbrev pub decreases-loop-at : goal.decreases-loop-at
decreases-loop-at l = length (rows_until l.at (locks_at (Queued l.waiting.res l.waiting.queue) l.store))
