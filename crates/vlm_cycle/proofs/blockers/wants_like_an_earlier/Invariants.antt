use Rattle.std.proofs.Common.{◌≡◌, length}
use Rattle.std.specs.List.{list_any}
use Rattle.vlm_records.specs.declared.handles.Place.TheVariants.{Queued}
use Rattle.vlm_store.specs.Records.{locks_at}
use Rattle.vlm_queue.specs.Walks.{IsInQueue}
use Rattle.vlm_cycle.specs.Covering.{covers_for, rows_ahead}
use Rattle.vlm_cycle.proofs.WalksToHead.{rows_until}
use Rattle.vlm_cycle.proofs.blockers.wants_like_an_earlier.Given as goal

-- none that was passed is like the request
abbrev pub invariant-loop-at : goal.invariant-loop-at
invariant-loop-at l = record {
  there : IsInQueue l.waiting.res l.waiting.queue l.at l.store;
  alike : list_any (covers_for l.mode) (rows_ahead l.waiting l.store) ≡ list_any (covers_for l.mode)
      (rows_until l.at (locks_at (Queued l.waiting.res l.waiting.queue) l.store));
}

abbrev pub decreases-loop-at : goal.decreases-loop-at
decreases-loop-at l = length (rows_until l.at (locks_at (Queued l.waiting.res l.waiting.queue) l.store))
