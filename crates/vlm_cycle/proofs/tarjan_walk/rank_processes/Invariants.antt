use Rattle.vlm_store.specs.Queued.{AreQueued}
use Rattle.vlm_cycle.specs.Notes.{AreNotes, IsWalk}
use Rattle.vlm_cycle.proofs.tarjan_walk.rank_processes.Given as goal

abbrev pub invariant-loop-lock : goal.invariant-loop-lock
invariant-loop-lock l = record {
  queued : AreQueued l.lock-iterator l.store;
  walk : IsWalk l.store l.walk;
  notes : AreNotes l.store l.ranks;
}
