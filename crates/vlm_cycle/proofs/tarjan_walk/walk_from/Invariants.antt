use Rattle.vlm_cycle.specs.Notes.{AreNotes, IsWalk}
use Rattle.vlm_cycle.proofs.tarjan_walk.walk_from.Given as goal

abbrev pub invariant-loop : goal.invariant-loop
invariant-loop l = record {
  walk : IsWalk l.store l.walk;
  notes : AreNotes l.store l.ranks;
}
