use Rattle.std.specs.Option.{ForSome}
use Rattle.vlm_store.specs.Records.{Records}
use Rattle.vlm_cycle.specs.Notes.{AreNotes, LivesAt}
use Rattle.vlm_cycle.proofs.tarjan_walk.close.Given as goal

abbrev pub invariant-loop : goal.invariant-loop
invariant-loop l =
    (s : Records) → AreNotes s l.initial.ranks → ForSome l.initial.stack_next (LivesAt s) → AreNotes s l.ranks × ForSome l.stack_next (LivesAt s)
