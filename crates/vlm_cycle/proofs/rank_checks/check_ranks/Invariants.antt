use Rattle.std.proofs.Common.{◌≡◌, true}
use Rattle.vlm_store.specs.Queued.{AreQueued}
use Rattle.vlm_cycle.specs.declared.passes.Purpose.TheVariants.{Check}
use Rattle.vlm_cycle.specs.Finding.{IsLocatedIfAny}
use Rattle.vlm_cycle.specs.Marking.{KeepsRoom}
use Rattle.vlm_cycle.specs.Waiting.{IsRoomy}
use Rattle.vlm_cycle.proofs.FirstInLine.{FallsLed}
use Rattle.vlm_cycle.proofs.rank_checks.check_ranks.Given as goal

-- the resources are passed to which no lock leads that is left
abbrev pub invariant-loop-lock : goal.invariant-loop-lock
invariant-loop-lock l = record {
  queued : AreQueued l.lock-iterator l.store;
  roomy : IsRoomy l.store l.scratch;
  room : KeepsRoom l.initial.scratch l.scratch;
  ranks : l.scratch.ranks ≡ l.initial.scratch.ranks;
  purpose : l.pass.purpose ≡ Check;
  falls : l.pass.falls ≡ true → FallsLed l.store l.initial.scratch.ranks l.lock-iterator;
  located : IsLocatedIfAny l.store l.pass.found;
}
