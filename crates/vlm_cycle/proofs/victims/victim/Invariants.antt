use Rattle.std.proofs.Common.{◌≡◌, true}
use Rattle.vlm_store.specs.Queued.{AreQueued}
use Rattle.vlm_cycle.specs.declared.passes.Purpose.TheVariants.{Search}
use Rattle.vlm_cycle.specs.Finding.{IsFit}
use Rattle.vlm_cycle.specs.Marking.{KeepsRoom}
use Rattle.vlm_cycle.specs.Ranking.{Falls}
use Rattle.vlm_cycle.specs.Waiting.{IsRoomy}
use Rattle.vlm_cycle.proofs.FirstInLine.{CoversLed}
use Rattle.vlm_cycle.proofs.victims.victim.Given as goal

-- the best is that of all requests but for those to which a lock leads that is left
abbrev pub invariant-loop-lock : goal.invariant-loop-lock
invariant-loop-lock l = record {
  queued : AreQueued l.lock-iterator l.store;
  roomy : IsRoomy l.store l.scratch;
  room : KeepsRoom l.initial.scratch l.scratch;
  ranks : l.scratch.ranks ≡ l.initial.scratch.ranks;
  purpose : l.pass.purpose ≡ Search;
  falls : l.pass.falls ≡ true → Falls l.store l.initial.scratch.ranks;
  fit : IsFit l.store l.pass.found;
  covers : CoversLed l.store l.lock-iterator l.pass.found;
}
