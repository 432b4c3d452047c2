use Rattle.std.proofs.Common.{length}
use Rattle.std.specs.Option.{ForSome}
use Rattle.vlm_model.specs.Deadlocks.{WaitsOn}
use Rattle.vlm_cycle.specs.Blocking.{IsOn}
use Rattle.vlm_cycle.proofs.BlockerWalks.{Leads, left_at}
use Rattle.vlm_cycle.proofs.next_blockers.next_blocker.Given as goal

-- the locks that are left lead to the one that is looked for
abbrev pub invariant-loop-at : goal.invariant-loop-at
invariant-loop-at l = record {
  on : ForSome l.at (λ lock. IsOn lock l.fn.waiting.res l.fn.store);
  leads : Leads (λ r row. WaitsOn r l.fn.waiting.row row) l.fn.store l.fn.waiting.res l.fn.from l.at;
}

abbrev pub decreases-loop-at : goal.decreases-loop-at
decreases-loop-at l = length (left_at l.fn.store l.fn.waiting.res l.at)
