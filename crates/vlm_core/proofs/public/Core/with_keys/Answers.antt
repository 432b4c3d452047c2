use Rattle.std.proofs.Common.{sym, subst}
use Rattle.vlm_core.specs.Core.{IsReachable}
use Rattle.vlm_core.proofs.ReachableStates.{start_reachable}
use Rattle.vlm_machine.proofs.RoomToNote.{none_at_start}
use Rattle.vlm_machine.proofs.RoomToMark.{none_lives_at_start}
use Rattle.vlm_core.proofs.public.Core.with_keys.Goals as goal

-- the start is reached by no step, and no lock is there
pub invariant_of-result : goal.invariant_of-result
invariant_of-result c = record {
  reachable = subst IsReachable (sym c.with_keys.ensures.start) start_reachable;
  notes = none_at_start c.with_keys.result c.new.result c.with_keys.ensures.start c.new.ensures;
  marks = none_lives_at_start c.with_keys.result c.new-2.result c.with_keys.ensures.start;
}
