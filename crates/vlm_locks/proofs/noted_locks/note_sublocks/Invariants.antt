use Rattle.std.proofs.Common.{length}
use Rattle.vlm_store.specs.Records.{sublocks_at}
use Rattle.vlm_locks.proofs.ChosenLocks.{on_from}
use Rattle.vlm_locks.proofs.Noting.{AreNoted}
use Rattle.vlm_locks.proofs.noted_locks.note_sublocks.Given as goal

-- the sublocks before this one are noted
abbrev pub invariant-loop-next : goal.invariant-loop-next
invariant-loop-next l = AreNoted l.fn.store (sublocks_at l.fn.lock l.fn.store) l.initial.touched l.touched l.next

-- each turn notes one
abbrev pub decreases-loop-next : goal.decreases-loop-next
decreases-loop-next l = length (on_from l.next (sublocks_at l.fn.lock l.fn.store))
