use Rattle.vlm_locks.specs.GivingUp.{noted_lkids}
use Rattle.vlm_locks.proofs.EndsTogether.{AreEnding}
use Rattle.vlm_locks.proofs.joint_withdrawals.end_noted.Given as goal

-- the requests of the locks before this one have ended
abbrev pub invariant-loop-note : goal.invariant-loop-note
invariant-loop-note l = AreEnding (noted_lkids l.notes) l.invalidates l.initial.store l.store l.note-index
