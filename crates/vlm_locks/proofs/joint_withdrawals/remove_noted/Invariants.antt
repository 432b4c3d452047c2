use Rattle.vlm_locks.proofs.GoTogether.{AreLeaving}
use Rattle.vlm_locks.proofs.joint_withdrawals.remove_noted.Given as goal

-- the locks but for so many are gone
abbrev pub invariant-loop-left : goal.invariant-loop-left
invariant-loop-left l = AreLeaving l.joint.invalidates l.joint.owner l.joint.pid l.initial.store l.store l.initial.touched l.touched l.left

-- each turn takes one
abbrev pub decreases-loop-left : goal.decreases-loop-left
decreases-loop-left l = l.left
