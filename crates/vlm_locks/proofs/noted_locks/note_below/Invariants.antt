use Rattle.std.proofs.Common.{◌-◌, ℕ}
use Rattle.vlm_store.specs.Total.{lock_total}
use Rattle.vlm_locks.specs.declared.joint_withdrawals.Scope.TheVariants.{Below}
use Rattle.vlm_locks.specs.GivingUp.{IsOwnScope}
use Rattle.vlm_locks.proofs.Gathered.{AreLevels}
use Rattle.vlm_locks.proofs.noted_locks.note_below.Given as goal

-- the sublocks of the top and of the noted locks before this spot are noted
abbrev pub invariant-loop-passed : goal.invariant-loop-passed
invariant-loop-passed l =
    (pid : ℕ) × (own : IsOwnScope (Below l.top) pid l.fn.store) × AreLevels l.fn.store pid l.top own.1 l.fn.touched l.touched l.passed

-- each turn passes a lock
abbrev pub decreases-loop-passed : goal.decreases-loop-passed
decreases-loop-passed l = lock_total l.fn.store - l.passed
