use Rattle.std.proofs.Common.{drop}
use Rattle.vlm_locks.specs.Owing.{IsPaid}
use Rattle.vlm_locks.specs.Touched.{touched_handles}
use Rattle.vlm_locks.proofs.SweptResources.{IsSweeping}
use Rattle.vlm_locks.proofs.sweeps.sweep.Given as goal

-- the resources so far are swept, and what is due is owed
abbrev pub invariant-loop-touch : goal.invariant-loop-touch
invariant-loop-touch l = IsSweeping (touched_handles l.touches) (drop l.touch-index (touched_handles l.touches)) l.initial.store l.store × IsPaid l.store
