use Rattle.std.proofs.Common.{length}
use Rattle.vlm_store.specs.Records.{IsSound}
use Rattle.vlm_locks.specs.Owing.{IsPaid}
use Rattle.vlm_locks.proofs.Warned.{IsAtArmed, left_to_warn}
use Rattle.vlm_locks.proofs.warnings.warn_armed.Given as goal

-- the first locks are warned, the next to look at is armed, what is due is owed, and the records are sound
abbrev pub invariant-loop-at : goal.invariant-loop-at
invariant-loop-at l = IsAtArmed l.which l.res l.initial.store l.store l.at × IsPaid l.store × IsSound l.store

abbrev pub decreases-loop-at : goal.decreases-loop-at
decreases-loop-at l = length (left_to_warn l.res l.at l.store)
