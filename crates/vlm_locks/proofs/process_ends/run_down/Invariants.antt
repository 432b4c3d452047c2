use Rattle.std.proofs.Common.{ℕ, length}
use Rattle.vlm_store.specs.Records.{IsProcess, own_handles_at}
use Rattle.vlm_locks.proofs.RunsDown.{IsRunningDown}
use Rattle.vlm_locks.proofs.process_ends.run_down.Given as goal

-- the process is run down so far
abbrev pub invariant-loop-lock : goal.invariant-loop-lock
invariant-loop-lock l =
    (pid : ℕ) → IsProcess l.owner pid l.initial.store → IsRunningDown l.owner pid l.initial.store l.store l.initial.touched l.touched

-- each turn takes a lock of the process
abbrev pub decreases-loop-lock : goal.decreases-loop-lock
decreases-loop-lock l = length (own_handles_at l.owner l.store)
