-- The law that a search makes no request deadlocked.
use Rattle.vlm_words.specs.declared.locks.LockState.{LockState}
use Rattle.vlm_words.specs.State.{State}
use Rattle.vlm_model.specs.Cycles.{IsCaught}

-- each request that waits in a cycle in the new state waited in one in the old state
abbrev pub NoneIsCaughtAnew : State → State → Type 0
NoneIsCaughtAnew old new = (row : LockState) → IsCaught new row → IsCaught old row
