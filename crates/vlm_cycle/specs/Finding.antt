-- The most recent deadlocked request among the rows that were looked at.
use Rattle.std.specs.Prelude.{◌≡◌, ◌<◌, ◌≤◌, ⊤, List, Option, None, Some}
use Rattle.std.specs.Option.{ForSome, option_map}
use Rattle.vlm_words.specs.declared.locks.LockState.{LockState}
use Rattle.vlm_model.specs.Deadlocks.{IsDeadlocked, IsVictim, wanted_number}
use Rattle.vlm_words.specs.State.{State}
use Rattle.vlm_collections.specs.Lists.{IsIn}
use Rattle.vlm_store.specs.Plain.{plain_resources}
use Rattle.vlm_store.specs.Records.{Records}
use Rattle.vlm_locks.specs.declared.located_locks.LocatedLock.{LocatedLock}
use Rattle.vlm_locks.specs.Standing.{IsLocated}
use Rattle.vlm_cycle.specs.Waiting.{searched}

-- the row's request is not deadlocked, or is not more recent than the best one
abbrev pub IsCovered : Records → Option LocatedLock → LockState → Type 0
IsCovered s None row = IsDeadlocked (searched s) row → ⊥
IsCovered s (Some best) row = IsDeadlocked (searched s) row → wanted_number row ≤ wanted_number best.row

-- the row's request is more recent than the best one, if there is a best one
abbrev pub IsLater : LockState → Option LocatedLock → Type 0
IsLater row None = ⊤
IsLater row (Some best) = wanted_number best.row < wanted_number row

-- there is a best one, and the request of the row is not more recent
abbrev pub IsNotLater : LockState → Option LocatedLock → Type 0
IsNotLater row None = ⊥
IsNotLater row (Some best) = wanted_number row ≤ wanted_number best.row

-- the best lock, if there is one, is where it says, and its request is deadlocked
abbrev pub IsFit : Records → Option LocatedLock → Type 0
IsFit s best = ForSome best (λ f. IsLocated f s × IsDeadlocked (searched s) f.row)

-- the lock, if there is one, is where it says
abbrev pub IsLocatedIfAny : Records → Option LocatedLock → Type 0
IsLocatedIfAny s found = ForSome found (λ f. IsLocated f s)

-- the new best lock covers all rows that the old one did, and these rows too
pub record Improves (s : Records) (rows : List LockState) (old new : Option LocatedLock) : Type 0 where
  pub fit : IsFit s old → IsFit s new
  pub kept : (row : LockState) → IsCovered s old row → IsCovered s new row
  pub covered : (row : LockState) → IsIn row rows → IsCovered s new row

-- the row of a located lock, if there is one
abbrev pub row_located : Option LocatedLock → Option LockState
row_located found = option_map (λ f. f.row) found

-- it is the victim of the plain machine with these resources
abbrev pub IsVictimOf : Records → Option LocatedLock → Type 0
IsVictimOf s found = (state : State) → state.resources ≡ plain_resources s → IsVictim state (row_located found)
