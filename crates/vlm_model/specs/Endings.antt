-- How accepted requests end.
use Rattle.std.specs.Prelude.{ℕ, Bool, true, false, List, [], ◌∷◌, Option, None, Some}
use Rattle.vlm_words.specs.declared.conditions.Cond.TheVariants.{Normal, Abort, Cancel, Deadlock}
use Rattle.vlm_words.specs.declared.conditions.Cond.{Cond}
use Rattle.vlm_words.specs.declared.locks.Request.{Request}
use Rattle.vlm_words.specs.declared.locks.LockState.{LockState}
use Rattle.vlm_words.specs.declared.modes.Act.{Act}

-- the ways to end: by grant, which may return or write the value block, or by abort, cancel, deadlock or rundown
pub data How : Type 0 where
  by_grant : Act → How
  by_abort : How
  by_cancel : How
  by_deadlock : How
  by_rundown : How

-- an ending: the lock, its process, the request, how it ends, and whether the step that made the request ends it
pub record Ending : Type 0 where
  pub lkid : ℕ
  pub pid : ℕ
  pub request : Request
  pub how : How
  pub at_once : Bool

-- the ending of a wanted request; empty if nothing is wanted
abbrev pub wanted_endings : How → Bool → ℕ → ℕ → Option Request → List Ending
wanted_endings how at_once lkid pid None = []
wanted_endings how at_once lkid pid (Some request) =
    record { lkid = lkid; pid = pid; request = request; how = how; at_once = at_once } ∷ []

-- the ending of the request that a row wants
abbrev pub row_endings : How → Bool → LockState → List Ending
row_endings how at_once row = wanted_endings how at_once row.lkid row.pid row.want

-- the status that an ending writes unless it returns the value block; a rundown writes no status
abbrev pub ending_status : How → Option Cond
ending_status (by_grant act) = Some Normal
ending_status by_abort = Some Abort
ending_status by_cancel = Some Cancel
ending_status by_deadlock = Some Deadlock
ending_status by_rundown = None

-- the process is notified of the ending; it is not of a rundown
abbrev pub is_told : How → Bool
is_told (by_grant act) = true
is_told by_abort = true
is_told by_cancel = true
is_told by_deadlock = true
is_told by_rundown = false
