-- The records after processes have ended.
use Rattle.std.specs.Prelude.{◌≡◌, ◌==◌, ◌≤◌, ◌+◌, ℕ, Bool, true, length, map, None}
use Rattle.vlm_words.specs.declared.locks.LockState.{LockState}
use Rattle.vlm_words.specs.declared.resources.Queue.TheVariants.{Granted}
use Rattle.vlm_words.specs.State.{Resource}
use Rattle.vlm_collections.specs.Lists.{IsIn}
use Rattle.vlm_records.specs.declared.handles.Place.{Place}
use Rattle.vlm_records.specs.declared.handles.Place.TheVariants.{Queued}
use Rattle.vlm_store.specs.Plain.{plain_processes, plain_resources}
use Rattle.vlm_store.specs.Records.{HasNoLocks, IsProcess, Records, StoredLock, Stores, locks_at}
use Rattle.vlm_store.specs.Total.{lock_total}
use Rattle.vlm_model.specs.Rundown.{processes_but}
use Rattle.vlm_locks.specs.Left.{resource_left}
use Rattle.vlm_locks.specs.Owing.{IsPaid}
use Rattle.vlm_locks.specs.Rest.{IsAtRest}
use Rattle.vlm_locks.specs.Touched.{AreStillNoted, AreThere, OnlyTouched, Touches}

-- the resource without the locks of these processes; if one of them held PW or EX, its value block is invalid
abbrev pub resource_after_rundown : (ℕ → Bool) → Resource → Resource
resource_after_rundown is_one = resource_left (λ row. is_one row.pid) true

-- a sublock belongs to its parent's process
abbrev pub SublocksAreOwn : Records → Type 0
SublocksAreOwn s = (at other : ℕ) (row up : LockState) → Stores s at row → Stores s other up → row.parent ≡ up.lkid
    → row.pid ≡ up.pid

-- a granted lock wants nothing
abbrev pub GrantedWantNothing : Records → Type 0
GrantedWantNothing s = (res : ℕ) (lock : StoredLock) → IsIn lock (locks_at (Queued res Granted) s)
    → lock.row.want ≡ None

-- each lock was there before, in the same place and with the same row
abbrev pub WereThere : Records → Records → Type 0
WereThere old new = (place : Place) (lock : StoredLock) → IsIn lock (locks_at place new)
    → IsIn lock (locks_at place old)

-- processes can be ended: sublocks belong to their parents' processes, granted locks want nothing, each process is owed
-- the ASTs due to it, every noted resource exists, and there is room to note the resource of each lock
pub record CanEndProcesses (touched : Touches) (s : Records) : Type 0 where
  pub rest : IsAtRest s
  pub together : SublocksAreOwn s
  pub granted : GrantedWantNothing s
  pub paid : IsPaid s
  pub noted : AreThere touched.noted s
  pub room : length touched.noted + lock_total s ≤ touched.room

-- these processes are gone with their locks, and each resource that changed is noted
pub record AreEnded (is_one : ℕ → Bool) (old new : Records) (before after : Touches) : Type 0 where
  pub resources : plain_resources new ≡ map (resource_after_rundown is_one) (plain_resources old)
  pub processes : plain_processes new ≡ processes_but is_one (plain_processes old)
  pub kept : AreStillNoted before.noted after.noted
  pub only_touched : OnlyTouched after.noted old new
  pub same_room : after.room ≡ before.room

-- the process has no locks any more, and each resource that changed is noted
pub record HasRunDown (owner pid : ℕ) (old new : Records) (before after : Touches) : Type 0 where
  pub resources : plain_resources new ≡ map (resource_after_rundown (λ p. p == pid)) (plain_resources old)
  pub statuses : plain_processes new ≡ plain_processes old
  pub lives : IsProcess owner pid new
  pub gone : HasNoLocks owner new
  pub kept : AreStillNoted before.noted after.noted
  pub only_touched : OnlyTouched after.noted old new
  pub same_room : after.room ≡ before.room
  pub can_end : CanEndProcesses after new
