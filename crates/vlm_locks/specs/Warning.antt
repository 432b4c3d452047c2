-- The warnings of a resource's granted locks.
use Rattle.std.specs.Prelude.{◌≡◌, ℕ, Bool, false, Some, if◌then◌else◌}
use Rattle.vlm_words.specs.declared.locks.LockState.{LockState}
use Rattle.vlm_model.specs.Asts.{is_to_warn, processes_after_asts, resource_after_warning, row_after_warning, row_warnings, warnings}
use Rattle.vlm_records.specs.declared.handles.Armed.{Armed}
use Rattle.vlm_records.specs.Armed.{is_listed}
use Rattle.vlm_store.specs.Plain.{plain_processes, plain_resource}
use Rattle.vlm_store.specs.Records.{Records, SameButNotices, StoredResource, disarming, resource_at, rows_of_locks, with_lists}
use Rattle.vlm_locks.specs.Owing.{OwedMoves}
use Rattle.vlm_locks.specs.Rest.{IsReplaced}
use Rattle.vlm_locks.specs.Staying.{LocksStay}

-- the row of a lock that is no longer armed
abbrev pub disarmed_row : LockState → LockState
disarmed_row row = record row { armed = false }

-- a granted lock with this row is to be warned on the resource
abbrev pub is_warned_on : StoredResource → LockState → Bool
is_warned_on r row = is_to_warn (rows_of_locks r.converting) (rows_of_locks r.waiting) row

-- every lock of the resource that is to be warned is in this list of armed locks
abbrev pub SparesOthers : Armed → ℕ → Records → Type 0
SparesOthers which res s = (r : StoredResource) (row : LockState) → resource_at res s.resources ≡ Some r
    → is_listed which row ≡ false → is_warned_on r row ≡ false

-- the records after the lock is disarmed, if it is warned
abbrev pub disarmed_if : Bool → ℕ → Records → Records
disarmed_if warned lock s = if warned then with_lists (disarming lock) s else s

-- a granted lock of the resource is warned, if it is to be
pub record IsLockWarned (r : StoredResource) (lock : ℕ) (row : LockState) (old new : Records) : Type 0 where
  pub queued : plain_processes new
      ≡ processes_after_asts (row_warnings (rows_of_locks r.converting) (rows_of_locks r.waiting) row)
      (plain_processes old)
  pub only : SameButNotices (disarmed_if (is_warned_on r row) lock old) new
  pub owed : OwedMoves row (row_after_warning (rows_of_locks r.converting) (rows_of_locks r.waiting) row) old new

-- the granted locks of this resource, which has this handle, are warned; all else stays
pub record IsWarned (res : ℕ) (had : StoredResource) (old new : Records) : Type 0 where
  pub left : StoredResource
  pub replaced : IsReplaced res had left old new
  pub stay : LocksStay had left
  pub none_join : LocksStay left had
  pub resource : plain_resource left ≡ resource_after_warning (plain_resource had)
  pub statuses : plain_processes new ≡ processes_after_asts (warnings (plain_resource had)) (plain_processes old)
