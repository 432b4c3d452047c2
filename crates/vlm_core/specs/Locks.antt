-- What the readers of single locks show.
use Rattle.std.specs.Prelude.{◌≡◌, ◌≢◌, ◌<◌, ℕ, List, ◌++◌, ◌∷◌, Option, None, Some, slice_get}
use Rattle.std.specs.Option.{option_map, option_map_or}
use Rattle.vlm_words.specs.declared.locks.LockState.{LockState}
use Rattle.vlm_words.specs.declared.resources.Queue.{Queue}
use Rattle.vlm_words.specs.Rows.{mode_asked}
use Rattle.vlm_words.specs.State.{Resource, State, process_of}
use Rattle.vlm_collections.specs.Lists.{IsIn}
use Rattle.vlm_store.specs.Plain.{plain_resource}
use Rattle.vlm_store.specs.Records.{Records, StoredResource, queued}
use Rattle.vlm_queue.specs.declared.views.ResourceView.{ResourceView}
use Rattle.vlm_queue.specs.Views.{resource_view, rows_in}
use Rattle.vlm_core.specs.declared.locks.LockView.{LockView}

-- the status block of the last accepted request: of the wanted one, or else of the held one
abbrev pub block_of : LockState → ℕ
block_of row = option_map_or (λ q. q.block) row.want (option_map_or (λ q. q.block) row.held 0)

-- the view of a lock in a queue of the resource with this serial
abbrev pub view_at : ℕ → Queue → LockState → LockView
view_at serial queue row = record {
  lkid = row.lkid;
  pid = row.pid;
  held = mode_asked row.held;
  want = mode_asked row.want;
  queue = queue;
  resource = serial;
  parent = row.parent;
  block = block_of row;
}

-- the view of a lock in a queue of a resource
abbrev pub lock_view : Resource → Queue → LockState → LockView
lock_view r queue row = view_at r.serial queue row

-- the lock exists, in this queue of this resource
pub record HasLockIn (s : State) (r : Resource) (queue : Queue) (row : LockState) : Type 0 where
  pub exists : IsIn r s.resources
  pub queued : IsIn row (rows_in queue r)

-- a lock that passes exists, and this is its view
pub record ShowsLock (s : State) (Passes : LockState → Type 0) (view : LockView) : Type 0 where
  pub resource : Resource
  pub queue : Queue
  pub row : LockState
  pub there : HasLockIn s resource queue row
  pub passes : Passes row
  pub shown : view ≡ lock_view resource queue row

-- no lock passes
abbrev pub LacksLock : State → (LockState → Type 0) → Type 0
LacksLock s Passes = (r : Resource) (queue : Queue) (row : LockState) → HasLockIn s r queue row → ¬ Passes row

-- the row has this ID
abbrev pub IsNamed : ℕ → LockState → Type 0
IsNamed lkid row = row.lkid ≡ lkid

-- the view shows the lock with this ID; or no lock has it
abbrev pub ShowsNamed : State → ℕ → Option LockView → Type 0
ShowsNamed s lkid None = LacksLock s (IsNamed lkid)
ShowsNamed s lkid (Some view) = ShowsLock s (IsNamed lkid) view

-- the lock is on this resource
pub record IsResourceOf (s : State) (lkid : ℕ) (view : ResourceView) : Type 0 where
  pub resource : Resource
  pub queue : Queue
  pub row : LockState
  pub there : HasLockIn s resource queue row
  pub named : IsNamed lkid row
  pub shown : view ≡ resource_view resource

-- the view shows the resource of the lock; or no lock has the ID
abbrev pub ShowsResourceOf : State → ℕ → Option ResourceView → Type 0
ShowsResourceOf s lkid None = LacksLock s (IsNamed lkid)
ShowsResourceOf s lkid (Some view) = IsResourceOf s lkid view

-- the lock is in a queue, and the view shows the lock after it there, if there is one
pub record IsNextInQueue (s : State) (lkid : ℕ) (next : Option LockView) : Type 0 where
  pub resource : Resource
  pub queue : Queue
  pub row : LockState
  pub there : HasLockIn s resource queue row
  pub named : IsNamed lkid row
  pub before : List LockState
  pub rest : List LockState
  pub parts : rows_in queue resource ≡ before ++ row ∷ rest
  pub shown : next ≡ option_map (lock_view resource queue) (slice_get rest 0)

-- the same, or no lock has the ID
abbrev pub ShowsNextInQueue : State → ℕ → Option (Option LockView) → Type 0
ShowsNextInQueue s lkid None = LacksLock s (IsNamed lkid)
ShowsNextInQueue s lkid (Some next) = IsNextInQueue s lkid next

-- the lock passes, and no lock that passes has a lower ID
abbrev pub IsFirst : State → (LockState → Type 0) → LockState → Type 0
IsFirst s Passes row = Passes row × LacksLock s (λ other. Passes other × (other.lkid < row.lkid))

-- the view shows the lock with the lowest ID of those that pass, if there is one
abbrev pub ShowsFirst : State → (LockState → Type 0) → Option LockView → Type 0
ShowsFirst s Passes None = LacksLock s Passes
ShowsFirst s Passes (Some view) = ShowsLock s (IsFirst s Passes) view

-- the view shows the first lock of the living process, if it has one; or no living process has the ID
abbrev pub ShowsFirstOwn : State → ℕ → Option (Option LockView) → Type 0
ShowsFirstOwn s pid None = process_of s.processes pid ≡ None
ShowsFirstOwn s pid (Some first) = ShowsFirst s (λ row. row.pid ≡ pid) first

-- the lock is of the same process as the row, and was made later
abbrev pub IsLaterOwn : LockState → LockState → Type 0
IsLaterOwn row other = (other.pid ≡ row.pid) × (row.lkid < other.lkid)

-- the row is a sublock of the lock with this ID; 0 names no lock
abbrev pub IsSublockOf : ℕ → LockState → Type 0
IsSublockOf lkid row = (lkid ≢ 0) × (row.parent ≡ lkid)

-- the lock is a sublock of the same parent lock as the row, and was made later
abbrev pub IsLaterSublock : LockState → LockState → Type 0
IsLaterSublock row other = IsSublockOf row.parent other × (row.lkid < other.lkid)

-- the lock exists, and the view shows the first lock that follows it, if there is one
pub record IsNextOf (s : State) (Follows : LockState → LockState → Type 0) (lkid : ℕ)
    (next : Option LockView) : Type 0 where
  pub resource : Resource
  pub queue : Queue
  pub row : LockState
  pub there : HasLockIn s resource queue row
  pub named : IsNamed lkid row
  pub first : ShowsFirst s (Follows row) next

-- the same, or no lock has the ID
abbrev pub ShowsNextOf : State → (LockState → LockState → Type 0) → ℕ → Option (Option LockView) → Type 0
ShowsNextOf s Follows lkid None = LacksLock s (IsNamed lkid)
ShowsNextOf s Follows lkid (Some next) = IsNextOf s Follows lkid next

-- the lock of this ID exists, and the view shows its first sublock, if it has one; or it does not exist
abbrev pub ShowsFirstSublock : State → ℕ → Option (Option LockView) → Type 0
ShowsFirstSublock s lkid None = LacksLock s (IsNamed lkid)
ShowsFirstSublock s lkid (Some first) = ShowsFirst s (IsSublockOf lkid) first

-- the view shows the lock with this handle
pub record IsViewOf (s : Records) (at : ℕ) (view : LockView) : Type 0 where
  pub resource : StoredResource
  pub queue : Queue
  pub row : LockState
  pub exists : IsIn resource s.resources
  pub among : IsIn (record { at = at; row = row }) (queued queue resource)
  pub shown : view ≡ lock_view (plain_resource resource) queue row
