-- The locks for which a queued request waits, and those whose requests wait for a lock, as the readers show them.
use Rattle.std.specs.Prelude.{◌≡◌, ℕ, List, All, ◌++◌, ◌∷◌, Option, None, Some}
use Rattle.vlm_words.specs.declared.locks.LockState.{LockState}
use Rattle.vlm_words.specs.declared.resources.Queue.{Queue}
use Rattle.vlm_words.specs.State.{Resource, State}
use Rattle.vlm_model.specs.Deadlocks.{WaitsOn, queue_of}
use Rattle.vlm_collections.specs.Lists.{IsIn}
use Rattle.vlm_store.specs.Plain.{plain_resource}
use Rattle.vlm_store.specs.Records.{Records, StoredLock, StoredResource, resource_at, rows_of_locks}
use Rattle.vlm_locks.specs.declared.located_locks.LocatedLock.{LocatedLock}
use Rattle.vlm_cycle.specs.Blocking.{all_locks}
use Rattle.vlm_queue.specs.Views.{rows_in}
use Rattle.vlm_core.specs.declared.locks.LockView.{LockView}
use Rattle.vlm_core.specs.declared.blockers.Side.{Side}
use Rattle.vlm_core.specs.declared.blockers.Side.TheVariants.{Blocked, Blockers}
use Rattle.vlm_core.specs.Locks.{HasLockIn, IsNamed, LacksLock, lock_view}

-- all locks of a resource in the order of its queues: granted, converting, waiting
abbrev pub locks_in_order : Resource → List LockState
locks_in_order r = r.granted ++ queue_of r

-- how another lock of a resource stands to a lock: the request of the one waits for the other
abbrev pub Standing : Type 1
Standing = Resource → LockState → LockState → Type 0

-- the lock keeps the request of the other one waiting
abbrev pub IsAwaitedBy : Standing
IsAwaitedBy r row other = WaitsOn r other row

-- the standing of the locks on each side of a lock
abbrev pub standing_of : Side → Standing
standing_of Blockers = WaitsOn
standing_of Blocked = IsAwaitedBy

-- none of these locks passes
abbrev pub NonePasses : (LockState → Type 0) → List LockState → Type 0
NonePasses P locks = All (λ lock. ¬ P lock) locks

-- the view shows the first of these locks that passes
pub record ShowsFirst (r : Resource) (P : LockState → Type 0) (locks : List LockState) (view : LockView) : Type 0 where
  pub passed : List LockState
  pub lock : LockState
  pub rest : List LockState
  pub parts : locks ≡ passed ++ lock ∷ rest
  pub passes : P lock
  pub first : NonePasses P passed
  pub queue : Queue
  pub queued : IsIn lock (rows_in queue r)
  pub shown : view ≡ lock_view r queue lock

-- the same, or none passes and nothing is shown
abbrev pub FirstShown : Resource → (LockState → Type 0) → List LockState → Option LockView → Type 0
FirstShown r P locks None = NonePasses P locks
FirstShown r P locks (Some view) = ShowsFirst r P locks view

-- the same for the locks of a stored resource: those after the lock with this handle, or all of them if none is named
abbrev pub FirstStoredFrom : StoredResource → (LockState → Type 0) → Option ℕ → Option LockView → Type 0
FirstStoredFrom r P None view = FirstShown (plain_resource r) P (locks_in_order (plain_resource r)) view
FirstStoredFrom r P (Some at) view =
    (before rest : List StoredLock) (last : LockState) → all_locks r ≡ before ++ record { at = at; row = last } ∷ rest
    → FirstShown (plain_resource r) P (rows_of_locks rest) view

-- the same for the locks that stand so to a located lock
abbrev pub IsShownFrom : Standing → Records → LocatedLock → Option ℕ → Option LockView → Type 0
IsShownFrom R s f from view = (r : StoredResource) → resource_at f.res s.resources ≡ Some r
    → FirstStoredFrom r (R (plain_resource r) f.row) from view

-- the lock of this ID exists, and the first lock of its resource that stands so to it is shown
pub record IsFirstShown (R : Standing) (s : State) (lkid : ℕ) (view : Option LockView) : Type 0 where
  pub resource : Resource
  pub queue : Queue
  pub row : LockState
  pub there : HasLockIn s resource queue row
  pub named : IsNamed lkid row
  pub first : FirstShown resource (R resource row) (locks_in_order resource) view

-- the same, or no lock has the ID
abbrev pub ShowsFirstOf : Standing → State → ℕ → Option (Option LockView) → Type 0
ShowsFirstOf R s lkid None = LacksLock s (IsNamed lkid)
ShowsFirstOf R s lkid (Some view) = IsFirstShown R s lkid view

-- both locks exist on one resource, and the first lock after the second one that stands so to the first is shown
pub record IsNextShown (R : Standing) (s : State) (lkid after : ℕ) (view : Option LockView) : Type 0 where
  pub resource : Resource
  pub queue : Queue
  pub row : LockState
  pub there : HasLockIn s resource queue row
  pub named : IsNamed lkid row
  pub before : List LockState
  pub last : LockState
  pub rest : List LockState
  pub parts : locks_in_order resource ≡ before ++ last ∷ rest
  pub last_named : IsNamed after last
  pub next : FirstShown resource (R resource row) rest view

-- no resource has locks of both IDs
abbrev pub AreNotTogether : State → ℕ → ℕ → Type 0
AreNotTogether s lkid after =
    (r : Resource) (queue other : Queue) (row last : LockState)
    → HasLockIn s r queue row → HasLockIn s r other last → IsNamed lkid row → ¬ IsNamed after last

-- the same, or no resource has both locks
abbrev pub ShowsNextOf : Standing → State → ℕ → ℕ → Option (Option LockView) → Type 0
ShowsNextOf R s lkid after None = AreNotTogether s lkid after
ShowsNextOf R s lkid after (Some view) = IsNextShown R s lkid after view

-- the first, and the next, lock for which the request of a lock waits
abbrev pub ShowsFirstBlocker : State → ℕ → Option (Option LockView) → Type 0
ShowsFirstBlocker s lkid view = ShowsFirstOf WaitsOn s lkid view

abbrev pub ShowsNextBlocker : State → ℕ → ℕ → Option (Option LockView) → Type 0
ShowsNextBlocker s lkid after view = ShowsNextOf WaitsOn s lkid after view

-- the first, and the next, lock whose request waits for a lock
abbrev pub ShowsFirstBlocked : State → ℕ → Option (Option LockView) → Type 0
ShowsFirstBlocked s lkid view = ShowsFirstOf IsAwaitedBy s lkid view

abbrev pub ShowsNextBlocked : State → ℕ → ℕ → Option (Option LockView) → Type 0
ShowsNextBlocked s lkid after view = ShowsNextOf IsAwaitedBy s lkid after view
