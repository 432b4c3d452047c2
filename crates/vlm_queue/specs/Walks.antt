-- Walks over all resources, and over the locks of a queue.
use Rattle.std.specs.Prelude.{◌≡◌, ◌==◌, ℕ, List, [], ◌∷◌, map, Option, None, Some, slice_get, if◌then◌else◌}
use Rattle.std.specs.Option.{ForSome, option_map}
use Rattle.vlm_words.specs.declared.locks.LockState.{LockState}
use Rattle.vlm_words.specs.declared.resources.Queue.{Queue}
use Rattle.vlm_words.specs.State.{Resource}
use Rattle.vlm_collections.specs.Lists.{IsIn}
use Rattle.vlm_records.specs.declared.handles.Place.TheVariants.{Queued}
use Rattle.vlm_store.specs.Plain.{plain_resource}
use Rattle.vlm_store.specs.Records.{Records, StoredLock, StoredResource, at_after, first_at, locks_at, resource_at, rows_of_locks}
-- for callers that walk without reading records themselves
pub use Rattle.vlm_store.specs.Records.{HasResource}

-- ---- resources

-- the resource with this handle as the plain machine has it
abbrev pub plain_resource_at : ℕ → Records → Option Resource
plain_resource_at res s = option_map plain_resource (resource_at res s.resources)

-- the resources from this one on, as the plain machine has them
abbrev pub resources_from : Option ℕ → List StoredResource → List Resource
resources_from None rs = []
resources_from (Some res) [] = []
resources_from (Some res) (r ∷ rest) = if r.at == res then map plain_resource (r ∷ rest) else resources_from
    (Some res) rest

-- the resources that a walk still has to visit
abbrev pub resources_left : Option ℕ → Records → List Resource
resources_left next s = resources_from next s.resources

-- the handle of the resource at an index
abbrev pub resource_at_index : ℕ → List StoredResource → Option ℕ
resource_at_index index resources = option_map (λ r. r.at) (slice_get resources index)

-- ---- locks

-- the rows of a queue
abbrev pub rows_queued : ℕ → Queue → Records → List LockState
rows_queued res queue s = rows_of_locks (locks_at (Queued res queue) s)

-- the rows from this lock on
abbrev pub rows_from : Option ℕ → List StoredLock → List LockState
rows_from None locks = []
rows_from (Some at) [] = []
rows_from (Some at) (k ∷ rest) = if k.at == at then rows_of_locks (k ∷ rest) else rows_from (Some at) rest

-- the rows that a walk of a queue still has to visit
abbrev pub rows_to_walk : ℕ → Queue → Option ℕ → Records → List LockState
rows_to_walk res queue next s = rows_from next (locks_at (Queued res queue) s)

-- the walk is at a lock of the queue, or at its end
abbrev pub IsInQueue : ℕ → Queue → Option ℕ → Records → Type 0
IsInQueue res queue next s = ForSome next (λ at. (row : LockState)
    × IsIn (record { at = at; row = row }) (locks_at (Queued res queue) s))

-- the handle of the lock at an index
abbrev pub lock_at_index : ℕ → List StoredLock → Option ℕ
lock_at_index index locks = option_map (λ k. k.at) (slice_get locks index)

-- the walk from this lock on gives these rows, one after another
abbrev pub IsGivenFrom : List StoredLock → Option ℕ → List LockState → Type 0
IsGivenFrom locks first [] = first ≡ None
IsGivenFrom locks first (row ∷ rows) =
    (at : ℕ) × ((first ≡ Some at) × IsIn (record { at = at; row = row }) locks
    × IsGivenFrom locks (at_after at locks) rows)

-- the walk from the head of the queue gives these rows
abbrev pub GivesInTurn : ℕ → Queue → List LockState → Records → Type 0
GivesInTurn res queue rows s = IsGivenFrom (locks_at (Queued res queue) s)
    (first_at (locks_at (Queued res queue) s)) rows
