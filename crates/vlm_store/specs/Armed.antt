-- The lists of armed locks of a resource, in the order of the granted queue.
use Rattle.std.specs.Prelude.{ℕ, List, filter}
use Rattle.vlm_collections.specs.Lists.{IsIn}
use Rattle.vlm_words.specs.declared.locks.LockState.{LockState}
use Rattle.vlm_words.specs.declared.resources.Queue.TheVariants.{Granted}
use Rattle.vlm_records.specs.declared.handles.Armed.{Armed}
use Rattle.vlm_records.specs.declared.handles.Place.TheVariants.{Queued}
use Rattle.vlm_records.specs.Armed.{is_listed}
use Rattle.vlm_store.specs.Records.{Records, StoredLock, locks_at}

-- the locks in this list of armed locks, in their order
abbrev pub armed_among : Armed → List StoredLock → List StoredLock
armed_among which locks = filter (λ k. is_listed which k.row) locks

-- a list of armed locks of the resource, in the order of the granted queue
abbrev pub armed_at : Armed → ℕ → Records → List StoredLock
armed_at which res s = armed_among which (locks_at (Queued res Granted) s)

-- the lock with this handle is in the list
abbrev pub IsArmedAt : Armed → ℕ → ℕ → Records → Type 0
IsArmedAt which res at s = (row : LockState) × IsIn (record { at = at; row = row }) (armed_at which res s)
