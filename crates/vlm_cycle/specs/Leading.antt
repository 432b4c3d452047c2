-- The locks with the first queued request on their resources.
use Rattle.std.specs.Prelude.{◌≡◌, ℕ, List, ◌++◌, Some}
use Rattle.vlm_words.specs.declared.locks.LockState.{LockState}
use Rattle.vlm_words.specs.declared.resources.Queue.TheVariants.{Conversion, Waiting}
use Rattle.vlm_collections.specs.Lists.{IsIn}
use Rattle.vlm_records.specs.declared.handles.Place.TheVariants.{Queued}
use Rattle.vlm_store.specs.Records.{Records, first_at, locks_at}
use Rattle.vlm_queue.specs.Walks.{rows_queued}

-- the rows whose requests are queued on a resource, in their order
abbrev pub rows_queued_on : ℕ → Records → List LockState
rows_queued_on res s = rows_queued res Conversion s ++ rows_queued res Waiting s

-- the lock is the first with a queued request on the resource: the first that converts, or the first that waits if no
-- lock converts
abbrev pub IsFirstOn : Records → ℕ → ℕ → Type 0
IsFirstOn s at res = first_at (locks_at (Queued res Conversion) s ++ locks_at (Queued res Waiting) s) ≡ Some at

-- the row's request is queued on a resource on which one of these locks has the first queued request
abbrev pub IsLed : Records → List ℕ → LockState → Type 0
IsLed s handles row = (at : ℕ) × (res : ℕ) × (IsIn at handles × IsFirstOn s at res × IsIn row (rows_queued_on res s))
