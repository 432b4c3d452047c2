-- The records between two steps, and what a step on one resource leaves alone.
use Rattle.std.specs.Prelude.{◌≡◌, ℕ, [], map, Some}
use Rattle.vlm_words.specs.Resources.{IsKeyed}
use Rattle.vlm_words.specs.ValueBlocks.{new_value_block}
use Rattle.vlm_collections.specs.Lists.{IsIn}
use Rattle.vlm_records.specs.declared.handles.Place.{Place}
use Rattle.vlm_store.specs.Records.{HasResource, IsSound, Records, StoredProcess, StoredResource, but_notices, locks_at}
use Rattle.vlm_store.specs.Records.{on_resource, resource_at, without_lock, without_resource}
use Rattle.vlm_locks.specs.Rising.{HasRisingLocks}

-- between two steps the records are sound, and each resource is in the domain of its key; the locks of a process, and
-- each lock with its sublocks, are in the order of IDs
pub record IsAtRest (s : Records) : Type 0 where
  pub keyed : (r : StoredResource) → IsIn r s.resources → IsKeyed r.domain r.key
  pub rising : (p : StoredProcess) → IsIn p s.processes → HasRisingLocks s p
  pub sound : IsSound s

-- all resources except this one are unchanged, with their handles, their locks and their order
abbrev pub OthersStay : ℕ → Records → Records → Type 0
OthersStay res old new = without_resource res new.resources ≡ without_resource res old.resources

-- all other locks are unchanged: they have the same places, order, handles and rows
abbrev pub OtherLocksStay : ℕ → Records → Records → Type 0
OtherLocksStay lock old new = (place : Place) → without_lock lock (locks_at place new)
    ≡ without_lock lock (locks_at place old)

-- each process keeps its own locks, and each of these keeps its sublocks
abbrev pub OwnLocksStay : Records → Records → Type 0
OwnLocksStay old new = map but_notices new.processes ≡ map but_notices old.processes

-- a change of one lock on its resource leaves the others alone: every other resource and lock is unchanged, the
-- resource still exists, and the records are at rest
pub record LeavesOthers (res lock : ℕ) (old new : Records) : Type 0 where
  pub others : OthersStay res old new
  pub locks : OtherLocksStay lock old new
  pub there : HasResource res new
  pub rest : IsAtRest new

-- a resource without its queues and its value block
abbrev pub but_service : StoredResource → StoredResource
but_service r = record r {
  value_block = new_value_block;
  granted = [];
  converting = [];
  waiting = [];
}

-- the resource with this handle changed from the first to the second: in its value block and its queues; elsewhere only
-- the notices of processes may change
pub record IsReplaced (res : ℕ) (had left : StoredResource) (old new : Records) : Type 0 where
  pub was : resource_at res old.resources ≡ Some had
  pub same : but_service left ≡ but_service had
  pub resources : new.resources ≡ on_resource res (λ r. left) old.resources
  pub processes : OwnLocksStay old new
