-- Locks that stay on their resource, whatever modes they hold and want.
use Rattle.std.specs.Prelude.{◌≡◌, List}
use Rattle.vlm_words.specs.declared.locks.LockState.{LockState}
use Rattle.vlm_words.specs.declared.resources.Queue.{Queue}
use Rattle.vlm_collections.specs.Lists.{IsIn}
use Rattle.vlm_store.specs.Records.{IsSameLock, StoredLock, StoredResource, queued}

-- the lock is on the resource, in any queue, with the same handle, ID, process and parent lock
pub record StandsStill (lock : StoredLock) (r : StoredResource) : Type 0 where
  pub queue : Queue
  pub row : LockState
  pub among : IsIn (record { at = lock.at; row = row }) (queued queue r)
  pub same : IsSameLock lock.row row

-- each lock of the first resource is on the second
abbrev pub LocksStay : StoredResource → StoredResource → Type 0
LocksStay had left = (queue : Queue) (lock : StoredLock) → IsIn lock (queued queue had) → StandsStill lock left

-- each lock of the first resources is on the second resource with the same handle
abbrev pub LocksStayAmong : List StoredResource → List StoredResource → Type 0
LocksStayAmong olds news = (r : StoredResource) (queue : Queue) (lock : StoredLock) → IsIn r olds
    → IsIn lock (queued queue r)
    → (x : StoredResource) × (IsIn x news × (x.at ≡ r.at) × StandsStill lock x)
