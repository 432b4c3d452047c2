-- A lock in its queue.
use Rattle.std.specs.Prelude.{◌≡◌, ℕ, Some}
use Rattle.vlm_collections.specs.Lists.{IsIn}
use Rattle.vlm_words.specs.declared.locks.LockState.{LockState}
use Rattle.vlm_store.specs.Records.{IsProcess, IsSound, Records, StoredResource, Stores, queued, resource_at}
use Rattle.vlm_locks.specs.declared.located_locks.LocatedLock.{LocatedLock}

-- the lock exists with this row, in this queue of this resource, this process owns it, and the records are sound
pub record IsLocated (f : LocatedLock) (s : Records) : Type 0 where
  pub resource : StoredResource
  pub found : resource_at f.res s.resources ≡ Some resource
  pub among : IsIn (record { at = f.lock; row = f.row }) (queued f.queue resource)
  pub owner : IsProcess f.owner f.row.pid s
  pub sound : IsSound s

-- the located lock is the process's lock with this ID
pub record IsLocatedLockOf (pid lkid : ℕ) (f : LocatedLock) (s : Records) : Type 0 where
  pub located : IsLocated f s
  pub named : f.row.lkid ≡ lkid
  pub owned : f.row.pid ≡ pid

-- the lock with this handle is the process's lock with this ID
pub record IsLockOf (pid lkid at : ℕ) (s : Records) : Type 0 where
  pub row : LockState
  pub stored : Stores s at row
  pub named : row.lkid ≡ lkid
  pub owned : row.pid ≡ pid
