-- The parent lock of a new request, in the records.
use Rattle.std.specs.Prelude.{◌≡◌, ◌≢◌, ◌<◌, ℕ, Option, None, Some}
use Rattle.vlm_store.specs.Records.{Records}
use Rattle.vlm_locks.specs.declared.located_locks.LocatedLock.{LocatedLock}
use Rattle.vlm_locks.specs.Standing.{IsLocatedLockOf}
use Rattle.vlm_machine.specs.declared.parents.Parent.{Parent}

-- the lock is the process's lock with this ID; its resource is this one, not on the lowest level
pub record IsParentLock (pid lkid : ℕ) (parent : Parent) (s : Records) : Type 0 where
  pub lock : LocatedLock
  pub located : IsLocatedLockOf pid lkid lock s
  pub handle : lock.lock ≡ parent.lock
  pub resource : lock.res ≡ parent.res
  pub named : lkid ≢ 0
  pub above : located.located.resource.level < 15

-- this is the parent lock with this ID; without a parent lock the ID is 0
abbrev pub IsParent : ℕ → ℕ → Option Parent → Records → Type 0
IsParent pid lkid None s = lkid ≡ 0
IsParent pid lkid (Some parent) s = IsParentLock pid lkid parent s
