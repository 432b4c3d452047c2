-- The queued locks of all resources, and a walk over them.
use Rattle.std.specs.Prelude.{◌≡◌, ◌==◌, ℕ, true, List, [], ◌∷◌, Option, None, Some, if◌then◌else◌}
use Rattle.std.specs.Option.{ForSome}
use Rattle.slab.specs.Slab.{Slab}
use Rattle.vlm_collections.specs.declared.lists.LinkedList.{LinkedList}
use Rattle.vlm_collections.specs.Lists.{IsIn, IsLinked}
use Rattle.vlm_words.specs.declared.locks.LockState.{LockState}
use Rattle.vlm_records.specs.declared.handles.Place.{Place}
use Rattle.vlm_records.specs.declared.locks.InWaitList.{InWaitList}
use Rattle.vlm_records.specs.declared.locks.Lock.{Lock}
use Rattle.vlm_records.specs.WaitList.{is_queued, wait_list_handles, wait_list_links}
use Rattle.vlm_store.specs.Records.{Records, locks_at}

-- the lock with this handle is in a conversion queue or a waiting queue
abbrev pub IsQueued : ℕ → Records → Type 0
IsQueued at s = (place : Place) × (row : LockState) × ((is_queued place ≡ true)
    × IsIn (record { at = at; row = row }) (locks_at place s))

-- each of these handles is a queued lock
abbrev pub AreQueued : List ℕ → Records → Type 0
AreQueued handles s = (at : ℕ) → IsIn at handles → IsQueued at s

-- the handles from this one on; empty without one
abbrev pub handles_on : Option ℕ → List ℕ → List ℕ
handles_on None handles = []
handles_on (Some at) [] = []
handles_on (Some at) (first ∷ rest) = if first == at then first ∷ rest else handles_on (Some at) rest

-- the list is linked, and the next lock of the walk is in it
pub record IsOnWaitList (locks : Slab Lock) (wait_list : LinkedList InWaitList) (next : Option ℕ) : Type 0 where
  pub linked : IsLinked wait_list_links locks wait_list
  pub listed : ForSome next (λ at. IsIn at (wait_list_handles locks wait_list))
