-- What the calls that add, move and remove records change.
use Rattle.std.specs.Prelude.{◌≡◌, ◌≢◌, ◌≤◌, ◌+◌, ℕ, true, None, Some, [], ◌∷◌, ◌++◌}
use Rattle.std.specs.Option.{option_map}
use Rattle.slab.specs.Slab.{Slab, get}
use Rattle.vlm_collections.specs.declared.link.TheConstants.{LAST_HANDLE}
use Rattle.vlm_collections.specs.declared.lists.LinkedList.{LinkedList}
use Rattle.vlm_collections.specs.Lists.{IsLinked, Relinks, handles_of, without}
use Rattle.vlm_words.specs.declared.locks.LockState.{LockState}
use Rattle.vlm_records.specs.declared.handles.Place.{Place}
use Rattle.vlm_records.specs.declared.locks.Lock.{Lock}
use Rattle.vlm_records.specs.declared.processes.Process.{Process}
use Rattle.vlm_records.specs.declared.queues.Queues.{Queues}
use Rattle.vlm_records.specs.declared.resources.InOrder.{InOrder}
use Rattle.vlm_records.specs.Armed.{IsLaidOut}
use Rattle.vlm_records.specs.Kept.{ComesLast, HandlesStay, Keeps, LeavesElsewhere, LooseStay}
use Rattle.vlm_records.specs.Kin.{IsBelow, IsOwned, below_handles, but_below, but_order, but_own, own_handles, owner_in}
use Rattle.vlm_records.specs.Kin.{parent_in, process_links, with_own_links}
use Rattle.vlm_records.specs.Shown.{Face, SameBut, but_queued, but_queues, face_of, handles_at, is_loose_in, order_links, room_in, rows}
use Rattle.vlm_records.specs.WaitList.{wait_list_links}

-- this part of every record except one stays
abbrev pub OthersKeep : {T X : Type 0} → (T → X) → ℕ → Slab T → Slab T → Type 0
OthersKeep part at old new = (other : ℕ) → other ≢ at → option_map part (get new other)
    ≡ option_map part (get old other)

-- the rows of all locks except one stay
abbrev pub OtherRowsStay : ℕ → Queues → Queues → Type 0
OtherRowsStay at old new = (other : ℕ) → other ≢ at → rows new other ≡ rows old other

-- a lock has another row, and is at the end of a queue
pub record Moves (at : ℕ) (now : LockState) (to : Place) (old new : Queues) : Type 0 where
  pub laid_out : IsLaidOut new
  pub here : ComesLast at to old new
  pub elsewhere : LeavesElsewhere at to old new
  pub row : rows new at ≡ now
  pub rows : OtherRowsStay at old new
  pub kept : Keeps but_queued but_queues old new
  pub loose : LooseStay old new
  pub wait_list : SameBut wait_list_links old.locks new.locks

-- a new lock with this row, process and parent lock is at the end of a queue
pub record Adds (at : ℕ) (now : LockState) (made : Lock) (to : Place) (old new : Queues) : Type 0 where
  pub within : at ≤ LAST_HANDLE
  pub fresh : get old.locks at ≡ None
  pub laid_out : IsLaidOut new
  pub here : handles_at new to ≡ handles_at old to ++ at ∷ []
  pub elsewhere : (other : Place) → other ≢ to → handles_at new other ≡ handles_at old other
  pub row : rows new at ≡ now
  pub rows : OtherRowsStay at old new
  pub lock : option_map but_queued (get new.locks at) ≡ Some made
  pub kin : OthersKeep but_queued at old.locks new.locks
  pub loose : LooseStay old new
  pub wait_list : OthersKeep wait_list_links at old.locks new.locks
  pub rest : SameBut but_queues old.resources new.resources
  pub taken : (room_in new.locks).0 + 1 ≡ (room_in old.locks).0
  pub resources_room : room_in new.resources ≡ room_in old.resources

-- a lock is gone with its record
pub record Removes (at : ℕ) (old new : Queues) : Type 0 where
  pub laid_out : IsLaidOut new
  pub handles : (place : Place) → handles_at new place ≡ without at (handles_at old place)
  pub gone : get new.locks at ≡ None
  pub rows : OtherRowsStay at old new
  pub kin : OthersKeep but_queued at old.locks new.locks
  pub loose : LooseStay old new
  pub wait_list : OthersKeep wait_list_links at old.locks new.locks
  pub rest : SameBut but_queues old.resources new.resources
  pub given_back : room_in new.locks ≡ ((room_in old.locks).0 + 1, at)
  pub resources_room : room_in new.resources ≡ room_in old.resources

-- a lock is loose, and keeps its row
pub record Unlinks (at : ℕ) (old new : Queues) : Type 0 where
  pub laid_out : IsLaidOut new
  pub handles : (place : Place) → handles_at new place ≡ without at (handles_at old place)
  pub rows : (other : ℕ) → rows new other ≡ rows old other
  pub here : is_loose_in (get new.locks at) ≡ true
  pub others : (other : ℕ) → other ≢ at → is_loose_in (get new.locks other) ≡ is_loose_in (get old.locks other)
  pub kept : Keeps but_queued but_queues old new
  pub wait_list : SameBut wait_list_links old.locks new.locks

-- a loose lock is at the end of a queue, and keeps its row
pub record PushesBack (at : ℕ) (to : Place) (old new : Queues) : Type 0 where
  pub laid_out : IsLaidOut new
  pub here : handles_at new to ≡ handles_at old to ++ at ∷ []
  pub elsewhere : (other : Place) → other ≢ to → handles_at new other ≡ handles_at old other
  pub rows : (other : ℕ) → rows new other ≡ rows old other
  pub others : (other : ℕ) → other ≢ at → is_loose_in (get new.locks other) ≡ is_loose_in (get old.locks other)
  pub kept : Keeps but_queued but_queues old new
  pub wait_list : SameBut wait_list_links old.locks new.locks

-- a new resource with this face is the last one in the order of making
pub record AddsResource (at : ℕ) (made : Face) (listed relisted : LinkedList InOrder) (old new : Queues) : Type 0 where
  pub next : at ≡ old.resources.vacant_key
  pub within : at ≤ LAST_HANDLE
  pub fresh : get old.resources at ≡ None
  pub laid_out : IsLaidOut new
  pub handles : HandlesStay old new
  pub locks : new.locks ≡ old.locks
  pub linked : IsLinked order_links new.resources relisted
  pub order : handles_of order_links new.resources relisted ≡ handles_of order_links old.resources listed ++ at ∷ []
  pub face : option_map face_of (get new.resources at) ≡ Some made
  pub faces : OthersKeep face_of at old.resources new.resources
  pub taken : (room_in new.resources).0 + 1 ≡ (room_in old.resources).0

-- a resource without locks is gone
pub record RemovesResource (at : ℕ) (listed relisted : LinkedList InOrder) (old new : Queues) : Type 0 where
  pub laid_out : IsLaidOut new
  pub handles : HandlesStay old new
  pub locks : new.locks ≡ old.locks
  pub linked : IsLinked order_links new.resources relisted
  pub order : handles_of order_links new.resources relisted ≡ without at (handles_of order_links old.resources listed)
  pub gone : get new.resources at ≡ None
  pub faces : OthersKeep face_of at old.resources new.resources
  pub given_back : room_in new.resources ≡ ((room_in old.resources).0 + 1, at)

-- a new process is the last one in the order of making
pub record AddsProcess (at : ℕ) (made : Process) (listed relisted : LinkedList InOrder)
    (old new : Slab Process) : Type 0 where
  pub next : at ≡ old.vacant_key
  pub within : at ≤ LAST_HANDLE
  pub fresh : get old at ≡ None
  pub linked : IsLinked process_links new relisted
  pub order : handles_of process_links new relisted ≡ handles_of process_links old listed ++ at ∷ []
  pub here : option_map but_order (get new at) ≡ Some (but_order made)
  pub others : OthersKeep but_order at old new
  pub taken : (room_in new).0 + 1 ≡ (room_in old).0

-- a lock is the last one of its process
pub record JoinsProcess (at : ℕ) (was : Slab Process) (old : Slab Lock) (now : Slab Process)
    (new : Slab Lock) : Type 0 where
  pub owned : IsOwned now new None
  pub here : (owner : ℕ) → owner_in (get old at) ≡ Some owner
      → own_handles now new owner ≡ own_handles was old owner ++ at ∷ []
  pub elsewhere : (other : ℕ) → owner_in (get old at) ≢ Some other
      → own_handles now new other ≡ own_handles was old other
  pub relinks : Relinks with_own_links old new
  pub rest : SameBut but_own was now
  pub locks_room : room_in new ≡ room_in old
  pub processes_room : room_in now ≡ room_in was

-- a lock is the last sublock of its parent lock, if it has one
pub record JoinsParent (at : ℕ) (old new : Slab Lock) : Type 0 where
  pub below : IsBelow new None
  pub here : (parent : ℕ) → parent_in (get old at) ≡ Some parent
      → below_handles new parent ≡ below_handles old parent ++ at ∷ []
  pub elsewhere : (other : ℕ) → parent_in (get old at) ≢ Some other
      → below_handles new other ≡ below_handles old other
  pub rest : SameBut but_below old new
  pub locks_room : room_in new ≡ room_in old
