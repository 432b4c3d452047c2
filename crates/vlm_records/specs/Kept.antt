-- What stays while the locks of a resource leave lists, join lists and are counted.
use Rattle.std.specs.Prelude.{◌≡◌, ◌≢◌, ◌+◌, ℕ, None, [], ◌∷◌, ◌++◌}
use Rattle.slab.specs.Slab.{Slab, get}
use Rattle.vlm_collections.specs.Lists.{without}
use Rattle.vlm_words.specs.declared.locks.LockState.{LockState}
use Rattle.vlm_words.specs.declared.modes.Mode.{Mode}
use Rattle.vlm_records.specs.Tallies.{Count, how_many, weight_of}
use Rattle.vlm_records.specs.declared.handles.Place.{Place}
use Rattle.vlm_records.specs.declared.locks.Lock.{Lock}
use Rattle.vlm_records.specs.declared.queues.Queues.{Queues}
use Rattle.vlm_records.specs.declared.resources.Resource.{Resource}
use Rattle.vlm_records.specs.Shown.{IsPlaced, IsTallied, SameBut, but_armed, but_counted, but_in_armed, but_requeued}
use Rattle.vlm_records.specs.Shown.{but_tally, handles_at, is_loose_in, room_in, rows, share_of, tally_in}

-- these parts of locks and resources stay, and the room stays
pub record Keeps (of_lock : Lock → Lock) (of_resource : Resource → Resource) (old new : Queues) : Type 0 where
  pub kin : SameBut of_lock old.locks new.locks
  pub rest : SameBut of_resource old.resources new.resources
  pub locks_room : room_in new.locks ≡ room_in old.locks
  pub resources_room : room_in new.resources ≡ room_in old.resources

-- the handles at each place stay
abbrev pub HandlesStay : Queues → Queues → Type 0
HandlesStay old new = (place : Place) → handles_at new place ≡ handles_at old place

-- no lock becomes loose, and none is loose no more
abbrev pub LooseStay : Queues → Queues → Type 0
LooseStay old new = (at : ℕ) → is_loose_in (get new.locks at) ≡ is_loose_in (get old.locks at)

-- every queue and every row stays, while a lock leaves or joins the lists of armed locks
pub record KeepsPlaces (old new : Queues) : Type 0 where
  pub placed : IsPlaced new None
  pub tallied : IsTallied new None
  pub handles : HandlesStay old new
  pub rows : (other : ℕ) → rows new other ≡ rows old other
  pub records : Keeps but_in_armed but_armed old new

-- only the counts of resources change
pub record WritesCounts (old new : Queues) : Type 0 where
  pub locks : new.locks ≡ old.locks
  pub rest : SameBut but_tally old.resources new.resources
  pub resources_room : room_in new.resources ≡ room_in old.resources

-- a lock in this queue is counted with another row
pub record Recounts (place : Place) (was now : LockState) (old new : Slab Resource) : Type 0 where
  pub change : (count : Count) (mode : Mode) (res : ℕ)
      → how_many count (tally_in (get new res)) mode + share_of (weight_of count mode) place res was
      ≡ how_many count (tally_in (get old res)) mode + share_of (weight_of count mode) place res now

-- only the row or the place of one lock changes
pub record WritesLock (at : ℕ) (old new : Queues) : Type 0 where
  pub others : (other : ℕ) → other ≢ at → get new.locks other ≡ get old.locks other
  pub kin : SameBut but_requeued old.locks new.locks
  pub resources : new.resources ≡ old.resources
  pub locks_room : room_in new.locks ≡ room_in old.locks

-- one lock has another row and keeps its place
pub record Rewrites (at : ℕ) (now : LockState) (old new : Queues) : Type 0 where
  pub placed : IsPlaced new None
  pub tallied : IsTallied new None
  pub handles : HandlesStay old new
  pub row : rows new at ≡ now
  pub rows : (other : ℕ) → other ≢ at → rows new other ≡ rows old other
  pub kept : Keeps but_requeued but_counted old new

-- the lock is the last one of the queue
abbrev pub ComesLast : ℕ → Place → Queues → Queues → Type 0
ComesLast at to old new = handles_at new to ≡ without at (handles_at old to) ++ at ∷ []

-- the lock has left every other queue
abbrev pub LeavesElsewhere : ℕ → Place → Queues → Queues → Type 0
LeavesElsewhere at to old new = (other : Place) → other ≢ to → handles_at new other ≡ without at (handles_at old other)

-- one lock has another row and is at the end of a queue
pub record Requeues (at : ℕ) (now : LockState) (to : Place) (old new : Queues) : Type 0 where
  pub placed : IsPlaced new None
  pub tallied : IsTallied new None
  pub here : ComesLast at to old new
  pub elsewhere : LeavesElsewhere at to old new
  pub row : rows new at ≡ now
  pub rows : (other : ℕ) → other ≢ at → rows new other ≡ rows old other
  pub kept : Keeps but_requeued but_counted old new
