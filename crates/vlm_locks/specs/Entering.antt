-- The entry of a new lock into the queues of a resource.
use Rattle.std.specs.Prelude.{◌≡◌, ◌+◌, ℕ, Bool, true, false, List, [], find, map, unwrap_or, IfSome, None, Some, if◌then◌else◌}
use Rattle.vlm_store.specs.Index.{hash_key}
use Rattle.vlm_words.specs.declared.locks.LockState.{LockState}
use Rattle.vlm_words.specs.declared.resources.Queue.{Queue}
use Rattle.vlm_words.specs.declared.resources.Queue.TheVariants.{Granted, Waiting}
use Rattle.vlm_words.specs.Dues.{due_to, routines_of}
use Rattle.vlm_model.specs.Effects.{blocks_after, blocks_with}
use Rattle.vlm_model.specs.Enqueue.{resources_after_entry}
use Rattle.vlm_model.specs.Grants.{grant_endings}
use Rattle.vlm_words.specs.Resources.{IsKeyed, is_at, new_resource}
use Rattle.vlm_words.specs.State.{Process, Resource}
use Rattle.vlm_model.specs.StatusBlocks.{processes_after_acceptance}
use Rattle.vlm_words.specs.declared.resources.ValueBlock.{ValueBlock}
use Rattle.vlm_store.specs.Plain.{plain_processes, plain_resources}
use Rattle.vlm_store.specs.Records.{DueChanges, DuesStay, HasResource, HasRoomForLock, HasRoomForResource, IsNoLess}
use Rattle.vlm_store.specs.Records.{IsParentOf, IsProcess, IsSameLock, IsStored, ProcessesStay, Records, Stores}
use Rattle.vlm_store.specs.Records.{but_notices, on_stored, owed_more, process_with_lock, resource_at}
use Rattle.vlm_locks.specs.declared.new_locks.NewLock.{NewLock}
use Rattle.vlm_locks.specs.Owing.{IsPaid, due_for}
use Rattle.vlm_locks.specs.Rest.{IsAtRest, OtherLocksStay, OthersStay}
use Rattle.vlm_locks.specs.Rising.{IsAboveEachLock}

-- the row of the new lock: it wants the requested mode and holds none
abbrev pub new_row : NewLock → LockState
new_row e = record {
  lkid = e.lkid;
  pid = e.pid;
  parent = e.parent_lkid;
  held = None;
  want = Some e.asked;
  armed = false;
}

-- the resource under the lock's key, or a new one if there is no such resource
abbrev pub resource_for : NewLock → List Resource → Resource
resource_for e resources = unwrap_or (find (is_at e.site.key) resources) (new_resource e.serial e.site)

-- the queue that a new lock enters: the granted queue if it is granted at once, else the waiting queue
abbrev pub entered_queue : Bool → Queue
entered_queue at_once = if at_once then Granted else Waiting

-- between two steps the new lock may enter: its ID is higher than all others, its process and its parent
-- lock exist, its resource is in the domain of its key, and the hash of the key is the index's
pub record MayEnter (e : NewLock) (s : Records) : Type 0 where
  pub rest : IsAtRest s
  pub rising : IsAboveEachLock e.lkid s
  pub owner : IsProcess e.owner e.pid s
  pub parent : IsParentOf e.parent (new_row e) s
  pub keyed : IsKeyed e.site.domain e.site.key
  pub hash : e.hash ≡ hash_key s.keys e.site.key

-- there is room for the lock and for its resource if it is new, and the request names no routine
pub record HasRoomToEnter (e : NewLock) (s : Records) : Type 0 where
  pub lock : HasRoomForLock e.lkid s
  pub resource : e.res ≡ None → HasRoomForResource e.hash s
  pub asts : routines_of (Some e.asked) ≡ 0

-- there is room for the lock, and its process is owed the ASTs of the routines that the request names; nothing else is
-- changed
pub record IsReady (e : NewLock) (old new : Records) : Type 0 where
  pub resources : new.resources ≡ old.resources
  pub processes : ProcessesStay old new
  pub keys : new.keys ≡ old.keys
  pub statuses : plain_processes new ≡ plain_processes old
  pub lock : HasRoomForLock e.lkid new
  pub owed : DueChanges e.pid (λ due. due + routines_of (Some e.asked)) old new

-- the process is owed these ASTs, and the room is the same or more; if the ASTs are forgiven nothing else is changed
pub record IsOwing (e : NewLock) (old new : Records) : Type 0 where
  pub processes : new ≡ record old {
    processes = on_stored e.owner (owed_more (routines_of (Some e.asked))) old.processes;
    room = new.room;
  }
  pub locks_room : IsNoLess old.room.locks new.room.locks
  pub resources_room : IsNoLess old.room.resources new.room.resources
  pub processes_room : IsNoLess old.room.processes new.room.processes

-- the ASTs for a new lock with this row are due in addition, and the ASTs owed stay the same
pub record IsDueMore (row : LockState) (old new : Records) : Type 0 where
  pub due : (pid : ℕ) → due_for pid new ≡ due_for pid old + due_to pid row
  pub dues : DuesStay old new

-- the processes after the request of a new lock is accepted
abbrev pub processes_accepted : NewLock → List Process → List Process
processes_accepted e processes = processes_after_acceptance e.pid e.asked.block e.lkid processes

-- the processes after a new lock has entered: its request is accepted, and has ended if it is granted at once
abbrev pub processes_entered : NewLock → ValueBlock → List Process → List Process
processes_entered e block processes =
    (blocks_after (if e.at_once then grant_endings true (new_row e) else [])
    (blocks_with block (processes_accepted e processes))).processes

-- the new lock is added under an unused handle, as the last lock of its process and the last sublock of its parent;
-- each other lock stays where it was
pub record IsAdded (e : NewLock) (old new : Records) : Type 0 where
  pub lock : ℕ
  pub fresh : ¬ IsStored lock old
  pub row : LockState
  pub stands : Stores new lock row
  pub same : IsSameLock (new_row e) row
  pub own_locks : map but_notices new.processes ≡ map but_notices
      (map (process_with_lock e.owner e.parent lock) old.processes)
  pub others : OtherLocksStay lock old new

-- the lock is on the resource with this handle, in the queue that it enters; no other lock or resource changed
pub record IsTakenIn (e : NewLock) (res : ℕ) (old new : Records) : Type 0 where
  pub entered : plain_resources new ≡ resources_after_entry e.serial e.site (new_row e) e.at_once (plain_resources old)
  pub added : IsAdded e old new
  pub others : OthersStay res old new
  pub there : HasResource res new
  pub rest : IsAtRest new

-- the lock is on the resource with this handle, and no status block is written
pub record IsEntered (e : NewLock) (res : ℕ) (old new : Records) : Type 0 where
  pub taken : IsTakenIn e res old new
  pub processes : plain_processes new ≡ plain_processes old
  pub owner : IsProcess e.owner e.pid new
  pub value_block : IfSome (resource_at res new.resources)
      (λ r. r.value_block ≡ (resource_for e (plain_resources old)).value_block)

-- the lock is on the resource with this handle, its status block says that it is pending or granted, and each process
-- is owed the ASTs that are due to it
pub record HasEntered (e : NewLock) (res : ℕ) (old new : Records) : Type 0 where
  pub taken : IsTakenIn e res old new
  pub statuses : plain_processes new ≡ processes_entered e (resource_for e (plain_resources old)).value_block
      (plain_processes old)
  pub paid : IsPaid new
