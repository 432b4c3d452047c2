-- The store's invariant, and the records that its fields show.
use Rattle.std.specs.Prelude.{ℕ, List, Option, None}
use Rattle.slab.specs.Slab.{ContainsKey}
use Rattle.vlm_store.specs.Index.{hash_key, handle_by, spares_by, Indexes}
use Rattle.vlm_collections.specs.Parts.{handle_in, spares_of}
use Rattle.vlm_collections.specs.Lists.{IsIn, IsLinked, handles_of}
use Rattle.vlm_store.specs.declared.store.Store.TheInside.{Inside}
use Rattle.vlm_records.specs.declared.handles.Armed.{Armed}
use Rattle.vlm_records.specs.Armed.{IsArmed}
use Rattle.vlm_store.specs.HashedKeys.{hashed, hashed_at}
use Rattle.vlm_store.specs.KeyIndexes.{IsHashed, found_by, spares_in}
use Rattle.vlm_words.specs.declared.resources.Key.{Key}
use Rattle.vlm_store.specs.Pending.{IsMarked, is_of_nodes, waits_in}
use Rattle.vlm_store.specs.Records.{Records, Rooms, StoredProcess}
use Rattle.vlm_records.specs.Kin.{IsBelow, IsNamed, IsOwned, pid_at, process_links}
use Rattle.vlm_records.specs.WaitList.{IsWaitList}
use Rattle.vlm_store.specs.Holdings.{holding, processes_of}
use Rattle.vlm_records.specs.Shown.{IsPlaced, IsTallied, order_links}
use Rattle.vlm_store.specs.Store.{Beside, lkid_at, records_of, room_of, tables}

-- the processes that the fields show
abbrev pub processes_shown : Inside → List StoredProcess
processes_shown s = processes_of (holding s.processes s.queues.locks s.process_order)

-- the room that the fields show
abbrev pub rooms_shown : Inside → Rooms
rooms_shown s = record {
  locks = room_of s.queues.locks (spares_of s.lock_index);
  resources = room_of s.queues.resources (spares_in s.resource_index);
  processes = room_of s.processes (spares_by s.process_index);
}

-- the processes, the room and the keys that the fields show
abbrev pub beside_shown : Inside → Beside
beside_shown s = record { processes = processes_shown s; room = rooms_shown s; keys = s.keys }

-- the records that a caller sees
abbrev pub records_shown : Inside → Records
records_shown s = records_of (tables s.queues s.order (beside_shown s))

-- the resource that the index finds by a key
abbrev pub found_in : Inside → Key → Option ℕ
found_in s key = found_by s.resource_index s.queues.resources (hashed (hash_key s.keys) key)

-- the invariant of a store: each lock is in the lists that it notes, and in the wait list exactly if its request is
-- queued; each resource counts its locks and lists the armed ones; resources and processes are in their orders; each
-- index finds exactly what exists; the marks are exactly the living processes, and those with a pending AST
pub record IsKept (s : Inside) : Type 0 where
  pub placed : IsPlaced s.queues None
  pub tallied : IsTallied s.queues None
  pub armed : (which : Armed) → IsArmed which s.queues None
  pub wait_list : IsWaitList s.queues.locks s.wait_list None
  pub linked : IsLinked order_links s.queues.resources s.order
  pub ordered : (res : ℕ) → ContainsKey s.queues.resources res
      → IsIn res (handles_of order_links s.queues.resources s.order)
  pub locks : Indexes (handle_in s.lock_index) (lkid_at s.queues)
  pub resources : IsHashed (hash_key s.keys) s.resource_index (hashed_at s.queues)
  pub owned : IsOwned s.processes s.queues.locks None
  pub below : IsBelow s.queues.locks None
  pub named : IsNamed s.processes s.queues.locks
  pub processes_linked : IsLinked process_links s.processes s.process_order
  pub processes_ordered : (at : ℕ) → ContainsKey s.processes at
      → IsIn at (handles_of process_links s.processes s.process_order)
  pub processes : Indexes (handle_by s.process_index) (pid_at s.processes)
  pub marked : IsMarked waits_in s.processes s.pending
  pub living : IsMarked is_of_nodes s.processes s.living
