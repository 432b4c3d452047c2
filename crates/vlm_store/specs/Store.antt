-- The fields of the store as tables, and the records that the tables show.
use Rattle.std.specs.Prelude.{ℕ, List, map, Option}
use Rattle.std.specs.Option.{option_map}
use Rattle.slab.specs.Slab.{Slab, get}
use Rattle.vlm_collections.specs.declared.hashers.HashKeys.{HashKeys}
use Rattle.vlm_collections.specs.declared.lists.LinkedList.{LinkedList}
use Rattle.vlm_collections.specs.Lists.{handles_of}
use Rattle.vlm_words.specs.declared.locks.LockState.{LockState}
use Rattle.vlm_words.specs.declared.resources.Queue.TheVariants.{Granted, Conversion, Waiting}
use Rattle.vlm_words.specs.declared.resources.Key.{Key}
use Rattle.vlm_records.specs.declared.handles.Place.{Place}
use Rattle.vlm_records.specs.declared.handles.Place.TheVariants.{Queued}
use Rattle.vlm_records.specs.declared.queues.Queues.{Queues}
use Rattle.vlm_records.specs.declared.resources.InOrder.{InOrder}
use Rattle.vlm_store.specs.Records.{Records, Room, Rooms, StoredLock, StoredProcess, StoredResource}
use Rattle.vlm_records.specs.Shown.{Face, face_in, handles_at, lkid_of, order_links, room_in, rows}

-- the tables: rows and resources by handle, handles by place, the resources in the order of making, the processes,
-- the room and the keys
pub record Layout : Type 0 where
  pub rows : ℕ → LockState
  pub faces : ℕ → Face
  pub handles : Place → List ℕ
  pub order : List ℕ
  pub processes : List StoredProcess
  pub room : Rooms
  pub keys : HashKeys

-- the tables besides locks and resources
pub record Beside : Type 0 where
  pub processes : List StoredProcess
  pub room : Rooms
  pub keys : HashKeys

-- the room in a slab, and in an index whose parts each take this many more numbers
abbrev pub room_of : {T : Type 0} → Slab T → List ℕ → Room
room_of nodes finds = record { slots = (room_in nodes).0; next_handle = (room_in nodes).1; finds = finds }

-- the lock with this handle
abbrev pub under_handle : (ℕ → LockState) → ℕ → StoredLock
under_handle rows at = record { at = at; row = rows at }

-- the resource with this handle
abbrev pub resource_of : Layout → ℕ → StoredResource
resource_of l r = record {
  at = r;
  serial = (l.faces r).serial;
  domain = (l.faces r).domain;
  key = (l.faces r).key;
  level = (l.faces r).level;
  value_block = (l.faces r).value_block;
  granted = map (under_handle l.rows) (l.handles (Queued r Granted));
  converting = map (under_handle l.rows) (l.handles (Queued r Conversion));
  waiting = map (under_handle l.rows) (l.handles (Queued r Waiting));
}

-- the records that the tables show
unfoldable pub records_of : Layout → Records
records_of l = record {
  resources = map (resource_of l) l.order;
  processes = l.processes;
  room = l.room;
  keys = l.keys;
}

-- the fields as tables
abbrev pub tables : Queues → LinkedList InOrder → Beside → Layout
tables q order beside = record {
  rows = rows q;
  faces = λ r. face_in (get q.resources r);
  handles = handles_at q;
  order = handles_of order_links q.resources order;
  processes = beside.processes;
  room = beside.room;
  keys = beside.keys;
}

-- the ID of the lock with this handle
abbrev pub lkid_at : Queues → ℕ → Option ℕ
lkid_at q at = option_map lkid_of (get q.locks at)

-- the key of the resource with this handle
abbrev pub key_at : Queues → ℕ → Option Key
key_at q res = option_map (λ r. r.key) (get q.resources res)
