-- What the slabs of locks and resources show.
use Rattle.std.specs.Prelude.{◌≡◌, ◌+◌, ◌-◌, ◌==◌, ◌&&◌, Bool, if◌then◌else◌, ℕ, false, replicate, List, Option, None, Some}
use Rattle.std.specs.List.{list_all}
use Rattle.std.specs.Option.{option_map}
use Rattle.slab.specs.Slab.{Slab, get, slab_len, ContainsKey}
use Rattle.vlm_collections.specs.declared.link.Links.{Links}
use Rattle.vlm_collections.specs.declared.lists.LinkedList.{LinkedList}
use Rattle.vlm_collections.specs.Lists.{handles_of, without}
use Rattle.vlm_words.specs.declared.locks.LockState.{LockState}
use Rattle.vlm_words.specs.declared.modes.Mode.{Mode}
use Rattle.vlm_words.specs.declared.resources.Domain.{Domain}
use Rattle.vlm_words.specs.declared.resources.Domain.TheVariants.{System}
use Rattle.vlm_words.specs.declared.resources.Queue.{Queue}
use Rattle.vlm_words.specs.declared.resources.Queue.TheVariants.{Granted, Conversion, Waiting}
use Rattle.vlm_words.specs.Rows.{is_beside}
use Rattle.vlm_words.specs.ValueBlocks.{new_value_block}
use Rattle.vlm_words.specs.declared.resources.Key.{Key}
use Rattle.vlm_words.specs.declared.resources.Site.{Site}
use Rattle.vlm_words.specs.declared.resources.Key.TheVariants.{Below}
use Rattle.vlm_words.specs.declared.resources.ValueBlock.{ValueBlock}
use Rattle.vlm_records.specs.declared.handles.Place.{Place}
use Rattle.vlm_records.specs.declared.handles.Place.TheVariants.{Queued}
use Rattle.vlm_records.specs.declared.locks.InQueue.{InQueue}
use Rattle.vlm_records.specs.declared.locks.Lock.{Lock}
use Rattle.vlm_records.specs.declared.queues.Queues.{Queues}
use Rattle.vlm_records.specs.declared.resources.Resource.{Resource}
use Rattle.vlm_records.specs.declared.tallies.Tally.{Tally}
use Rattle.vlm_records.specs.Families.{IsFamily}
use Rattle.vlm_records.specs.Tallies.{Count, how_many, no_tally, total, weight_of}

-- an empty list
abbrev pub no_list : {Kind : Type 0} → LinkedList Kind
no_list = record { first = None; last = None; len = 0; kind = record {} }

-- the list of a queue
abbrev pub queue_list : Queue → Resource → LinkedList InQueue
queue_list Granted r = r.granted
queue_list Conversion r = r.converting
queue_list Waiting r = r.waiting

-- the resource with another list in a queue
abbrev pub with_queue_list : Queue → LinkedList InQueue → Resource → Resource
with_queue_list Granted list r = record r { granted = list }
with_queue_list Conversion list r = record r { converting = list }
with_queue_list Waiting list r = record r { waiting = list }

-- the row of a missing lock
abbrev pub no_row : LockState
no_row = record { lkid = 0; pid = 0; parent = 0; held = None; want = None; armed = false }

-- the place of a lock whose place is left out
abbrev pub no_place : Place
no_place = Queued 0 Granted

-- the row of the lock in a place of the slab
abbrev pub row_in : Option Lock → LockState
row_in None = no_row
row_in (Some l) = l.row

-- the place that the lock in a place of the slab notes; a loose lock notes no place
abbrev pub noted_in : Option Lock → Option Place
noted_in None = None
noted_in (Some l) = if l.loose then None else Some l.place

-- the lock in a place of the slab is loose
abbrev pub is_loose_in : Option Lock → Bool
is_loose_in None = false
is_loose_in (Some l) = l.loose

-- the row of the lock in a place of the slab, if the lock is loose
abbrev pub loose_in : Option Lock → Option LockState
loose_in None = None
loose_in (Some l) = if l.loose then Some l.row else None

-- the list of a queue; an empty list without a resource
abbrev pub list_in : Queue → Option Resource → LinkedList InQueue
list_in queue None = no_list
list_in queue (Some r) = queue_list queue r

-- the counts of the resource in a place of the slab
abbrev pub tally_in : Option Resource → Tally
tally_in None = no_tally
tally_in (Some r) = r.tally

-- the links of a lock in its queue
abbrev pub queue_links : Lock → Links
queue_links l = l.in_queue

-- the links of a resource in the order of making
abbrev pub order_links : Resource → Links
order_links r = r.in_order

-- the lock with other links in its queue
abbrev pub with_queue_links : Lock → Links → Lock
with_queue_links l pair = record l { in_queue = pair }

-- the resource with other links in the order of making
abbrev pub with_order_links : Resource → Links → Resource
with_order_links r pair = record r { in_order = pair }

-- the resource without its queues
abbrev pub but_lists : Resource → Resource
but_lists r = record r { granted = no_list; converting = no_list; waiting = no_list }

-- the resource without its counts
abbrev pub but_tally : Resource → Resource
but_tally r = record r { tally = no_tally }

-- the resource without its value block
abbrev pub but_value_block : Resource → Resource
but_value_block r = record r { value_block = new_value_block }

-- the resource without queues and counts
abbrev pub but_counted : Resource → Resource
but_counted r = but_tally (but_lists r)

-- the resource without its lists of armed locks
abbrev pub but_armed : Resource → Resource
but_armed r = record r { armed_above_nl = no_list; armed_above_cr = no_list }

-- the resource without all its lists and counts
abbrev pub but_queues : Resource → Resource
but_queues r = but_armed (but_counted r)

-- the ID of a lock
abbrev pub lkid_of : Lock → ℕ
lkid_of l = l.row.lkid

-- the lock without its place
abbrev pub but_place : Lock → Lock
but_place l = record l { place = no_place }

-- the lock without its row
abbrev pub but_row : Lock → Lock
but_row l = record l { row = no_row }

-- empty links
abbrev pub no_links : Links
no_links = record { prev = None; next = None }

-- what never changes in a row: lock, process and parent lock
abbrev pub named_row : LockState → LockState
named_row row = record no_row { lkid = row.lkid; pid = row.pid; parent = row.parent }

-- the lock without its queue and the changing part of its row
abbrev pub but_requeued : Lock → Lock
but_requeued l = record l { row = named_row l.row; place = no_place; in_queue = no_links }

-- the lock without its links in lists of armed locks
abbrev pub but_in_armed : Lock → Lock
but_in_armed l = record l { in_above_nl = no_links; in_above_cr = no_links }

-- the lock without its links in the wait list
abbrev pub but_in_wait_list : Lock → Lock
but_in_wait_list l = record l { in_wait_list = no_links }

-- the lock without its queue, its other lists on a resource, the wait list, and the changing part of its row
abbrev pub but_queued : Lock → Lock
but_queued l = but_in_wait_list (but_in_armed (record (but_requeued l) { loose = false }))

-- the lock without its links in the wait list, its process and its parent's sublocks, and without its own sublocks
abbrev pub but_kin : Lock → Lock
but_kin l = but_in_wait_list (record l { of_process = no_links; of_parent = no_links; sublocks = no_list })

-- a new lock that is in no list, without the changing part of its row
abbrev pub new_lock : LockState → ℕ → Option ℕ → Lock
new_lock row owner parent = record {
  row = named_row row;
  place = no_place;
  loose = false;
  in_queue = no_links;
  in_above_nl = no_links;
  in_above_cr = no_links;
  in_wait_list = no_links;
  owner = owner;
  of_process = no_links;
  parent = parent;
  of_parent = no_links;
  sublocks = no_list;
}

-- how many more records a slab takes without an allocation, and the handle of the next one
unfoldable pub room_in : {T : Type 0} → Slab T → ℕ × ℕ
room_in nodes = (nodes.capacity - slab_len nodes, nodes.vacant_key)

-- this part of every record stays
abbrev pub SameBut : {T X : Type 0} → (T → X) → Slab T → Slab T → Type 0
SameBut part old new = (handle : ℕ) → option_map part (get new handle) ≡ option_map part (get old handle)

-- the resource of the place exists
abbrev pub IsThere : Slab Resource → Place → Type 0
IsThere resources (Queued res queue) = ContainsKey resources res

module _ (q : Queues) where
  -- the row of the lock with this handle
  abbrev pub rows : ℕ → LockState
  rows at = row_in (get q.locks at)

  -- the place that the lock with this handle notes
  abbrev pub noted : ℕ → Option Place
  noted at = noted_in (get q.locks at)

  -- the list of a place
  abbrev pub list_at : Place → LinkedList InQueue
  list_at (Queued res queue) = list_in queue (get q.resources res)

  -- the handles at a place, in the order of its queue
  abbrev pub handles_at : Place → List ℕ
  handles_at place = handles_of queue_links q.locks (list_at place)

  -- the handles at a place, except one lock that was taken out
  abbrev pub handles_but : Option ℕ → Place → List ℕ
  handles_but None place = handles_at place
  handles_but (Some out) place = without out (handles_at place)

  -- each queue is linked and has exactly the locks that note it, except one lock that was taken out
  abbrev pub IsPlaced : Option ℕ → Type 0
  IsPlaced out = IsFamily queue_links noted_in q.locks list_at out

  -- the sum of a weight over the locks of a resource, except one lock
  abbrev pub shares : (Queue → LockState → ℕ) → Option ℕ → ℕ → ℕ
  shares weight out res =
      total (weight Granted) rows (handles_but out (Queued res Granted))
      + (total (weight Conversion) rows (handles_but out (Queued res Conversion))
      + total (weight Waiting) rows (handles_but out (Queued res Waiting)))

  -- each resource counts its locks by mode, except one lock
  pub record IsTallied (out : Option ℕ) : Type 0 where
    pub counts : (count : Count) (res : ℕ) (mode : Mode)
        → how_many count (tally_in (get q.resources res)) mode ≡ shares (weight_of count mode) out res

-- the mode is compatible with the held mode of each of these locks
abbrev pub handles_fit : Mode → (ℕ → LockState) → List ℕ → List ℕ → Bool
handles_fit mode rows granted converting =
    list_all (λ k. is_beside mode (rows k).held) granted && list_all (λ k. is_beside mode (rows k).held) converting

-- what a lock at this place adds to the count of a resource
abbrev pub share_of : (Queue → LockState → ℕ) → Place → ℕ → LockState → ℕ
share_of weight (Queued at queue) res row = if at == res then weight queue row else 0

-- what a lock adds to the count of a resource; a loose lock adds nothing
abbrev pub own_share : (Queue → LockState → ℕ) → ℕ → Lock → ℕ
own_share weight res l = if l.loose then 0 else share_of weight l.place res l.row

-- a resource without its lists and counts
pub record Face : Type 0 where
  pub serial : ℕ
  pub domain : Domain
  pub key : Key
  pub hash : ℕ
  pub level : ℕ
  pub value_block : ValueBlock

-- the face of a resource
abbrev pub face_of : Resource → Face
face_of r = record {
  serial = r.serial;
  domain = r.domain;
  key = r.key;
  hash = r.hash;
  level = r.level;
  value_block = r.value_block;
}

-- the face of a missing resource
abbrev pub no_face : Face
no_face = record {
  serial = 0;
  domain = System;
  key = Below 0 (replicate 1 0);
  hash = 0;
  level = 0;
  value_block = new_value_block;
}

-- the face of the resource in a place of the slab
abbrev pub face_in : Option Resource → Face
face_in None = no_face
face_in (Some r) = face_of r

-- the face of a new resource whose key has this hash
abbrev pub new_face : ℕ → Site → ℕ → Face
new_face serial site hash = record {
  serial = serial;
  domain = site.domain;
  key = site.key;
  hash = hash;
  level = site.level;
  value_block = new_value_block;
}
