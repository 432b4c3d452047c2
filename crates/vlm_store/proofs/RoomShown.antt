-- What a caller sees of the room for more records.
use Rattle.vlm_store.specs.Index.{HandleMap, hash_key, spares_by}
use Rattle.indexmap.specs.IndexMap.{spare}
use Rattle.std.proofs.lemmas.List.{get_or-replicate}
use Rattle.vlm_store.proofs.WaitListed.{wait_list_same}
use Rattle.std.proofs.Common.{◌≡◌, ℕ, ◌+◌, ◌<◌, ◌≤◌, List, None, Result, Ok, Err, OnOk, refl, sym, ap, ◌∙◌, subst, arith}
use Rattle.std.specs.Option.{option_map}
use Rattle.vlm_store.specs.KeyIndexes.{IsSame, spares_in}
use Rattle.slab.specs.Slab.{Slab, get, HasRoomFor}
use Rattle.vlm_collections.specs.Parts.{FindsSame, KeepsSpares, Parts, UsesOneSpare, handle_in, part_of, spare_for, spares_of}
use Rattle.vlm_collections.specs.declared.link.TheConstants.{LAST_HANDLE}
use Rattle.vlm_collections.proofs.Rings.{same-handles, same-linked}
use Rattle.vlm_store.specs.declared.key_index.KeyIndex.{KeyIndex}
use Rattle.vlm_store.specs.HashedKeys.{hashed_at, hashed_in}
use Rattle.vlm_store.proofs.HashedKeys.{index_same}
use Rattle.vlm_records.specs.declared.locks.Lock.{Lock}
use Rattle.vlm_records.specs.declared.processes.Process.{Process}
use Rattle.vlm_records.specs.declared.queues.Queues.{Queues}
use Rattle.vlm_records.specs.declared.resources.Resource.{Resource}
use Rattle.vlm_store.specs.declared.store.Store.TheInside.{Inside}
use Rattle.vlm_store.specs.Records.{HasRoom, HasSlot, IsGivenBack, IsNoLess, IsTaken, IsUnchanged, Records, Room, Rooms, with_lock_room, with_resource_room}
use Rattle.vlm_records.specs.Armed.{armed_list_in}
use Rattle.vlm_records.specs.Shown.{but_queued, lkid_of, order_links, room_in, tally_in}
use Rattle.vlm_records.proofs.Rooms.{room_has, room_handle, room_slot, room_reserved}
use Rattle.vlm_store.specs.Store.{Layout, lkid_at, records_of, room_of, tables}
use Rattle.vlm_store.specs.Holdings.{holding, processes_of}
use Rattle.vlm_store.specs.Kept.{IsKept, beside_shown, processes_shown, records_shown, rooms_shown}
use Rattle.vlm_store.proofs.Indexing.{Indexes-same}
use Rattle.vlm_store.proofs.KeptRecords.{reserved_handles, reserved_placed, reserved_tallied}
use Rattle.vlm_records.proofs.Arming.{armed_reserved, armed_resources}
use Rattle.vlm_records.proofs.Making.{reserved_lists, resources_handles, resources_placed, resources_tallied}
use Rattle.vlm_store.proofs.Kinship.{queued_below, queued_named, queued_owned}

-- the rooms of the three kinds
abbrev rooms : Room → Room → Room → Rooms
rooms locks resources processes = record { locks = locks; resources = resources; processes = processes }

module _ {T : Type 0} where
  -- what a caller sees of the room of a slab
  pub room_of_same : (old new : Slab T) (finds : List ℕ) → room_in new ≡ room_in old → room_of new finds ≡ room_of old finds
  room_of_same old new finds same = ap (λ (p : ℕ × ℕ). record { slots = p.0; next_handle = p.1; finds = finds }) same

  pub room_of_less : (old new : Slab T) (had finds : List ℕ) → new ≡ record old { capacity = new.capacity }
      → old.capacity ≤ new.capacity → KeepsSpares had finds → IsNoLess (room_of old had) (room_of new finds)
  room_of_less old new had finds is more finds_more =
      let made = room_reserved old new is more in
      record { slots = made.0; next_handle = made.1; finds = finds_more }

-- the room of a map of handles is room for any number
pub room_by : (handles : HandleMap) (number : ℕ) → spare_for (spares_by handles) number ≡ spare handles
unfolding spare_for
room_by handles number = get_or-replicate 64 (part_of number) (spare handles) 0 (omega arith)

pub spares_kept : (old new : HandleMap) → spare old ≤ spare new → KeepsSpares (spares_by old) (spares_by new)
spares_kept old new more number = omega (arith, room_by old number, room_by new number, more)

pub spare_used : (old new : HandleMap) → spare old ≤ spare new + 1 → UsesOneSpare (spares_by old) (spares_by new)
spare_used old new used number = omega (arith, room_by old number, room_by new number, used)

-- where there was no room there is no less
pub none_less : (old new : ℕ) → ¬ (0 < old) → old ≤ new
none_less old new none = omega (arith, none)

-- no less than itself
pub no_less : (room : Room) → IsNoLess room room
no_less room = record { slots = omega arith; next_handle = refl; finds = λ number. omega arith }

-- room that is no less twice is no less
pub no_less_then : (a b c : Room) → IsNoLess a b → IsNoLess b c → IsNoLess a c
no_less_then a b c first second = record {
  slots = omega (arith, first.slots, second.slots);
  next_handle = second.next_handle ∙ first.next_handle;
  finds = λ number. omega (arith, first.finds number, second.finds number);
}

pub unchanged_then : (a b c : Records) → IsUnchanged a b → IsUnchanged b c → IsUnchanged a c
unchanged_then a b c first second = record {
  same = second.same ∙ ap (λ (x : Records). record x { room = c.room }) first.same;
  locks = no_less_then a.room.locks b.room.locks c.room.locks first.locks second.locks;
  resources = no_less_then a.room.resources b.room.resources c.room.resources first.resources second.resources;
  processes = no_less_then a.room.processes b.room.processes c.room.processes first.processes second.processes;
}

-- each kind has its room
pub rooms_are : (a b c a' b' c' : Room) → a' ≡ a → b' ≡ b → c' ≡ c → rooms a' b' c' ≡ rooms a b c
rooms_are a b c a' b' c' first second third =
    ap (λ x. rooms x b' c') first ∙ ap (λ x. rooms a x c') second ∙ ap (λ x. rooms a b x) third

-- a fact of the room is one of the room that a caller sees
pub room_shown : (P : Rooms → Rooms → Type 0) (old new : Layout) → P old.room new.room → P (records_of old).room (records_of new).room
unfolding records_of
room_shown P old new fact = fact

pub shown_room : (P : Rooms → Type 0) (l : Layout) → P (records_of l).room → P l.room
unfolding records_of
shown_room P l fact = fact

module _ (s : Inside) where
  -- what is shown with other slabs of the same records, and with other room
  abbrev with_locks : Rooms → Slab Lock → Records
  with_locks room locks =
      records_of (tables (record s.queues { locks = locks }) s.order
      (record { processes = processes_of (holding s.processes locks s.process_order); room = room; keys = s.keys }))

  abbrev with_resources : Rooms → Slab Resource → Records
  with_resources room resources =
      records_of (tables (record s.queues { resources = resources }) s.order
      (record { processes = processes_shown s; room = room; keys = s.keys }))

  abbrev with_processes : Rooms → Slab Process → Records
  with_processes room processes =
      records_of (tables s.queues s.order
      (record {
        processes = processes_of (holding processes s.queues.locks s.process_order);
        room = room;
        keys =
            s.keys;
      }))

  -- where room is made, a caller sees nothing else
  pub lock_room_made : (locks : Slab Lock) (finds : List ℕ)
      → locks ≡ record s.queues.locks { capacity = locks.capacity } → s.queues.locks.capacity ≤ locks.capacity
      → KeepsSpares (spares_of s.lock_index) finds
      → IsUnchanged (records_shown s) (with_locks (record (rooms_shown s) { locks = room_of locks finds }) locks)
  unfolding records_of
  lock_room_made locks finds is more finds_more = record {
    same = ap (with_locks (record (rooms_shown s) { locks = room_of locks finds })) is;
    locks = room_of_less s.queues.locks locks (spares_of s.lock_index) finds is more finds_more;
    resources = no_less _;
    processes = no_less _;
  }

  pub lock_room_only : (locks : Slab Lock) (finds : List ℕ) → locks ≡ record s.queues.locks { capacity = locks.capacity }
      → (let new = with_locks (record (rooms_shown s) { locks = room_of locks finds }) locks in new ≡ with_lock_room new.room.locks (records_shown s))
  unfolding records_of
  lock_room_only locks finds is = ap (with_locks (record (rooms_shown s) { locks = room_of locks finds })) is

  pub resource_room_made : (resources : Slab Resource) (finds : List ℕ)
      → resources ≡ record s.queues.resources { capacity = resources.capacity }
      → s.queues.resources.capacity ≤ resources.capacity
      → KeepsSpares (spares_in s.resource_index) finds
      → IsUnchanged (records_shown s)
      (with_resources (record (rooms_shown s) { resources = room_of resources finds }) resources)
  unfolding records_of
  resource_room_made resources finds is more finds_more = record {
    same = ap (with_resources (record (rooms_shown s) { resources = room_of resources finds })) is;
    locks = no_less _;
    resources = room_of_less s.queues.resources resources (spares_in s.resource_index) finds is more finds_more;
    processes = no_less _;
  }

  pub resource_room_only : (resources : Slab Resource) (finds : List ℕ) → resources ≡ record s.queues.resources { capacity = resources.capacity }
      → (let new = with_resources (record (rooms_shown s) { resources = room_of resources finds }) resources in
      new ≡ with_resource_room new.room.resources (records_shown s))
  unfolding records_of
  resource_room_only resources finds is = ap (with_resources (record (rooms_shown s) { resources = room_of resources finds })) is

  pub process_room_made : (processes : Slab Process) (finds : List ℕ)
      → processes ≡ record s.processes { capacity = processes.capacity } → s.processes.capacity ≤ processes.capacity
      → KeepsSpares (spares_by s.process_index) finds
      → IsUnchanged (records_shown s) (with_processes (record (rooms_shown s) { processes = room_of processes finds }) processes)
  unfolding records_of
  process_room_made processes finds is more finds_more = record {
    same = ap (with_processes (record (rooms_shown s) { processes = room_of processes finds })) is;
    locks = no_less _;
    resources = no_less _;
    processes = room_of_less s.processes processes (spares_by s.process_index) finds is more finds_more;
  }

  pub process_index_room_made : (processes : Slab Process) (index : HandleMap)
      → processes ≡ record s.processes { capacity = processes.capacity } → s.processes.capacity ≤ processes.capacity
      → spare s.process_index ≤ spare index
      → IsUnchanged (records_shown s) (with_processes (record (rooms_shown s) { processes = room_of processes (spares_by index) }) processes)
  process_index_room_made processes index is more spares = process_room_made processes (spares_by index) is more (spares_kept s.process_index index spares)

  pub process_slot_made : (processes : Slab Process) → processes ≡ record s.processes { capacity = processes.capacity }
      → s.processes.capacity ≤ processes.capacity
      → IsUnchanged (records_shown s) (with_processes (record (rooms_shown s) { processes = room_of processes (spares_by s.process_index) }) processes)
  process_slot_made processes is more = process_index_room_made processes s.process_index is more (omega arith)

-- the room stays where the queues keep it
pub queues_room : (s : Inside) (q' : Queues) → room_in q'.locks ≡ room_in s.queues.locks
    → room_in q'.resources ≡ room_in s.queues.resources → rooms_shown (record s { queues = q' }) ≡ rooms_shown s
queues_room s q' locks resources =
    rooms_are _ _ _ _ _ _ (room_of_same s.queues.locks q'.locks (spares_of s.lock_index) locks)
    (room_of_same s.queues.resources q'.resources (spares_in s.resource_index) resources) refl

-- a record is taken in where room was made for it
pub is_taken : {T : Type 0} (old roomy new : Slab T) (had left : List ℕ)
    → roomy ≡ record old { capacity = roomy.capacity } → old.capacity ≤ roomy.capacity
    → (room_in new).0 + 1 ≡ (room_in roomy).0
    → UsesOneSpare had left → IsTaken (room_of old had) (room_of new left)
is_taken old roomy new had left is more taken used =
    let made = room_reserved old roomy is more in
    let slots = made.0 in
    record { slots = omega arith; finds = used }

-- a record is removed
pub is_given_back : {T : Type 0} (old new : Slab T) (handle : ℕ) (had has : List ℕ)
    → room_in new ≡ ((room_in old).0 + 1, handle) → handle ≤ LAST_HANDLE → KeepsSpares had has
    → IsGivenBack (room_of old had) (room_of new has)
is_given_back old new handle had has back low finds =
    record { slots = ap (λ (p : ℕ × ℕ). p.0) back; next_handle = subst (λ k. k ≤ LAST_HANDLE) (sym (ap (λ (p : ℕ × ℕ). p.1) back)) low; finds = finds }

-- there is room in a slab for which a caller sees it
pub has_slot : {T : Type 0} (nodes : Slab T) (finds : List ℕ) → HasSlot (room_of nodes finds) → HasRoomFor nodes 1 × (nodes.vacant_key ≤ LAST_HANDLE)
has_slot nodes finds room = (room_has nodes room.slot, subst (λ k. k ≤ LAST_HANDLE) (room_handle nodes) room.handle)

-- and in an index for a number
pub has_room : {T : Type 0} (nodes : Slab T) (finds : List ℕ) (number : ℕ) → HasRoom number (room_of nodes finds)
    → HasRoomFor nodes 1 × (nodes.vacant_key ≤ LAST_HANDLE) × (0 < spare_for finds number)
has_room nodes finds number room =
    let slot = has_slot nodes finds room.slot in
    (slot.0, slot.1, room.find)

-- room for a record, as a caller knows it, is room in the slab, for a link, and in the index
pub lock_room : (s : Inside) (lkid : ℕ) → HasRoom lkid (records_shown s).room.locks → HasRoomFor s.queues.locks 1
    × (s.queues.locks.vacant_key ≤ LAST_HANDLE) × (0 < spare_for (spares_of s.lock_index) lkid)
lock_room s lkid has = has_room s.queues.locks (spares_of s.lock_index) lkid
    (shown_room (λ r. HasRoom lkid r.locks) (tables s.queues s.order (beside_shown s)) has)

pub resource_slot : (s : Inside) → HasSlot (records_shown s).room.resources
    → HasRoomFor s.queues.resources 1 × (s.queues.resources.vacant_key ≤ LAST_HANDLE)
resource_slot s has = has_slot s.queues.resources (spares_in s.resource_index)
    (shown_room (λ r. HasSlot r.resources) (tables s.queues s.order (beside_shown s)) has)

-- and in the index
pub resource_find : (s : Inside) (hash : ℕ) → 0 < spare_for (records_shown s).room.resources.finds hash → 0 < spare_for (spares_in s.resource_index) hash
resource_find s hash find = shown_room (λ r. 0 < spare_for r.resources.finds hash) (tables s.queues s.order (beside_shown s)) find

pub process_room : (s : Inside) (pid : ℕ) → HasRoom pid (records_shown s).room.processes → HasRoomFor s.processes 1
    × (s.processes.vacant_key ≤ LAST_HANDLE) × (1 ≤ spare s.process_index)
process_room s pid has =
    let room = has_room s.processes (spares_by s.process_index) pid
    (shown_room (λ r. HasRoom pid r.processes) (tables s.queues s.order (beside_shown s)) has) in
    (room.0, room.1, omega (arith, room_by s.process_index pid, room.2))

-- more room for locks leaves all that the fields keep
pub lock_room_kept : (s : Inside) → IsKept s → (locks : Slab Lock) (index : Parts)
    → locks ≡ record s.queues.locks { capacity = locks.capacity } → FindsSame s.lock_index index
    → IsKept (record s { queues = record s.queues { locks = locks }; lock_index = index })
lock_room_kept s kept locks index is finds =
    let same : (k : ℕ) → get locks k ≡ get s.queues.locks k = λ k. ap (λ x. get x k) is in
    record {
      placed = reserved_placed s.queues locks same kept.placed;
      tallied = reserved_tallied s.queues locks same kept.placed kept.tallied;
      armed = λ which. armed_reserved which s.queues locks same (reserved_handles s.queues locks same kept.placed) (kept.armed which);
      wait_list = wait_list_same s.queues.locks locks s.wait_list same kept.wait_list;
      linked = kept.linked;
      ordered = kept.ordered;
      locks = Indexes-same (handle_in s.lock_index) (handle_in index) (lkid_at s.queues) (lkid_at (record s.queues { locks = locks })) finds
          (λ at. ap (option_map lkid_of) (same at)) kept.locks;
      resources = kept.resources;
      owned = queued_owned s.processes s.queues.locks locks (λ k. ap (option_map but_queued) (same k)) None kept.owned;
      below = queued_below s.processes s.queues.locks locks (λ k. ap (option_map but_queued) (same k)) None kept.below;
      named = queued_named s.processes s.queues.locks locks (λ k. ap (option_map but_queued) (same k)) kept.named;
      processes_linked = kept.processes_linked;
      processes_ordered = kept.processes_ordered;
      processes = kept.processes;
      marked = kept.marked;
      living = kept.living;
    }

-- more room for resources does so too
pub resource_room_kept : (s : Inside) → IsKept s → (resources : Slab Resource) (index : KeyIndex)
    → resources ≡ record s.queues.resources { capacity = resources.capacity } → IsSame s.resource_index index
    → IsKept (record s { queues = record s.queues { resources = resources }; resource_index = index })
resource_room_kept s kept resources index is finds =
    let same : (r : ℕ) → get resources r ≡ get s.queues.resources r = λ r. ap (λ x. get x r) is in
    let lists = reserved_lists s.queues resources same in
    record {
      placed = resources_placed s.queues resources kept.placed lists;
      tallied = resources_tallied s.queues resources kept.placed lists (λ r. ap tally_in (same r)) kept.tallied;
      armed = λ which. armed_resources which s.queues resources (λ r. ap (armed_list_in which) (same r))
          (resources_handles s.queues resources kept.placed lists) (kept.armed which);
      wait_list = kept.wait_list;
      linked = same-linked order_links s.queues.resources resources s.order kept.linked (λ r _. same r);
      ordered = λ r there. rw
          (same-handles order_links s.queues.resources resources s.order kept.linked (λ x _. same x))
          (kept.ordered r (rw (same r) at there));
      locks = kept.locks;
      resources = index_same (hash_key s.keys) s.resource_index index (hashed_at s.queues) (hashed_at (record s.queues { resources = resources })) finds
          (λ r. ap (option_map hashed_in) (same r)) kept.resources;
      owned = kept.owned;
      below = kept.below;
      named = kept.named;
      processes_linked = kept.processes_linked;
      processes_ordered = kept.processes_ordered;
      processes = kept.processes;
      marked = kept.marked;
      living = kept.living;
    }

-- a caller sees the room that was made in a slab
pub has_slot_made : {A E T : Type 0} (r : Result A E) (nodes : Slab T) (finds : List ℕ)
    → OnOk r (HasRoomFor nodes 1) → OnOk r (nodes.vacant_key ≤ LAST_HANDLE) → OnOk r (HasSlot (room_of nodes finds))
has_slot_made (Ok x) nodes finds slot handle =
    record { slot = room_slot nodes slot; handle = subst (λ k. k ≤ LAST_HANDLE) (sym (room_handle nodes)) handle }
has_slot_made (Err e) nodes finds slot handle = tt

-- and in an index too
pub has_reserved : {A E T : Type 0} (r : Result A E) (nodes : Slab T) (finds : List ℕ) (number : ℕ)
    → OnOk r (HasRoomFor nodes 1) → OnOk r (nodes.vacant_key ≤ LAST_HANDLE) → OnOk r (0 < spare_for finds number)
    → OnOk r (HasRoom number (room_of nodes finds))
has_reserved (Ok x) nodes finds number slot handle find =
    record { slot = record { slot = room_slot nodes slot; handle = subst (λ k. k ≤ LAST_HANDLE) (sym (room_handle nodes)) handle }; find = find }
has_reserved (Err e) nodes finds number slot handle find = tt
