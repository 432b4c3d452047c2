use Rattle.vlm_store.proofs.LivingProcesses.{is_sound}
use Rattle.vlm_collections.specs.Parts.{handle_in}
use Rattle.vlm_store.specs.Index.{hash_key}
use Rattle.vlm_store.proofs.WaitListed.{wait_list_same}
use Rattle.vlm_store.proofs.RoomShown.{queues_room}
use Rattle.std.proofs.Common.{None, ap, refl}
use Rattle.std.specs.Option.{option_map}
use Rattle.slab.specs.Slab.{get as slot_of, get}
use Rattle.vlm_words.specs.declared.resources.Queue.TheVariants.{Granted, Conversion, Waiting}
use Rattle.vlm_records.specs.declared.handles.Place.TheVariants.{Queued}
use Rattle.vlm_store.specs.HashedKeys.{hashed_at}
use Rattle.vlm_store.proofs.HashedKeys.{labels_same}
use Rattle.vlm_store.specs.Records.{StoredResource}
use Rattle.vlm_records.specs.Shown.{but_value_block, face_in, lkid_of, room_in, row_in, but_queued, loose_in}
use Rattle.vlm_store.specs.Store.{lkid_at, tables}
use Rattle.vlm_store.proofs.Indexing.{Indexes-same}
use Rattle.vlm_store.proofs.Layouts.{HasResource-order, resource_written}
use Rattle.vlm_store.proofs.OrderOfMaking.{keys_same, order_handles, order_linked, order_whole}
use Rattle.vlm_store.specs.Kept.{beside_shown}
use Rattle.vlm_store.proofs.Kinship.{queued_below, queued_named, queued_owned, queued_processes}
use Rattle.vlm_records.proofs.PlacesOnLists.{same_eq}
use Rattle.vlm_store.proofs.store.Store.set_value_block.Goals as goal

pub set_value_block-requires-clause-there : goal.set_value_block-requires-clause-there
set_value_block-requires-clause-there c =
    let s = c.self.inside in
    rw c.slot.ensures (c.self.invariant.linked.present c.args.res
    (HasResource-order (tables s.queues s.order (beside_shown s)) c.args.res (rw (← c.self.view_is) at c.requires)))

pub invariant_of-self : goal.invariant_of-self
invariant_of-self c =
    let s = c.self.inside in
    let kept = c.self.invariant in
    let q' = c.set_value_block.new.self in
    let set = c.set_value_block.ensures in
    record {
      placed = set.laid_out.placed;
      tallied = set.laid_out.tallied;
      armed = set.laid_out.armed;
      wait_list = wait_list_same s.queues.locks q'.locks s.wait_list (λ k. ap (λ l. slot_of l k) set.locks) kept.wait_list;
      linked = order_linked but_value_block (λ r. refl) s.queues.resources q'.resources set.rest s.order kept.linked;
      ordered = order_whole but_value_block (λ r. refl) s.queues.resources q'.resources set.rest s.order kept.linked kept.ordered;
      locks = Indexes-same (handle_in s.lock_index) (handle_in s.lock_index) (lkid_at s.queues) (lkid_at q') (λ k. refl)
          (λ x. ap (λ l. option_map lkid_of (slot_of l x)) set.locks) kept.locks;
      resources = labels_same (hash_key s.keys) s.resource_index (hashed_at s.queues) (hashed_at q')
          (keys_same but_value_block (λ r. refl) s.queues.resources q'.resources set.rest) kept.resources;
      owned = queued_owned s.processes s.queues.locks q'.locks (same_eq but_queued s.queues.locks q'.locks set.locks) None kept.owned;
      below = queued_below s.processes s.queues.locks q'.locks (same_eq but_queued s.queues.locks q'.locks set.locks) None kept.below;
      named = queued_named s.processes s.queues.locks q'.locks (same_eq but_queued s.queues.locks q'.locks set.locks) kept.named;
      processes_linked = kept.processes_linked;
      processes_ordered = kept.processes_ordered;
      processes = kept.processes;
      marked = kept.marked;
      living = kept.living;
    }

pub returns-clause-written : goal.returns-clause-written
returns-clause-written c =
    let s = c.self.inside in
    let q' = c.set_value_block.new.self in
    let set = rw c.slot.ensures at c.set_value_block.ensures in
    rw (← c.self.view_is)
    (resource_written (tables s.queues s.order (beside_shown s))
    (tables q' s.order (beside_shown (record s { queues = q' }))) c.args.res
    (λ (r : StoredResource). record r { value_block = c.args.value_block })
    (λ k. ap (λ l. row_in (slot_of l k)) set.locks) set.handles
    (λ r differs. ap face_in (set.faces r differs))
    (order_handles but_value_block
    (λ r. refl) s.queues.resources q'.resources set.rest s.order c.self.invariant.linked)
    (λ lists. rw (set.face, lists (Queued c.args.res Granted), lists (Queued c.args.res Conversion), lists (Queued c.args.res Waiting)) refl)
    (queued_processes s.processes s.queues.locks q'.locks
    (same_eq but_queued s.queues.locks q'.locks set.locks) s.process_order
    (λ k. ap (λ x. loose_in (get x k)) set.locks) c.self.invariant.owned c.self.invariant.below)
    (queues_room s q' (ap room_in set.locks) set.resources_room) refl)

pub returns-clause-sound : goal.returns-clause-sound
returns-clause-sound c = record { before = rw (← c.self.view_is) (is_sound c.self.inside c.self.invariant); after = is_sound _ (invariant_of-self c) }
