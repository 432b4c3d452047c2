use Rattle.vlm_store.proofs.LivingProcesses.{is_sound}
use Rattle.vlm_collections.specs.Parts.{handle_in, spares_of}
use Rattle.vlm_store.specs.Index.{hash_key}
use Rattle.vlm_store.proofs.WaitListed.{wait_list_same}
use Rattle.vlm_store.specs.Records.{IsGivenBack, without_resource}
use Rattle.vlm_store.proofs.RoomShown.{room_shown, is_given_back, rooms_are, room_of_same}
use Rattle.std.proofs.Common.{None, ◌∙◌, ap, sym, refl, ◌≡◌}
use Rattle.std.specs.Option.{option_map}
use Rattle.slab.specs.Slab.{get as slot_of, get}
use Rattle.vlm_records.specs.declared.handles.Place.TheVariants.{Queued}
use Rattle.vlm_store.specs.HashedKeys.{hashed_at, hashed_in}
use Rattle.vlm_store.proofs.HashedKeys.{hashed_by_face, hashed_removed}
use Rattle.vlm_records.specs.Shown.{handles_at, lkid_of, order_links, row_in, rows, room_in, but_queued, loose_in}
use Rattle.vlm_store.specs.Store.{under_handle, lkid_at, tables}
use Rattle.vlm_store.proofs.Indexing.{Indexes-same}
use Rattle.vlm_store.proofs.Layouts.{HasResource-order, locks_at-seen, resource_removed}
use Rattle.vlm_records.proofs.Making.{face_by_face, map-nil, there_by_face, whole_left}
use Rattle.vlm_store.specs.Kept.{beside_shown, records_shown}
use Rattle.vlm_store.proofs.Kinship.{queued_below, queued_named, queued_owned, queued_processes}
use Rattle.vlm_records.proofs.PlacesOnLists.{same_eq}
use Rattle.vlm_store.specs.KeyIndexes.{spares_in}
use Rattle.vlm_store.proofs.store.Store.remove_resource.Goals as goal

pub index-requires : goal.index-requires
index-requires c =
    let s = c.self.inside in
    rw c.slot.ensures (c.self.invariant.linked.present c.args.res
    (HasResource-order (tables s.queues s.order (beside_shown s)) c.args.res
    (rw (← c.self.view_is) at c.requires.there)))

pub remove_resource-requires-clause-idle : goal.remove_resource-requires-clause-idle
remove_resource-requires-clause-idle c queue =
    let s = c.self.inside in
    let l = tables s.queues s.order (beside_shown s) in
    let seen = HasResource-order l c.args.res (rw (← c.self.view_is) at c.requires.there) in
    rw c.slot-2.ensures
    (map-nil (under_handle (rows s.queues)) (handles_at s.queues (Queued c.args.res queue))
    (sym (locks_at-seen l (Queued c.args.res queue) seen) ∙ (rw (← c.self.view_is) at (c.requires.idle queue))))

pub invariant_of-self : goal.invariant_of-self
invariant_of-self c =
    let s = c.self.inside in
    let kept = c.self.invariant in
    let q' = c.remove_resource.new.self in
    let gone = rw c.slot-2.ensures at c.remove_resource.ensures in
    record {
      placed = gone.laid_out.placed;
      tallied = gone.laid_out.tallied;
      armed = gone.laid_out.armed;
      wait_list = wait_list_same s.queues.locks q'.locks s.wait_list (λ k. ap (λ l. slot_of l k) gone.locks) kept.wait_list;
      linked = gone.linked;
      ordered = whole_left order_links s.queues.resources q'.resources s.order c.remove_resource.new.order c.args.res kept.ordered gone.order gone.gone
          (λ r differs. there_by_face (slot_of q'.resources r) (slot_of s.queues.resources r) (gone.faces r differs));
      locks = Indexes-same (handle_in s.lock_index) (handle_in s.lock_index) (lkid_at s.queues) (lkid_at q') (λ k. refl)
          (λ x. ap (λ l. option_map lkid_of (slot_of l x)) gone.locks) kept.locks;
      resources = hashed_removed (hash_key s.keys) s.resource_index c.remove.new.self (hashed_at s.queues)
          (hashed_at q') c.args.res (hashed_in c.index.result.now)
          (λ r differs. hashed_by_face (slot_of q'.resources r) (slot_of s.queues.resources r) (gone.faces r differs))
          kept.resources c.remove.ensures.leaves (ap (option_map hashed_in) (rw c.slot.ensures at c.index.ensures)) (ap (option_map hashed_in) gone.gone);
      owned = queued_owned s.processes s.queues.locks q'.locks (same_eq but_queued s.queues.locks q'.locks gone.locks) None kept.owned;
      below = queued_below s.processes s.queues.locks q'.locks (same_eq but_queued s.queues.locks q'.locks gone.locks) None kept.below;
      named = queued_named s.processes s.queues.locks q'.locks (same_eq but_queued s.queues.locks q'.locks gone.locks) kept.named;
      processes_linked = kept.processes_linked;
      processes_ordered = kept.processes_ordered;
      processes = kept.processes;
      marked = kept.marked;
      living = kept.living;
    }

pub returns-clause-removed : goal.returns-clause-removed
returns-clause-removed c =
    let s = c.self.inside in
    let q' = c.remove_resource.new.self in
    let gone = rw c.slot-2.ensures at c.remove_resource.ensures in
    let s' = record s { queues = q'; order = c.remove_resource.new.order; resource_index = c.remove.new.self } in
    rw (← c.self.view_is)
    (resource_removed (tables s.queues s.order (beside_shown s)) (tables q' s'.order (beside_shown s')) c.args.res
    (λ k. ap (λ l. row_in (slot_of l k)) gone.locks) gone.handles
    (λ r differs. face_by_face (slot_of q'.resources r) (slot_of s.queues.resources r) (gone.faces r differs)) gone.order
    (queued_processes s.processes s.queues.locks q'.locks
    (same_eq but_queued s.queues.locks q'.locks gone.locks) s.process_order
    (λ k. ap (λ x. loose_in (get x k)) gone.locks) c.self.invariant.owned c.self.invariant.below) refl
    ∙ ap (λ r. record (records_shown s) { resources = without_resource c.args.res (records_shown s).resources; room = r })
    (room_shown (λ a b. b ≡ record a { resources = b.resources }) (tables s.queues s.order (beside_shown s)) (tables q' s'.order (beside_shown s'))
    (rooms_are _ _ _ _ _ _ (room_of_same s.queues.locks q'.locks (spares_of s.lock_index) (ap room_in gone.locks)) refl refl)))

pub returns-clause-given_back : goal.returns-clause-given_back
returns-clause-given_back c =
    let s = c.self.inside in
    let q' = c.remove_resource.new.self in
    let gone = rw c.slot-2.ensures at c.remove_resource.ensures in
    let s' = record s { queues = q'; order = c.remove_resource.new.order; resource_index = c.remove.new.self } in
    rw (← c.self.view_is)
    (room_shown (λ a b. IsGivenBack a.resources b.resources) (tables s.queues s.order (beside_shown s)) (tables q' s'.order (beside_shown s'))
    (is_given_back s.queues.resources q'.resources c.args.res (spares_in s.resource_index) (spares_in c.remove.new.self) gone.given_back
    (c.self.invariant.linked.within c.args.res
    (HasResource-order (tables s.queues s.order (beside_shown s)) c.args.res
    (rw (← c.self.view_is) at c.requires.there))) c.remove.ensures.room))

pub returns-clause-sound : goal.returns-clause-sound
returns-clause-sound c = record { before = rw (← c.self.view_is) (is_sound c.self.inside c.self.invariant); after = is_sound _ (invariant_of-self c) }
