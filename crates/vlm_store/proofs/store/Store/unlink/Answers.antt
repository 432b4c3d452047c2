use Rattle.vlm_store.proofs.LivingProcesses.{is_sound, stored_in_queue}
use Rattle.vlm_collections.specs.Parts.{handle_in}
use Rattle.vlm_store.specs.Index.{hash_key}
use Rattle.vlm_store.proofs.RoomShown.{queues_room, room_shown}
use Rattle.std.proofs.Common.{◌≡◌, ◌∙◌, None, Some, ap, map, ℕ, refl, sym}
use Rattle.vlm_collections.specs.Lists.{without}
use Rattle.vlm_store.specs.HashedKeys.{hashed_at}
use Rattle.vlm_store.proofs.HashedKeys.{labels_same}
use Rattle.vlm_records.specs.Shown.{but_queued, but_queues, handles_at, rows}
use Rattle.vlm_records.proofs.Arming.{armed_kin}
use Rattle.vlm_records.proofs.PlacesOnLists.{loose_unnoted, noted_as, same_then, there_through}
use Rattle.vlm_records.specs.Shown.{but_in_wait_list}
use Rattle.vlm_store.specs.Store.{lkid_at, records_of, tables}
use Rattle.vlm_store.specs.Records.{leaving, process_with_loose, with_lists}
use Rattle.vlm_store.proofs.Indexing.{Indexes-same}
use Rattle.vlm_store.proofs.KeptRecords.{faces_same, stored_there}
use Rattle.vlm_store.proofs.Layouts.{leaving-under_handle, lists_changed_beside}
use Rattle.vlm_store.proofs.WaitListed.{wait_list_at, wait_list_kin, wait_list_noted, wait_list_queued, wait_list_removed}
use Rattle.vlm_store.specs.Kept.{beside_shown}
use Rattle.vlm_store.specs.Holdings.{holding}
use Rattle.vlm_store.proofs.Kinship.{kin_handles, kin_loose, kin_noted, kin_placed, kin_rows, kin_tallied, loose_still}
use Rattle.vlm_store.proofs.Kinship.{loose_there, queued_below, queued_below_handles, queued_lkids, queued_named}
use Rattle.vlm_store.proofs.Kinship.{queued_own_handles, queued_owned, records_processes}
use Rattle.vlm_store.proofs.Members.{lock_loosened}
use Rattle.vlm_store.proofs.store.Store.unlink.Goals as goal
use Rattle.vlm_store.proofs.OrderOfMaking.{keys_same, order_handles, order_linked, order_whole}

pub index-requires : goal.index-requires
index-requires c =
    let s = c.self.inside in
    let stored = rw (← c.self.view_is) at c.requires in
    rw c.slot-at.ensures (stored_there s.queues s.order (beside_shown s) c.self.invariant.placed c.args.lock stored.0 stored.1).0

pub leave_wait_list-requires-clause-noted : goal.leave_wait_list-requires-clause-noted
leave_wait_list-requires-clause-noted c =
    let stored = rw (← c.self.view_is) at c.requires in
    noted_as _ _ c.index.ensures
    (rw c.slot-at.ensures (stored_in_queue c.self.inside c.self.invariant c.args.lock stored.0 stored.1))
    ∙ ap Some (sym c.place-from.ensures)

pub unlink-requires-clause-laid_out : goal.unlink-requires-clause-laid_out
unlink-requires-clause-laid_out c = record {
  placed =
      let s = c.self.inside in
      kin_placed s.queues c.leave_wait_list.new.locks
      (wait_list_kin s.queues.locks c.leave_wait_list.new.locks c.leave_wait_list.ensures.rest)
      c.self.invariant.placed;
  tallied =
      let s = c.self.inside in
      kin_tallied s.queues c.leave_wait_list.new.locks
      (wait_list_kin s.queues.locks c.leave_wait_list.new.locks c.leave_wait_list.ensures.rest)
      c.self.invariant.placed c.self.invariant.tallied;
  armed = λ which.
      let s = c.self.inside in
      let kin = wait_list_kin s.queues.locks c.leave_wait_list.new.locks c.leave_wait_list.ensures.rest in
      armed_kin which s.queues c.leave_wait_list.new.locks kin
      (kin_handles s.queues c.leave_wait_list.new.locks kin c.self.invariant.placed)
      (kin_rows s.queues c.leave_wait_list.new.locks kin) (c.self.invariant.armed which);
}

pub unlink-requires-clause-present : goal.unlink-requires-clause-present
unlink-requires-clause-present c =
    let s = c.self.inside in
    let stored = rw (← c.self.view_is) at c.requires in
    there_through but_in_wait_list s.queues.locks c.leave_wait_list.new.locks c.leave_wait_list.ensures.rest c.slot-at.result
    (rw c.slot-at.ensures (stored_there s.queues s.order (beside_shown s) c.self.invariant.placed c.args.lock stored.0 stored.1).0)

pub unlink-requires-clause-in_queue : goal.unlink-requires-clause-in_queue
unlink-requires-clause-in_queue c =
    let s = c.self.inside in
    let stored = rw (← c.self.view_is) at c.requires in
    let kin = wait_list_kin s.queues.locks c.leave_wait_list.new.locks c.leave_wait_list.ensures.rest in
    rw (kin_noted s.queues c.leave_wait_list.new.locks kin c.slot-at.result)
    (rw c.slot-at.ensures (stored_in_queue s c.self.invariant c.args.lock stored.0 stored.1))

pub invariant_of-self : goal.invariant_of-self
invariant_of-self c =
    let s = c.self.inside in
    let kept = c.self.invariant in
    let q' = c.unlink.new.self in
    let locks1 = c.leave_wait_list.new.locks in
    let kin1 = wait_list_kin s.queues.locks locks1 c.leave_wait_list.ensures.rest in
    let moved = c.unlink.ensures in
    let rest = moved.kept.rest in
    let queued = same_then but_queued s.queues.locks locks1 q'.locks (wait_list_queued s.queues.locks locks1 c.leave_wait_list.ensures.rest) moved.kept.kin in
    record {
      placed = moved.laid_out.placed;
      tallied = moved.laid_out.tallied;
      armed = moved.laid_out.armed;
      wait_list =
          wait_list_removed (record s.queues { locks = locks1 }) q' c.leave_wait_list.new.wait_list c.slot-at.result
          (kin_placed s.queues locks1 kin1 kept.placed) moved.laid_out.placed
          (wait_list_noted _ ∙ ap wait_list_at (loose_unnoted _ moved.here))
          (λ k differs. moved.wait_list k) moved.others moved.handles c.leave_wait_list.ensures.wait_list;
      linked = order_linked but_queues (λ r. refl) s.queues.resources q'.resources rest s.order kept.linked;
      ordered = order_whole but_queues (λ r. refl) s.queues.resources q'.resources rest s.order kept.linked kept.ordered;
      locks = Indexes-same (handle_in s.lock_index) (handle_in s.lock_index) (lkid_at s.queues) (lkid_at q') (λ k. refl)
          (queued_lkids s.processes s.queues.locks q'.locks queued) kept.locks;
      resources = labels_same (hash_key s.keys) s.resource_index (hashed_at s.queues) (hashed_at q')
          (keys_same but_queues (λ r. refl) s.queues.resources q'.resources rest) kept.resources;
      owned = queued_owned s.processes s.queues.locks q'.locks queued None kept.owned;
      below = queued_below s.processes s.queues.locks q'.locks queued None kept.below;
      named = queued_named s.processes s.queues.locks q'.locks queued kept.named;
      processes_linked = kept.processes_linked;
      processes_ordered = kept.processes_ordered;
      processes = kept.processes;
      marked = kept.marked;
      living = kept.living;
    }

pub returns-clause-unlinked : goal.returns-clause-unlinked
returns-clause-unlinked c row is_stored =
    let s = c.self.inside in
    let kept = c.self.invariant in
    let q' = c.unlink.new.self in
    let locks1 = c.leave_wait_list.new.locks in
    let kin1 = wait_list_kin s.queues.locks locks1 c.leave_wait_list.ensures.rest in
    let moved = rw c.slot-at.ensures at c.unlink.ensures in
    let rest = moved.kept.rest in
    let stored = rw (← c.self.view_is) at is_stored in
    let was = (stored_there s.queues s.order (beside_shown s) kept.placed c.args.lock row stored).2 in
    let queued = same_then but_queued s.queues.locks locks1 q'.locks (wait_list_queued s.queues.locks locks1 c.leave_wait_list.ensures.rest) moved.kept.kin in
    let rows2 : (k : ℕ) → rows q' k ≡ rows s.queues k = λ k. moved.rows k ∙ kin_rows s.queues locks1 kin1 k in
    let old = tables s.queues s.order (beside_shown s) in
    let s' = record s { queues = q'; wait_list = c.leave_wait_list.new.wait_list } in
    let new = tables q' s.order (beside_shown s') in
    rw (← c.self.view_is)
    (lists_changed_beside old new (leaving c.args.lock) (faces_same s.queues.resources q'.resources rest)
    (leaving-under_handle (rows s.queues) (rows q') (handles_at s.queues) (handles_at q') c.args.lock (λ k differs. rows2 k)
    (λ p. moved.handles p ∙ ap (without c.args.lock) (kin_handles s.queues locks1 kin1 kept.placed p)))
    (order_handles but_queues (λ r. refl) s.queues.resources q'.resources rest s.order kept.linked) refl
    ∙ ap (λ ps. record (with_lists (leaving c.args.lock) (records_of old)) { processes = ps; room = (records_of new).room })
    (lock_loosened (holding s.processes s.queues.locks s.process_order) (holding s.processes q'.locks s.process_order) c.args.lock (Some row) (λ p. refl) refl
    (queued_own_handles s.processes s.queues.locks q'.locks queued None kept.owned)
    (queued_below_handles s.processes s.queues.locks q'.locks queued None kept.below)
    (loose_there _ moved.here ∙ ap Some (rows2 c.args.lock ∙ was))
    (λ k differs. loose_still _ _ (moved.others k differs) (λ loose. moved.rows k) ∙ kin_loose s.queues locks1 kin1 k)
    ∙ ap (map (process_with_loose c.args.lock (Some row))) (sym (records_processes old)))
    ∙ ap (λ r. record (with_lists (leaving c.args.lock) (records_of old)) {
      processes =
          map (process_with_loose c.args.lock (Some row)) (records_of old).processes;
      room = r;
    })
    (room_shown (λ a b. b ≡ a) old new (queues_room s q' (moved.kept.locks_room ∙ c.leave_wait_list.ensures.room) moved.kept.resources_room)))

pub returns-clause-sound : goal.returns-clause-sound
returns-clause-sound c = record { before = rw (← c.self.view_is) (is_sound c.self.inside c.self.invariant); after = is_sound _ (invariant_of-self c) }
