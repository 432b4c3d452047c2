use Rattle.vlm_store.proofs.LivingProcesses.{is_sound, loose_lock_there}
use Rattle.vlm_collections.specs.Parts.{handle_in}
use Rattle.vlm_store.specs.Index.{hash_key}
use Rattle.vlm_store.proofs.RoomShown.{queues_room, room_shown}
use Rattle.std.proofs.Common.{◌≡◌, ◌∙◌, None, ap, map, ℕ, refl, sym}
use Rattle.vlm_store.specs.HashedKeys.{hashed_at}
use Rattle.vlm_store.proofs.HashedKeys.{labels_same}
use Rattle.vlm_records.specs.Shown.{but_queued, but_queues, handles_at, rows}
use Rattle.vlm_records.proofs.Arming.{armed_kin}
use Rattle.vlm_records.proofs.PlacesOnLists.{last_noted, loose_unlisted, same_then, there_through}
use Rattle.vlm_store.specs.Store.{lkid_at, records_of, tables}
use Rattle.vlm_store.specs.Records.{joining, process_with_loose, with_lists}
use Rattle.vlm_store.proofs.Indexing.{Indexes-same}
use Rattle.vlm_store.proofs.KeptRecords.{faces_same, place_there}
use Rattle.vlm_store.proofs.Layouts.{joining-under_handle, lists_changed_beside}
use Rattle.vlm_store.proofs.WaitListed.{wait_list_kin, wait_list_pushed, wait_list_queued}
use Rattle.vlm_store.specs.Kept.{beside_shown}
use Rattle.vlm_store.specs.Holdings.{holding}
use Rattle.vlm_store.proofs.Kinship.{kin_handles, kin_loose, kin_placed, kin_rows, kin_tallied, loose_still}
use Rattle.vlm_store.proofs.Kinship.{noted_not_loose, queued_below, queued_below_handles, queued_lkids, queued_loose}
use Rattle.vlm_store.proofs.Kinship.{queued_named, queued_own_handles, queued_owned, records_processes}
use Rattle.vlm_store.proofs.Members.{lock_loosened}
use Rattle.vlm_store.proofs.store.Store.push_back.Goals as goal
use Rattle.vlm_store.proofs.OrderOfMaking.{keys_same, order_handles, order_linked, order_whole}

pub push_back-requires-clause-laid_out : goal.push_back-requires-clause-laid_out
push_back-requires-clause-laid_out c =
    let kept = c.self.invariant in
    record { placed = kept.placed; tallied = kept.tallied; armed = kept.armed }

pub push_back-requires-clause-loose : goal.push_back-requires-clause-loose
push_back-requires-clause-loose c =
    let loose = rw (← c.self.view_is) at c.requires.loose in
    rw c.slot-at.ensures (loose_lock_there c.self.inside c.self.invariant c.args.lock loose.0 loose.1).3

pub push_back-requires-clause-within : goal.push_back-requires-clause-within
push_back-requires-clause-within c =
    let loose = rw (← c.self.view_is) at c.requires.loose in
    rw c.slot-at.ensures (loose_lock_there c.self.inside c.self.invariant c.args.lock loose.0 loose.1).1

pub push_back-requires-clause-there : goal.push_back-requires-clause-there
push_back-requires-clause-there c =
    let s = c.self.inside in
    place_there s.queues s.order
    (beside_shown s) c.self.invariant.placed c.self.invariant.linked c.self.invariant.ordered c.args.to
    (rw (← c.self.view_is) at c.requires.there)

pub join_wait_list-requires-clause-wait_list : goal.join_wait_list-requires-clause-wait_list
join_wait_list-requires-clause-wait_list c =
    let s = c.self.inside in
    let kept = c.self.invariant in
    let loose = rw (← c.self.view_is) at c.requires.loose in
    let moved = c.push_back.ensures in
    wait_list_pushed s.queues c.push_back.new.self s.wait_list c.slot-at.result c.args.to kept.placed
    moved.laid_out.placed (rw c.slot-at.ensures (loose_lock_there s kept c.args.lock loose.0 loose.1).3)
    moved.wait_list moved.others moved.here moved.elsewhere kept.wait_list

pub join_wait_list-requires-clause-noted : goal.join_wait_list-requires-clause-noted
join_wait_list-requires-clause-noted c =
    last_noted c.push_back.new.self c.slot-at.result c.args.to _ c.push_back.ensures.laid_out.placed
    c.push_back.ensures.here

pub join_wait_list-requires-clause-present : goal.join_wait_list-requires-clause-present
join_wait_list-requires-clause-present c =
    let s = c.self.inside in
    let loose = rw (← c.self.view_is) at c.requires.loose in
    there_through but_queued s.queues.locks c.push_back.new.self.locks c.push_back.ensures.kept.kin c.slot-at.result
    (rw c.slot-at.ensures (loose_lock_there s c.self.invariant c.args.lock loose.0 loose.1).0)

pub join_wait_list-requires-clause-within : goal.join_wait_list-requires-clause-within
join_wait_list-requires-clause-within c =
    let loose = rw (← c.self.view_is) at c.requires.loose in
    rw c.slot-at.ensures (loose_lock_there c.self.inside c.self.invariant c.args.lock loose.0 loose.1).1

pub invariant_of-self : goal.invariant_of-self
invariant_of-self c =
    let s = c.self.inside in
    let kept = c.self.invariant in
    let q2 = c.push_back.new.self in
    let locks3 = c.join_wait_list.new.locks in
    let q3 = record q2 { locks = locks3 } in
    let moved = c.push_back.ensures in
    let rest = moved.kept.rest in
    let kin3 = wait_list_kin q2.locks locks3 c.join_wait_list.ensures.rest in
    let queued = same_then but_queued s.queues.locks q2.locks locks3 moved.kept.kin (wait_list_queued q2.locks locks3 c.join_wait_list.ensures.rest) in
    record {
      placed = kin_placed q2 locks3 kin3 moved.laid_out.placed;
      tallied = kin_tallied q2 locks3 kin3 moved.laid_out.placed moved.laid_out.tallied;
      armed = λ which. armed_kin which q2 locks3 kin3 (kin_handles q2 locks3 kin3 moved.laid_out.placed) (kin_rows q2 locks3 kin3) (moved.laid_out.armed which);
      wait_list = c.join_wait_list.ensures.wait_list;
      linked = order_linked but_queues (λ r. refl) s.queues.resources q3.resources rest s.order kept.linked;
      ordered = order_whole but_queues (λ r. refl) s.queues.resources q3.resources rest s.order kept.linked kept.ordered;
      locks = Indexes-same (handle_in s.lock_index) (handle_in s.lock_index) (lkid_at s.queues) (lkid_at q3) (λ k. refl)
          (queued_lkids s.processes s.queues.locks locks3 queued) kept.locks;
      resources = labels_same (hash_key s.keys) s.resource_index (hashed_at s.queues) (hashed_at q3)
          (keys_same but_queues (λ r. refl) s.queues.resources q3.resources rest) kept.resources;
      owned = queued_owned s.processes s.queues.locks locks3 queued None kept.owned;
      below = queued_below s.processes s.queues.locks locks3 queued None kept.below;
      named = queued_named s.processes s.queues.locks locks3 queued kept.named;
      processes_linked = kept.processes_linked;
      processes_ordered = kept.processes_ordered;
      processes = kept.processes;
      marked = kept.marked;
      living = kept.living;
    }

pub returns-clause-pushed : goal.returns-clause-pushed
returns-clause-pushed c row is_loose =
    let s = c.self.inside in
    let kept = c.self.invariant in
    let q2 = c.push_back.new.self in
    let locks3 = c.join_wait_list.new.locks in
    let q3 = record q2 { locks = locks3 } in
    let moved = rw c.slot-at.ensures at c.push_back.ensures in
    let rest = moved.kept.rest in
    let there = loose_lock_there s kept c.args.lock row (rw (← c.self.view_is) at is_loose) in
    let kin3 = wait_list_kin q2.locks locks3 c.join_wait_list.ensures.rest in
    let queued = same_then but_queued s.queues.locks q2.locks locks3 moved.kept.kin (wait_list_queued q2.locks locks3 c.join_wait_list.ensures.rest) in
    let rows2 : (k : ℕ) → rows q3 k ≡ rows s.queues k = λ k. kin_rows q2 locks3 kin3 k ∙ moved.rows k in
    let handles3 = kin_handles q2 locks3 kin3 moved.laid_out.placed in
    let change = joining c.args.to (record { at = c.args.lock; row = row }) in
    let old = tables s.queues s.order (beside_shown s) in
    let s' = record s { queues = q3; wait_list = c.join_wait_list.new.wait_list } in
    let new = tables q3 s.order (beside_shown s') in
    let noted_so = last_noted q2 c.args.lock c.args.to _ moved.laid_out.placed moved.here in
    rw (← c.self.view_is)
    (lists_changed_beside old new change (faces_same s.queues.resources q3.resources rest)
    (joining-under_handle (rows s.queues) (rows q3) (handles_at s.queues) (handles_at q3) c.args.lock row c.args.to
    (rows2 c.args.lock ∙ there.2) (λ k differs. rows2 k)
    (loose_unlisted s.queues c.args.lock kept.placed there.3) (handles3 c.args.to ∙ moved.here) (λ p differs. handles3 p ∙ moved.elsewhere p differs))
    (order_handles but_queues (λ r. refl) s.queues.resources q3.resources rest s.order kept.linked) refl
    ∙ ap (λ ps. record (with_lists change (records_of old)) { processes = ps; room = (records_of new).room })
    (lock_loosened (holding s.processes s.queues.locks s.process_order) (holding s.processes locks3 s.process_order) c.args.lock None (λ p. refl) refl
    (queued_own_handles s.processes s.queues.locks locks3 queued None kept.owned)
    (queued_below_handles s.processes s.queues.locks locks3 queued None kept.below)
    (kin_loose q2 locks3 kin3 c.args.lock ∙ queued_loose _ (noted_not_loose _ c.args.to noted_so))
    (λ k differs. kin_loose q2 locks3 kin3 k ∙ loose_still _ _ (moved.others k differs) (λ loose. moved.rows k))
    ∙ ap (map (process_with_loose c.args.lock None)) (sym (records_processes old)))
    ∙ ap (λ r. record (with_lists change (records_of old)) { processes = map (process_with_loose c.args.lock None) (records_of old).processes; room = r })
    (room_shown (λ a b. b ≡ a) old new (queues_room s q3 (c.join_wait_list.ensures.room ∙ moved.kept.locks_room) moved.kept.resources_room)))

pub returns-clause-sound : goal.returns-clause-sound
returns-clause-sound c = record { before = rw (← c.self.view_is) (is_sound c.self.inside c.self.invariant); after = is_sound _ (invariant_of-self c) }
