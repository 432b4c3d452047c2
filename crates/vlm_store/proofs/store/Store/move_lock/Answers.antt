use Rattle.std.proofs.Common.{◌∙◌, ◌++◌, ◌∷◌, [], ap, refl, Some, sym}
use Rattle.vlm_collections.specs.Lists.{without}
use Rattle.vlm_records.specs.Shown.{but_in_wait_list, but_queued, but_queues, handles_at, named_row, rows}
use Rattle.vlm_records.proofs.PlacesOnLists.{last_noted, noted_as, there_through}
use Rattle.vlm_store.specs.Kept.{beside_shown}
use Rattle.vlm_store.specs.Records.{moving}
use Rattle.vlm_store.specs.Store.{tables}
use Rattle.vlm_store.proofs.KeptRecords.{faces_same, place_there}
use Rattle.vlm_store.proofs.Kinship.{kin_flags, kin_handles, kin_loose, kin_noted, kin_placed, kin_rows, loose_but, named_same, queued_processes}
use Rattle.vlm_store.proofs.Layouts.{lists_changed, moving-under_handle}
use Rattle.vlm_store.proofs.LivingProcesses.{is_sound, lock_there, stored_in_queue, stored_queued}
use Rattle.vlm_store.proofs.LocksChange.{kept_requeued, laid_out_kept, laid_out_kin, queued_through}
use Rattle.vlm_store.proofs.OrderOfMaking.{order_handles}
use Rattle.vlm_store.proofs.RoomShown.{queues_room}
use Rattle.vlm_store.proofs.WaitListed.{wait_list_kin, wait_list_moved}
use Rattle.vlm_store.proofs.store.Store.move_lock.Goals as goal

pub index-requires : goal.index-requires
index-requires c =
    let is = rw (← c.self.view_is) at c.requires.lock in
    rw c.slot-at.ensures (lock_there c.self.inside c.self.invariant c.args.lock is.0 is.1.0).0

pub leave_wait_list-requires-clause-noted : goal.leave_wait_list-requires-clause-noted
leave_wait_list-requires-clause-noted c =
    let is = rw (← c.self.view_is) at c.requires.lock in
    noted_as _ _ c.index.ensures
    (rw c.slot-at.ensures (stored_in_queue c.self.inside c.self.invariant c.args.lock is.0 is.1.0))
    ∙ ap Some (sym c.place-from.ensures)

pub move_to-requires-clause-laid_out : goal.move_to-requires-clause-laid_out
move_to-requires-clause-laid_out c =
    let locks = c.self.inside.queues.locks in
    laid_out_kin c.self.inside.queues c.leave_wait_list.new.locks
    (wait_list_kin locks c.leave_wait_list.new.locks c.leave_wait_list.ensures.rest) (laid_out_kept c.self.invariant)

pub move_to-requires-clause-present : goal.move_to-requires-clause-present
move_to-requires-clause-present c =
    let s = c.self.inside in
    let is = rw (← c.self.view_is) at c.requires.lock in
    there_through but_in_wait_list s.queues.locks c.leave_wait_list.new.locks c.leave_wait_list.ensures.rest c.slot-at.result
    (rw c.slot-at.ensures (lock_there s c.self.invariant c.args.lock is.0 is.1.0).0)

pub move_to-requires-clause-within : goal.move_to-requires-clause-within
move_to-requires-clause-within c =
    let is = rw (← c.self.view_is) at c.requires.lock in
    rw c.slot-at.ensures (lock_there c.self.inside c.self.invariant c.args.lock is.0 is.1.0).1

pub move_to-requires-clause-there : goal.move_to-requires-clause-there
move_to-requires-clause-there c =
    let s = c.self.inside in
    let kept = c.self.invariant in
    place_there s.queues s.order (beside_shown s) kept.placed kept.linked kept.ordered c.args.to (rw (← c.self.view_is) at c.requires.there)

pub move_to-requires-clause-named : goal.move_to-requires-clause-named
move_to-requires-clause-named c =
    let s = c.self.inside in
    let is = rw (← c.self.view_is) at c.requires.lock in
    ap named_row (kin_rows s.queues c.leave_wait_list.new.locks
    (wait_list_kin s.queues.locks c.leave_wait_list.new.locks c.leave_wait_list.ensures.rest) c.slot-at.result)
    ∙ rw c.slot-at.ensures (ap named_row (lock_there s c.self.invariant c.args.lock is.0 is.1.0).2 ∙ named_same is.0 c.args.row.now is.1.1)

pub move_to-requires-clause-in_queue : goal.move_to-requires-clause-in_queue
move_to-requires-clause-in_queue c =
    let s = c.self.inside in
    let is = rw (← c.self.view_is) at c.requires.lock in
    let kin = wait_list_kin s.queues.locks c.leave_wait_list.new.locks c.leave_wait_list.ensures.rest in
    rw (kin_noted s.queues c.leave_wait_list.new.locks kin c.slot-at.result) (rw c.slot-at.ensures (stored_in_queue s c.self.invariant c.args.lock is.0 is.1.0))

pub join_wait_list-requires-clause-wait_list : goal.join_wait_list-requires-clause-wait_list
join_wait_list-requires-clause-wait_list c =
    let s = c.self.inside in
    let moved = c.move_to.ensures in
    wait_list_moved (record s.queues { locks = c.leave_wait_list.new.locks }) c.move_to.new.self c.leave_wait_list.new.wait_list c.slot-at.result c.args.to
    (kin_placed s.queues c.leave_wait_list.new.locks
    (wait_list_kin s.queues.locks c.leave_wait_list.new.locks c.leave_wait_list.ensures.rest) c.self.invariant.placed)
    moved.laid_out.placed moved.wait_list moved.loose moved.here moved.elsewhere c.leave_wait_list.ensures.wait_list

pub join_wait_list-requires-clause-noted : goal.join_wait_list-requires-clause-noted
join_wait_list-requires-clause-noted c = last_noted c.move_to.new.self c.slot-at.result c.args.to _ c.move_to.ensures.laid_out.placed c.move_to.ensures.here

pub join_wait_list-requires-clause-present : goal.join_wait_list-requires-clause-present
join_wait_list-requires-clause-present c =
    let s = c.self.inside in
    let is = rw (← c.self.view_is) at c.requires.lock in
    there_through but_queued c.leave_wait_list.new.locks c.move_to.new.self.locks c.move_to.ensures.kept.kin c.slot-at.result
    (there_through but_in_wait_list s.queues.locks c.leave_wait_list.new.locks c.leave_wait_list.ensures.rest c.slot-at.result
    (rw c.slot-at.ensures (lock_there s c.self.invariant c.args.lock is.0 is.1.0).0))

pub join_wait_list-requires-clause-within : goal.join_wait_list-requires-clause-within
join_wait_list-requires-clause-within c =
    let is = rw (← c.self.view_is) at c.requires.lock in
    rw c.slot-at.ensures (lock_there c.self.inside c.self.invariant c.args.lock is.0 is.1.0).1

pub invariant_of-self : goal.invariant_of-self
invariant_of-self c =
    let q2 = c.move_to.new.self in
    let locks3 = c.join_wait_list.new.locks in
    let moved = c.move_to.ensures in
    kept_requeued c.self.invariant (record q2 { locks = locks3 }) c.join_wait_list.new.wait_list moved.kept.rest
    (laid_out_kin q2 locks3 (wait_list_kin q2.locks locks3 c.join_wait_list.ensures.rest) moved.laid_out) c.join_wait_list.ensures.wait_list
    (queued_through c.self.inside.queues.locks c.leave_wait_list.new.locks q2.locks locks3
    c.leave_wait_list.ensures.rest moved.kept.kin c.join_wait_list.ensures.rest)

pub returns-clause-moved : goal.returns-clause-moved
returns-clause-moved c =
    let s = c.self.inside in
    let kept = c.self.invariant in
    let q2 = c.move_to.new.self in
    let locks1 = c.leave_wait_list.new.locks in
    let locks3 = c.join_wait_list.new.locks in
    let q3 = record q2 { locks = locks3 } in
    let rest = c.move_to.ensures.kept.rest in
    let moved = rw c.slot-at.ensures at c.move_to.ensures in
    let kin1 = wait_list_kin s.queues.locks locks1 c.leave_wait_list.ensures.rest in
    let kin3 = wait_list_kin q2.locks locks3 c.join_wait_list.ensures.rest in
    let handles1 = kin_handles s.queues locks1 kin1 kept.placed in
    let handles3 = kin_handles q2 locks3 kin3 moved.laid_out.placed in
    let rows1 = kin_rows s.queues locks1 kin1 in
    let rows3 = kin_rows q2 locks3 kin3 in
    let queued = queued_through s.queues.locks locks1 q2.locks locks3 c.leave_wait_list.ensures.rest moved.kept.kin c.join_wait_list.ensures.rest in
    let is = rw (← c.self.view_is) at c.requires.lock in
    rw (← c.self.view_is)
    (lists_changed (tables s.queues s.order (beside_shown s))
    (tables q3 s.order (beside_shown (record s { queues = q3; wait_list = c.join_wait_list.new.wait_list })))
    (moving c.args.to (record { at = c.args.lock; row = c.args.row.now }))
    (faces_same s.queues.resources q3.resources rest)
    (moving-under_handle (rows s.queues) (rows q3) (handles_at s.queues)
    (handles_at q3) c.args.lock c.args.row.now c.args.to (rows3 c.args.lock ∙ moved.row) (λ k differs. rows3 k
    ∙ moved.rows k differs ∙ rows1 k)
    (handles3 c.args.to ∙ moved.here ∙ ap (λ ks. without c.args.lock ks ++ c.args.lock ∷ []) (handles1 c.args.to))
    (λ p differs. handles3 p ∙ moved.elsewhere p differs ∙ ap (without c.args.lock) (handles1 p)))
    (order_handles but_queues (λ r. refl) s.queues.resources q3.resources rest s.order kept.linked)
    (queued_processes s.processes s.queues.locks locks3 queued s.process_order
    (λ k.
    kin_loose q2 locks3 kin3 k
    ∙ loose_but locks1 q2.locks c.args.lock moved.loose (kin_flags s.queues locks1 kin1 c.args.lock ∙ stored_queued s kept c.args.lock is.0 is.1.0) moved.rows k
    ∙ kin_loose s.queues locks1 kin1 k) kept.owned kept.below)
    (queues_room s q3 (c.join_wait_list.ensures.room ∙ c.move_to.ensures.kept.locks_room
    ∙ c.leave_wait_list.ensures.room) c.move_to.ensures.kept.resources_room) refl)

pub returns-clause-sound : goal.returns-clause-sound
returns-clause-sound c = record { before = rw (← c.self.view_is) (is_sound c.self.inside c.self.invariant); after = is_sound _ (invariant_of-self c) }
