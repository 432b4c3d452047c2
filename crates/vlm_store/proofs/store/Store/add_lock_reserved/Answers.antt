use Rattle.std.proofs.Common.{◌≡◌, ◌∙◌, ℕ, None, Some, IsSome, is_none, IsOk, ap, refl, arith, ◌+◌}
use Rattle.std.specs.Option.{option_map}
use Rattle.slab.specs.Slab.{get as slot_of}
use Rattle.vlm_collections.specs.Parts.{spares_of}
use Rattle.vlm_collections.proofs.Keeping.{relinked_same}
use Rattle.vlm_records.specs.declared.locks.Lock.{Lock}
use Rattle.vlm_records.specs.Kin.{parent_in, with_own_links}
use Rattle.vlm_records.specs.Shown.{lkid_of}
use Rattle.vlm_records.proofs.PlacesOnLists.{last_noted}
use Rattle.vlm_store.specs.Kept.{beside_shown}
use Rattle.vlm_store.specs.Records.{IsTaken}
use Rattle.vlm_store.specs.Store.{lkid_at, tables}
use Rattle.vlm_store.proofs.EnteringKeys.{written}
use Rattle.vlm_store.proofs.Indexing.{Indexes-added}
use Rattle.vlm_store.proofs.Joining.{IsNewIn, after_joining, joined_kept, joined_lkids, joined_records, linked_parent_there, new_owner, new_parent}
use Rattle.vlm_store.proofs.Joining.{new_below, new_lkid, new_owned, new_there, newly_in, other_lkids, owner_was_there}
use Rattle.vlm_store.proofs.KeptRecords.{place_there}
use Rattle.vlm_store.proofs.Kinship.{own_below}
use Rattle.vlm_store.proofs.LivingProcesses.{has_there, is_sound, no_lock_found, parent_within}
use Rattle.vlm_store.proofs.LocksChange.{laid_out_kept}
use Rattle.vlm_store.proofs.RoomShown.{is_taken, lock_room, room_shown}
use Rattle.vlm_store.proofs.WaitListed.{wait_list_added}
use Rattle.vlm_store.proofs.store.Store.add_lock_reserved.Goals as goal

pub add-slot-requires-clause-laid_out : goal.add-slot-requires-clause-laid_out
add-slot-requires-clause-laid_out c = laid_out_kept c.self.invariant

pub add-slot-requires-clause-room : goal.add-slot-requires-clause-room
add-slot-requires-clause-room c = (lock_room c.self.inside c.args.row.now.lkid (rw (← c.self.view_is) at c.requires.room)).0

pub add-slot-requires-clause-within : goal.add-slot-requires-clause-within
add-slot-requires-clause-within c = (lock_room c.self.inside c.args.row.now.lkid (rw (← c.self.view_is) at c.requires.room)).1

pub add-slot-requires-clause-parent : goal.add-slot-requires-clause-parent
add-slot-requires-clause-parent c = parent_within c.self.inside c.self.invariant c.args.parent c.args.row.now (rw (← c.self.view_is) at c.requires.parent)

pub add-slot-requires-clause-there : goal.add-slot-requires-clause-there
add-slot-requires-clause-there c =
    let s = c.self.inside in
    let kept = c.self.invariant in
    place_there s.queues s.order (beside_shown s) kept.placed kept.linked kept.ordered c.args.to (rw (← c.self.view_is) at c.requires.there)

pub join_wait_list-requires-clause-wait_list : goal.join_wait_list-requires-clause-wait_list
join_wait_list-requires-clause-wait_list c =
    let s = c.self.inside in
    let added = c.add-slot.ensures in
    wait_list_added s.queues c.add-slot.new.self s.wait_list c.add-slot.result c.args.to c.self.invariant.placed added.laid_out.placed
    added.fresh added.wait_list added.loose added.here added.elsewhere c.self.invariant.wait_list

pub join_wait_list-requires-clause-noted : goal.join_wait_list-requires-clause-noted
join_wait_list-requires-clause-noted c =
    let added = c.add-slot.ensures in
    last_noted c.add-slot.new.self c.add-slot.result c.args.to _ added.laid_out.placed added.here

-- before the lock is listed by its process
new_to_process : (c : goal.After-join_process-arg-2-1) → IsNewIn c.self.inside c.add-slot.new.self c.join_wait_list.new.locks c.add-slot.result
    c.args.row.now c.args.owner c.args.parent c.args.to
new_to_process c =
    newly_in c.self.invariant c.add-slot.ensures c.join_wait_list.ensures.rest
    (rw (← c.self.view_is) at c.requires.owner) (rw (← c.self.view_is) at c.requires.parent)

pub join_process-requires-clause-owner : goal.join_process-requires-clause-owner
join_process-requires-clause-owner c = new_owner (new_to_process c)

pub join_process-requires-clause-present : goal.join_process-requires-clause-present
join_process-requires-clause-present c = new_there (new_to_process c)

pub join_process-requires-clause-owned : goal.join_process-requires-clause-owned
join_process-requires-clause-owned c = new_owned (new_to_process c)

pub join_process-requires-clause-there : goal.join_process-requires-clause-there
join_process-requires-clause-there c = owner_was_there (new_to_process c)

-- before it is listed by its parent
new_to_parent : (c : goal.After-join_parent-arg-1) → IsNewIn c.self.inside c.add-slot.new.self c.join_wait_list.new.locks c.add-slot.result
    c.args.row.now c.args.owner c.args.parent c.args.to
new_to_parent c =
    newly_in c.self.invariant c.add-slot.ensures c.join_wait_list.ensures.rest
    (rw (← c.self.view_is) at c.requires.owner) (rw (← c.self.view_is) at c.requires.parent)

pub join_parent-requires-clause-parent : goal.join_parent-requires-clause-parent
join_parent-requires-clause-parent c =
    relinked_same with_own_links parent_in (λ l pair. refl) c.join_wait_list.new.locks c.join_process.new.locks c.join_process.ensures.relinks c.add-slot.result
    ∙ new_parent (new_to_parent c)

pub join_parent-requires-clause-below : goal.join_parent-requires-clause-below
join_parent-requires-clause-below c =
    own_below c.join_wait_list.new.locks c.join_process.new.locks c.join_process.ensures.relinks (Some c.add-slot.result) (new_below (new_to_parent c))

pub join_parent-requires-clause-there : goal.join_parent-requires-clause-there
join_parent-requires-clause-there c = linked_parent_there (new_to_parent c) c.join_process.new.locks c.join_process.ensures.relinks

-- there is room in the index
entered : (c : goal.After-insert) → IsOk c.insert.result
entered c = c.insert.ensures.succeeds (rw c.lkid.ensures (lock_room c.self.inside c.args.row.now.lkid (rw (← c.self.view_is) at c.requires.room)).2)

-- at the end
new_in : (c : goal.After-insert) → IsNewIn c.self.inside c.add-slot.new.self c.join_wait_list.new.locks c.add-slot.result
    c.args.row.now c.args.owner c.args.parent c.args.to
new_in c =
    newly_in c.self.invariant c.add-slot.ensures c.join_wait_list.ensures.rest
    (rw (← c.self.view_is) at c.requires.owner) (rw (← c.self.view_is) at c.requires.parent)

pub invariant_of-self : goal.invariant_of-self
invariant_of-self c =
    let s = c.self.inside in
    let kept = c.self.invariant in
    let new = new_in c in
    let q' = record c.add-slot.new.self { locks = c.join_parent.new.locks } in
    let lkid = c.args.row.now.lkid in
    let lkids = joined_lkids new c.join_process.ensures c.join_parent.ensures in
    let none = no_lock_found s kept lkid (rw (← c.self.view_is) at c.requires.new) in
    let writes = written c.insert.result (entered c) (rw c.lkid.ensures at c.insert.ensures.is_new) (ap is_none none)
    (rw (c.of-at.ensures, c.lkid.ensures) at c.insert.ensures.writes) in
    joined_kept new c.join_process.ensures c.join_parent.ensures c.join_wait_list.new.wait_list c.insert.new.self c.join_wait_list.ensures.wait_list
    (Indexes-added s.lock_index c.insert.new.self lkid (lkid_at s.queues) (lkid_at q') c.add-slot.result writes
    (ap (option_map lkid_of) c.add-slot.ensures.fresh) (lkids c.add-slot.result ∙ new_lkid new) (λ k differs. lkids k ∙ other_lkids new k differs)
    none kept.locks)

pub returns-clause-added : goal.returns-clause-added
returns-clause-added c =
    rw (← c.self.view_is, c.of-at.ensures)
    (joined_records (new_in c) c.join_process.ensures c.join_parent.ensures c.join_wait_list.new.wait_list c.insert.new.self)

pub returns-clause-fresh : goal.returns-clause-fresh
returns-clause-fresh c stored =
    let s = c.self.inside in
    let is = rw (c.of-at.ensures, ← c.self.view_is) at stored in
    let there = (has_there s c.self.invariant c.add-slot.result is.0 is.1).0 in
    let vacant : slot_of s.queues.locks c.add-slot.result ≡ None = c.add-slot.ensures.fresh in
    let nothing : IsSome {T = Lock} None = rw vacant at there in
    absurd (cc)

pub returns-clause-taken : goal.returns-clause-taken
returns-clause-taken c =
    let s = c.self.inside in
    let s' = after_joining (new_in c) c.join_process.ensures c.join_parent.ensures c.join_wait_list.new.wait_list c.insert.new.self in
    rw (← c.self.view_is)
    (room_shown (λ a b. IsTaken a.locks b.locks) (tables s.queues s.order (beside_shown s)) (tables s'.queues s.order (beside_shown s'))
    (is_taken s.queues.locks s.queues.locks c.join_parent.new.locks (spares_of s.lock_index) (spares_of c.insert.new.self) refl (omega arith)
    (ap (λ (p : ℕ × ℕ). p.0 + 1) (c.join_parent.ensures.locks_room ∙ c.join_process.ensures.locks_room
    ∙ c.join_wait_list.ensures.room) ∙ c.add-slot.ensures.taken) c.insert.ensures.taken))

pub returns-clause-sound : goal.returns-clause-sound
returns-clause-sound c = record { before = rw (← c.self.view_is) (is_sound c.self.inside c.self.invariant); after = is_sound _ (invariant_of-self c) }
