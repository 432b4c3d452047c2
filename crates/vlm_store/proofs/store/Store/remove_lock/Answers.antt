use Rattle.std.proofs.Common.{◌∙◌, None, ap, sym, ◌+◌, ℕ, Some}
use Rattle.std.specs.Option.{option_map}
use Rattle.vlm_collections.specs.Parts.{spares_of}
use Rattle.vlm_records.specs.Kin.{but_below, owner_in}
use Rattle.vlm_records.specs.Shown.{but_kin, lkid_of}
use Rattle.vlm_records.proofs.PlacesOnLists.{noted_as, same_then, through}
use Rattle.vlm_store.specs.Kept.{beside_shown}
use Rattle.vlm_store.specs.Records.{IsGivenBack}
use Rattle.vlm_store.specs.Store.{lkid_at, tables}
use Rattle.vlm_store.proofs.Indexing.{Indexes-removed}
use Rattle.vlm_store.proofs.Kinship.{below_kin, below_owned, kin_noted, own_kin, owner-below}
use Rattle.vlm_store.proofs.LivingProcesses.{childless, is_sound, lock_there, stored_in_queue}
use Rattle.vlm_store.proofs.LockLeaves.{Leaves, after_leaving, kin_left, left_kept, left_lkids, left_records}
use Rattle.vlm_store.proofs.LocksChange.{laid_out_kept, laid_out_kin}
use Rattle.vlm_store.proofs.RoomShown.{is_given_back, room_shown}
use Rattle.vlm_store.proofs.WaitListed.{wait_list_below, wait_list_own}
use Rattle.vlm_store.proofs.store.Store.remove_lock.Goals as goal

pub index-requires : goal.index-requires
index-requires c =
    let stored = rw (← c.self.view_is) at c.requires.stored in
    rw c.slot-at.ensures (lock_there c.self.inside c.self.invariant c.args.lock stored.0 stored.1).0

pub leave_process-requires-clause-owner : goal.leave_process-requires-clause-owner
leave_process-requires-clause-owner c =
    through but_below owner_in owner-below c.self.inside.queues.locks c.leave_parent.new.locks
    c.leave_parent.ensures.rest c.slot-at.result ∙ ap owner_in c.index.ensures

pub leave_process-requires-clause-owned : goal.leave_process-requires-clause-owned
leave_process-requires-clause-owned c =
    let s = c.self.inside in
    below_owned s.processes s.queues.locks c.leave_parent.new.locks c.leave_parent.ensures.rest None c.self.invariant.owned

pub leave_wait_list-requires-clause-wait_list : goal.leave_wait_list-requires-clause-wait_list
leave_wait_list-requires-clause-wait_list c =
    let s = c.self.inside in
    wait_list_own c.leave_parent.new.locks c.leave_process.new.locks s.wait_list c.leave_process.ensures.relinks
    (wait_list_below s.queues.locks c.leave_parent.new.locks s.wait_list c.leave_parent.ensures.rest
    c.self.invariant.wait_list)

pub leave_wait_list-requires-clause-noted : goal.leave_wait_list-requires-clause-noted
leave_wait_list-requires-clause-noted c =
    let s = c.self.inside in
    let kin = same_then but_kin s.queues.locks c.leave_parent.new.locks c.leave_process.new.locks
    (below_kin s.processes s.queues.locks c.leave_parent.new.locks c.leave_parent.ensures.rest)
    (own_kin c.leave_parent.new.locks c.leave_process.new.locks c.leave_process.ensures.relinks) in
    let stored = rw (← c.self.view_is) at c.requires.stored in
    kin_noted s.queues c.leave_process.new.locks kin c.slot-at.result
    ∙ noted_as _ _ c.index.ensures (rw c.slot-at.ensures (stored_in_queue s c.self.invariant c.args.lock stored.0 stored.1)) ∙ ap Some (sym c.place.ensures)

pub remove-requires-clause-laid_out : goal.remove-requires-clause-laid_out
remove-requires-clause-laid_out c =
    let s = c.self.inside in
    laid_out_kin s.queues c.leave_wait_list.new.locks
    (kin_left s c.leave_parent.new.locks c.leave_process.new.locks c.leave_wait_list.new.locks
    c.leave_parent.ensures.rest c.leave_process.ensures.relinks c.leave_wait_list.ensures.rest)
    (laid_out_kept c.self.invariant)

pub remove-requires-clause-in_queue : goal.remove-requires-clause-in_queue
remove-requires-clause-in_queue c =
    let s = c.self.inside in
    let stored = rw (← c.self.view_is) at c.requires.stored in
    let kin = kin_left s c.leave_parent.new.locks c.leave_process.new.locks c.leave_wait_list.new.locks
    c.leave_parent.ensures.rest c.leave_process.ensures.relinks c.leave_wait_list.ensures.rest in
    rw (kin_noted s.queues c.leave_wait_list.new.locks kin c.slot-at.result)
    (rw c.slot-at.ensures (stored_in_queue s c.self.invariant c.args.lock stored.0 stored.1))

-- what the four calls did
leaves : (c : goal.After-remove-2) → Leaves c.self.inside c.args.lock c.leave_parent.new.locks c.leave_process.new.locks
    c.leave_wait_list.new.locks c.leave_process.new.processes c.remove.new.self
leaves c =
    let parent = rw c.slot-at.ensures at c.leave_parent.ensures in
    let process = rw c.slot-at.ensures at c.leave_process.ensures in
    let stored = rw (← c.self.view_is) at c.requires.stored in
    record {
      kept = c.self.invariant;
      childless = childless c.self.inside c.self.invariant c.args.lock stored.0 stored.1 (rw (← c.self.view_is) at c.requires.childless);
      below = parent.below;
      below_left = parent.handles;
      below_rest = parent.rest;
      owned = process.owned;
      own_left = process.handles;
      relinks = process.relinks;
      own_rest = process.rest;
      unlisted = c.leave_wait_list.ensures.rest;
      removed = rw c.slot-at.ensures at c.remove.ensures;
    }

pub invariant_of-self : goal.invariant_of-self
invariant_of-self c =
    let s = c.self.inside in
    let wait_listed = rw c.slot-at.ensures at c.leave_wait_list.ensures in
    left_kept (leaves c) c.leave_wait_list.new.wait_list c.remove-2.new.self wait_listed.wait_list
    (Indexes-removed s.lock_index c.remove-2.new.self c.index.result.now.row.lkid (lkid_at s.queues)
    (lkid_at c.remove.new.self) c.args.lock (rw c.lkid.ensures at c.remove-2.ensures.writes)
    (ap (option_map lkid_of) (rw c.slot-at.ensures at c.index.ensures)) (ap (option_map lkid_of) (leaves c).removed.gone)
    (left_lkids (leaves c)) c.self.invariant.locks)

pub returns-clause-removed : goal.returns-clause-removed
returns-clause-removed c =
    rw (← c.self.view_is)
    (left_records (leaves c) c.leave_wait_list.new.wait_list c.remove-2.new.self c.leave_process.ensures.processes_room)

pub returns-clause-given_back : goal.returns-clause-given_back
returns-clause-given_back c =
    let s = c.self.inside in
    let q' = c.remove.new.self in
    let s' = after_leaving (leaves c) c.leave_wait_list.new.wait_list c.remove-2.new.self in
    let stored = rw (← c.self.view_is) at c.requires.stored in
    rw (← c.self.view_is)
    (room_shown (λ a b. IsGivenBack a.locks b.locks) (tables s.queues s.order (beside_shown s)) (tables q' s.order (beside_shown s'))
    (is_given_back s.queues.locks q'.locks c.args.lock (spares_of s.lock_index) (spares_of c.remove-2.new.self)
    ((leaves c).removed.given_back ∙ ap (λ (p : ℕ × ℕ). (p.0 + 1, c.args.lock)) (c.leave_wait_list.ensures.room
    ∙ c.leave_process.ensures.locks_room ∙ c.leave_parent.ensures.locks_room))
    (lock_there s c.self.invariant c.args.lock stored.0 stored.1).1 c.remove-2.ensures.room))

pub returns-clause-sound : goal.returns-clause-sound
returns-clause-sound c = record { before = rw (← c.self.view_is) (is_sound c.self.inside c.self.invariant); after = is_sound _ (invariant_of-self c) }
