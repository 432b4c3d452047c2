use Rattle.std.proofs.Common.{◌≡◌, ◌∙◌, None, IsSome, ap, sym, refl}
use Rattle.slab.specs.Slab.{get}
use Rattle.indexmap.specs.IndexMap.{spare}
use Rattle.vlm_records.specs.declared.processes.Process.{Process}
use Rattle.vlm_store.specs.Index.{spares_by}
use Rattle.vlm_store.specs.Kept.{beside_shown}
use Rattle.vlm_store.specs.Records.{IsTaken}
use Rattle.vlm_store.specs.Store.{tables}
use Rattle.vlm_store.proofs.KeptRecords.{on_err}
use Rattle.vlm_store.proofs.LivingProcesses.{is_sound, process_named, process_there}
use Rattle.vlm_store.proofs.ProcessAdded.{IsAdded, added_indexed, added_kept, added_living, added_pending, added_records, after_adding}
use Rattle.vlm_store.proofs.ProcessesChange.{more_living, more_pending, reserved_kept}
use Rattle.vlm_store.proofs.RoomShown.{is_taken, none_less, process_index_room_made, process_room, process_slot_made, room_shown, spare_used}
use Rattle.vlm_store.proofs.store.Store.add_process.Goals as goal

pub put_in-requires-clause-linked : goal.put_in-requires-clause-linked
put_in-requires-clause-linked c =
    (reserved_kept c.self.invariant c.reserve_slot.new.records c.self.inside.process_index c.reserve_slot.ensures.records refl).processes_linked

-- room was made, and the process was put in
is_added : (c : goal.After-mark) → IsAdded c.self.inside c.reserve_slot.new.records c.put_in.new.processes c.put_in.new.order
    c.put_in.result c.args.pid c.args.declaration.now c.new-process.result
is_added c = record {
  kept = c.self.invariant;
  same = λ p. ap (λ x. get x p) c.reserve_slot.ensures.records;
  unknown = rw (← c.self.view_is) at c.requires.new;
  added = c.put_in.ensures;
  plain = c.new-process.ensures.plain;
  due = c.new-process.ensures.due;
  own = c.new-process.ensures.own;
}

-- the process has the handle that its ID was given
at_is : (c : goal.After-mark) → c.of-at.result ≡ c.put_in.result
at_is c = c.of-at.ensures ∙ c.vacant_key.ensures.value ∙ sym c.put_in.ensures.next

pub of-at-requires : goal.of-at-requires
of-at-requires c = rw c.vacant_key.ensures.value c.in_ok-reserve_slot.ensures.handle

pub invariant_of-self-2 : goal.invariant_of-self-2
invariant_of-self-2 c =
    added_kept (is_added c) c.insert.new.self c.mark.new.self c.make_room-2.new.self
    (added_indexed (is_added c) c.self.inside.process_index c.insert.new.self (λ number. refl) (rw (at_is c) at c.in_ok-insert.ensures.updates))
    (added_living (is_added c) c.make_room.new.self c.mark.new.self c.in_ok-make_room.ensures.kept c.in_ok-make_room.ensures.room c.mark.ensures)
    (added_pending (is_added c) c.make_room-2.new.self c.in_ok-make_room-2.ensures.kept c.in_ok-make_room-2.ensures.room)

pub returns-clause-added : goal.returns-clause-added
returns-clause-added c =
    rw (← c.self.view_is, at_is c) (added_records (is_added c) c.insert.new.self c.mark.new.self c.make_room-2.new.self)

pub returns-clause-fresh : goal.returns-clause-fresh
returns-clause-fresh c has =
    let there = process_there c.self.inside c.self.invariant c.put_in.result (rw (at_is c, ← c.self.view_is) at has) in
    let vacant : get c.self.inside.processes c.put_in.result ≡ None = sym ((is_added c).same c.put_in.result) ∙ c.put_in.ensures.fresh in
    let nothing : IsSome {T = Process} None = rw vacant at there in
    absurd (cc)

pub returns-clause-taken : goal.returns-clause-taken
returns-clause-taken c =
    let s = c.self.inside in
    let s' = after_adding (is_added c) c.insert.new.self c.mark.new.self c.make_room-2.new.self in
    rw (← c.self.view_is)
    (room_shown (λ a b. IsTaken a.processes b.processes) (tables s.queues s.order (beside_shown s)) (tables s.queues s.order (beside_shown s'))
    (is_taken s.processes c.reserve_slot.new.records c.put_in.new.processes (spares_by s.process_index)
    (spares_by c.insert.new.self) c.reserve_slot.ensures.records c.reserve_slot.ensures.capacity
    c.put_in.ensures.taken (spare_used s.process_index c.insert.new.self c.insert.ensures.spare)))

pub returns-clause-sound : goal.returns-clause-sound
returns-clause-sound c = record { before = rw (← c.self.view_is) (is_sound c.self.inside c.self.invariant); after = is_sound _ (invariant_of-self-2 c) }

-- ---- memory is refused, and no more than room was made

pub invariant_of-self : goal.invariant_of-self
invariant_of-self c =
    reserved_kept c.self.invariant c.reserve_slot.new.records c.self.inside.process_index c.reserve_slot.ensures.records refl

pub returns-in_err-reserve_slot-clause-err : goal.returns-in_err-reserve_slot-clause-err
returns-in_err-reserve_slot-clause-err c =
    rw (← c.self.view_is)
    (on_err c.from_residual.result _
    (process_slot_made c.self.inside c.reserve_slot.new.records c.reserve_slot.ensures.records c.reserve_slot.ensures.capacity))

-- where there is room none is refused
pub returns-in_err-reserve_slot-clause-succeeds : goal.returns-in_err-reserve_slot-clause-succeeds
returns-in_err-reserve_slot-clause-succeeds c has =
    let room = process_room c.self.inside c.args.pid (rw (← c.self.view_is) at has.record_room) in
    let never = c.in_err-reserve_slot.ensures.succeeds room.0 room.1 in
    cc

pub invariant_of-self-in_err-make_room : goal.invariant_of-self-in_err-make_room
invariant_of-self-in_err-make_room c =
    rw c.in_err-make_room.ensures.refused
    (reserved_kept c.self.invariant c.reserve_slot.new.records c.self.inside.process_index c.reserve_slot.ensures.records refl)

pub returns-in_err-make_room-clause-err : goal.returns-in_err-make_room-clause-err
returns-in_err-make_room-clause-err c =
    rw (← c.self.view_is)
    (on_err c.from_residual-in_err-make_room.result _
    (process_slot_made c.self.inside c.reserve_slot.new.records c.reserve_slot.ensures.records c.reserve_slot.ensures.capacity))

-- beside a living process of its node there is room for the mark
pub returns-in_err-make_room-clause-succeeds : goal.returns-in_err-make_room-clause-succeeds
returns-in_err-make_room-clause-succeeds c has =
    let beside = rw (← c.self.view_is) at has.mark in
    let pid = beside.0.process.pid in
    let named = process_named c.self.inside c.self.invariant beside.0.at pid (beside.0, (beside.1.0, refl, refl)) in
    let never = c.in_err-make_room.ensures.succeeds pid beside.1.1 beside.1.2 (c.self.invariant.living.room beside.0.at pid named.1) in
    cc

pub invariant_of-self-in_err-make_room-2 : goal.invariant_of-self-in_err-make_room-2
invariant_of-self-in_err-make_room-2 c =
    rw c.in_err-make_room-2.ensures.refused
    (more_living (record c.self.inside { processes = c.reserve_slot.new.records; process_index = c.self.inside.process_index })
    (reserved_kept c.self.invariant c.reserve_slot.new.records c.self.inside.process_index c.reserve_slot.ensures.records refl)
    c.make_room.new.self c.in_ok-make_room.ensures.kept)

pub returns-in_err-make_room-2-clause-err : goal.returns-in_err-make_room-2-clause-err
returns-in_err-make_room-2-clause-err c =
    rw (← c.self.view_is)
    (on_err c.from_residual-in_err-make_room-2.result _
    (process_slot_made c.self.inside c.reserve_slot.new.records c.reserve_slot.ensures.records c.reserve_slot.ensures.capacity))

pub returns-in_err-make_room-2-clause-succeeds : goal.returns-in_err-make_room-2-clause-succeeds
returns-in_err-make_room-2-clause-succeeds c has =
    let beside = rw (← c.self.view_is) at has.mark in
    let pid = beside.0.process.pid in
    let named = process_named c.self.inside c.self.invariant beside.0.at pid (beside.0, (beside.1.0, refl, refl)) in
    let never = c.in_err-make_room-2.ensures.succeeds pid beside.1.1 beside.1.2 (c.self.invariant.marked.room beside.0.at pid named.1) in
    cc

pub invariant_of-self-in_err-insert : goal.invariant_of-self-in_err-insert
invariant_of-self-in_err-insert c =
    more_pending (record c.self.inside { processes = c.reserve_slot.new.records; process_index = c.insert.new.self; living = c.make_room.new.self })
    (more_living (record c.self.inside { processes = c.reserve_slot.new.records; process_index = c.insert.new.self })
    (reserved_kept c.self.invariant c.reserve_slot.new.records c.insert.new.self c.reserve_slot.ensures.records c.in_err-insert.ensures.err)
    c.make_room.new.self c.in_ok-make_room.ensures.kept)
    c.make_room-2.new.self c.in_ok-make_room-2.ensures.kept

pub returns-in_err-insert-clause-err : goal.returns-in_err-insert-clause-err
returns-in_err-insert-clause-err c =
    rw (← c.self.view_is)
    (on_err c.from_residual-in_err-insert.result _
    (process_index_room_made c.self.inside c.reserve_slot.new.records c.insert.new.self c.reserve_slot.ensures.records c.reserve_slot.ensures.capacity
    (none_less (spare c.self.inside.process_index) _ (λ room. let never = c.in_err-insert.ensures.succeeds room in cc))))

pub returns-in_err-insert-clause-succeeds : goal.returns-in_err-insert-clause-succeeds
returns-in_err-insert-clause-succeeds c has =
    let never = c.in_err-insert.ensures.succeeds (process_room c.self.inside c.args.pid (rw (← c.self.view_is) at has.record_room)).2 in
    cc
