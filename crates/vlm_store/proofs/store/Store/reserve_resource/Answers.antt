use Rattle.std.proofs.Common.{OnOk, arith, refl}
use Rattle.vlm_store.specs.KeyIndexes.{spares_in}
use Rattle.vlm_store.specs.Records.{HasSlot}
use Rattle.vlm_store.specs.Store.{tables}
use Rattle.vlm_store.specs.Kept.{beside_shown}
use Rattle.vlm_store.proofs.RoomShown.{has_slot_made, resource_room_kept, resource_room_made, resource_room_only, resource_slot, room_shown}
use Rattle.vlm_store.proofs.LivingProcesses.{is_sound}
use Rattle.vlm_store.proofs.store.Store.reserve_resource.Goals as goal

pub invariant_of-self : goal.invariant_of-self
invariant_of-self c =
    resource_room_kept c.self.inside c.self.invariant c.reserve_slot.new.records c.self.inside.resource_index
    c.reserve_slot.ensures.records (record { main = λ hash. refl; other = λ k. refl })

pub returns-clause-unchanged : goal.returns-clause-unchanged
returns-clause-unchanged c =
    rw (← c.self.view_is)
    (resource_room_made c.self.inside c.reserve_slot.new.records
    (spares_in c.self.inside.resource_index) c.reserve_slot.ensures.records c.reserve_slot.ensures.capacity
    (λ number. omega arith))

pub returns-clause-only : goal.returns-clause-only
returns-clause-only c =
    rw (← c.self.view_is)
    (resource_room_only c.self.inside c.reserve_slot.new.records
    (spares_in c.self.inside.resource_index) c.reserve_slot.ensures.records)

-- where there is room none is refused
pub returns-clause-succeeds : goal.returns-clause-succeeds
returns-clause-succeeds c has =
    let room = resource_slot c.self.inside (rw (← c.self.view_is) at has) in
    c.reserve_slot.ensures.succeeds room.0 room.1

pub returns-clause-room : goal.returns-clause-room
returns-clause-room c =
    let s = c.self.inside in
    let s' = record s { queues = record s.queues { resources = c.reserve_slot.new.records } } in
    let l = tables s'.queues s'.order (beside_shown s') in
    room_shown (λ _ room. OnOk c.reserve_slot.result (HasSlot room.resources)) l l
    (has_slot_made c.reserve_slot.result c.reserve_slot.new.records (spares_in s.resource_index)
    c.reserve_slot.ensures.slot c.reserve_slot.ensures.handle)

pub returns-clause-sound : goal.returns-clause-sound
returns-clause-sound c = rw (← c.self.view_is) (is_sound c.self.inside c.self.invariant)
