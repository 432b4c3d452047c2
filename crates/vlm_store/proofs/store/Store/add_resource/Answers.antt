use Rattle.std.proofs.Common.{◌≡◌, ◌<◌, arith, ◌∙◌, ◌++◌, ◌∷◌, [], None, IsSome, ap, refl, subst, sym}
use Rattle.slab.specs.Slab.{get as slot_of}
use Rattle.vlm_collections.specs.Parts.{spare_for}
use Rattle.vlm_records.specs.declared.resources.Resource.{Resource}
use Rattle.vlm_store.specs.Index.{hash_key}
use Rattle.vlm_store.specs.Kept.{beside_shown, records_shown}
use Rattle.vlm_store.specs.KeyIndexes.{spares_in}
use Rattle.vlm_store.specs.Records.{HasResource, IsNewKey, IsTaken, IsUnchanged, Records, new_stored_resource, with_resource_room}
use Rattle.vlm_store.specs.Store.{tables}
use Rattle.vlm_store.proofs.KeptRecords.{on_err}
use Rattle.vlm_store.proofs.Layouts.{HasResource-order}
use Rattle.vlm_store.proofs.LivingProcesses.{is_sound}
use Rattle.vlm_store.proofs.LocksChange.{laid_out_kept}
use Rattle.vlm_store.proofs.ResourceAdded.{resource_kept, resource_shown}
use Rattle.vlm_store.proofs.RoomShown.{is_taken, resource_find, resource_room_kept, resource_room_made, resource_slot}
use Rattle.vlm_store.proofs.RoomShown.{room_shown, unchanged_then}
use Rattle.vlm_store.proofs.store.Store.add_resource.Goals as goal

pub of-res-requires : goal.of-res-requires
of-res-requires c = rw c.vacant_key.ensures.value (resource_slot c.self.inside (rw (← c.self.view_is) at c.in_ok-reserve_resource.ensures.room)).1

pub add_resource-requires-clause-laid_out : goal.add_resource-requires-clause-laid_out
add_resource-requires-clause-laid_out c = laid_out_kept c.self.invariant

pub add_resource-requires-clause-linked : goal.add_resource-requires-clause-linked
add_resource-requires-clause-linked c = c.self.invariant.linked

pub add_resource-requires-clause-room : goal.add_resource-requires-clause-room
add_resource-requires-clause-room c = (resource_slot c.self.inside (rw (← c.self.view_is) at c.in_ok-reserve_resource.ensures.room)).0

pub add_resource-requires-clause-within : goal.add_resource-requires-clause-within
add_resource-requires-clause-within c = (resource_slot c.self.inside (rw (← c.self.view_is) at c.in_ok-reserve_resource.ensures.room)).1

-- more room changes nothing that the caller knows
new_still : (c : goal.After-add_resource) → IsNewKey c.args.site.now.key c.reserve_resource.new.self
new_still c = subst (IsNewKey c.args.site.now.key) (sym c.reserve_resource.ensures.only) c.requires.new

hash_still : (c : goal.After-add_resource) → c.args.hash ≡ hash_key c.reserve_resource.new.self.keys c.args.site.now.key
hash_still c = c.requires.hash ∙ ap (λ (r : Records). hash_key r.keys c.args.site.now.key) (sym c.reserve_resource.ensures.only)

abbrev after : goal.After-add_resource → Records
after c =
    records_shown (record c.self.inside {
      queues = c.add_resource.new.self;
      order = c.add_resource.new.order;
      resource_index =
          c.insert.new.self;
    })

-- the resource is added, and nothing else is changed but the room for resources
abbrev AddsTo : goal.After-add_resource → Records → Type 0
AddsTo c old =
    after c ≡ with_resource_room (after c).room.resources (record old {
      resources = old.resources ++ new_stored_resource c.of-res.result c.args.serial c.args.site.now ∷ [];
    })

-- the resource has the handle that its key was given
at_is : (c : goal.After-add_resource) → c.of-res.result ≡ c.add_resource.result
at_is c = c.of-res.ensures ∙ c.vacant_key.ensures.value ∙ sym c.add_resource.ensures.next

pub invariant_of-self : goal.invariant_of-self
invariant_of-self c = resource_room_kept c.self.inside c.self.invariant c.self.inside.queues.resources c.insert.new.self refl c.in_err-insert.ensures.refused

pub returns-in_err-insert-clause-succeeds : goal.returns-in_err-insert-clause-succeeds
returns-in_err-insert-clause-succeeds c has =
    let more : 0 < spare_for c.reserve_resource.new.self.room.resources.finds c.args.hash =
    omega (arith, has.find, c.reserve_resource.ensures.unchanged.resources.finds c.args.hash) in
    let never = c.in_err-insert.ensures.succeeds (resource_find c.self.inside c.args.hash (rw (← c.self.view_is) at more)) in
    cc

pub returns-in_err-insert-clause-err : goal.returns-in_err-insert-clause-err
returns-in_err-insert-clause-err c =
    let s = c.self.inside in
    let made : IsUnchanged c.reserve_resource.new.self (records_shown (record s { resource_index = c.insert.new.self })) = rw (← c.self.view_is)
    (resource_room_made s s.queues.resources (spares_in c.insert.new.self) refl (omega arith) c.in_err-insert.ensures.kept) in
    on_err c.from_residual-in_err-insert.result _
    (unchanged_then c.args.self.now c.reserve_resource.new.self _ c.reserve_resource.ensures.unchanged made)

pub invariant_of-self-2 : goal.invariant_of-self-2
invariant_of-self-2 c =
    resource_kept c.self.inside c.self.invariant c.add_resource.new.self c.add_resource.new.order c.insert.new.self
    c.add_resource.result c.args.serial c.args.hash c.args.site.now c.add_resource.ensures (rw (at_is c) at c.in_ok-insert.ensures.enters)
    (rw (← c.self.view_is) at (new_still c)) (rw (← c.self.view_is) at (hash_still c))

added_to_roomy : (c : goal.After-add_resource) → AddsTo c c.reserve_resource.new.self
added_to_roomy c =
    rw (← c.self.view_is, at_is c)
    (resource_shown c.self.inside c.self.invariant c.add_resource.new.self c.add_resource.new.order c.insert.new.self
    c.add_resource.result c.args.serial c.args.hash c.args.site.now c.add_resource.ensures)

pub returns-clause-added : goal.returns-clause-added
returns-clause-added c = subst (AddsTo c) c.reserve_resource.ensures.only (added_to_roomy c)

pub returns-clause-fresh : goal.returns-clause-fresh
returns-clause-fresh c has =
    let s = c.self.inside in
    let is = rw (at_is c, ← c.self.view_is) at (subst (HasResource c.of-res.result) (sym c.reserve_resource.ensures.only) has) in
    let there = c.self.invariant.linked.present c.add_resource.result (HasResource-order (tables s.queues s.order (beside_shown s)) c.add_resource.result is) in
    let vacant : slot_of s.queues.resources c.add_resource.result ≡ None = c.add_resource.ensures.fresh in
    let nothing : IsSome {T = Resource} None = rw vacant at there in
    absurd (cc)

pub returns-clause-taken : goal.returns-clause-taken
returns-clause-taken c =
    let s = c.self.inside in
    let q' = c.add_resource.new.self in
    let s' = record s { queues = q'; order = c.add_resource.new.order; resource_index = c.insert.new.self } in
    let taken : IsTaken c.reserve_resource.new.self.room.resources (after c).room.resources = rw (← c.self.view_is)
    (room_shown (λ a b. IsTaken a.resources b.resources) (tables s.queues s.order (beside_shown s)) (tables q' s'.order (beside_shown s'))
    (is_taken s.queues.resources s.queues.resources q'.resources (spares_in s.resource_index) (spares_in c.insert.new.self) refl (omega arith)
    c.add_resource.ensures.taken c.in_ok-insert.ensures.taken)) in
    let more = c.reserve_resource.ensures.unchanged.resources in
    record { slots = omega (arith, more.slots, taken.slots); finds = λ number. omega (arith, more.finds number, taken.finds number) }

pub returns-clause-sound : goal.returns-clause-sound
returns-clause-sound c = record { before = c.reserve_resource.ensures.sound; after = is_sound _ (invariant_of-self-2 c) }
