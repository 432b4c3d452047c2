use Rattle.vlm_records.proofs.Rooms.{room_relinked, room_taken}
use Rattle.std.proofs.Common.{ap, ◌∙◌, ◌+◌, ℕ, rules}
use Rattle.vlm_collections.proofs.Keeping.{updated-linked, vacant_unlisted}
use Rattle.vlm_records.specs.Shown.{order_links, with_order_links}
use Rattle.vlm_records.proofs.Arming.{armed_resources}
use Rattle.vlm_records.proofs.Making.{added_armed, added_lists, added_tallies, both_empty, resources_handles, resources_placed, resources_tallied}
use Rattle.vlm_records.proofs.queues.Queues.add_resource.Goals as goal

pub push_back-requires-clause-linked : goal.push_back-requires-clause-linked
push_back-requires-clause-linked c =
    updated-linked order_links c.args.self.now.resources c.insert_reserved-at.new.self c.insert_reserved-at.result _
    c.insert_reserved-at.ensures.updates c.args.order.now c.requires.linked
    (vacant_unlisted order_links c.args.self.now.resources c.args.order.now c.requires.linked
    c.insert_reserved-at.result c.insert_reserved-at.ensures.was_vacant)

pub returns : goal.returns
returns c = record {
  next = search rules;
  within = search rules;
  fresh = search rules;
  laid_out = record {
    placed =
        resources_placed c.args.self.now c.push_back.new.nodes c.requires.laid_out.placed
        (added_lists c.args.self.now c.insert_reserved-at.new.self c.push_back.new.nodes c.insert_reserved-at.result _
        c.insert_reserved-at.ensures.updates c.insert_reserved-at.ensures.was_vacant
        c.push_back.ensures.relinks c.new-2.ensures c.new-3.ensures c.new-4.ensures);
    tallied =
        resources_tallied c.args.self.now c.push_back.new.nodes c.requires.laid_out.placed
        (added_lists c.args.self.now c.insert_reserved-at.new.self c.push_back.new.nodes c.insert_reserved-at.result _
        c.insert_reserved-at.ensures.updates c.insert_reserved-at.ensures.was_vacant
        c.push_back.ensures.relinks c.new-2.ensures c.new-3.ensures c.new-4.ensures)
        (added_tallies c.args.self.now c.insert_reserved-at.new.self c.push_back.new.nodes c.insert_reserved-at.result _
        c.insert_reserved-at.ensures.updates c.insert_reserved-at.ensures.was_vacant
        c.push_back.ensures.relinks c.new-7.ensures) c.requires.laid_out.tallied;
    armed = λ which.
        let q = c.args.self.now in
        let lists = added_lists q c.insert_reserved-at.new.self c.push_back.new.nodes c.insert_reserved-at.result _
        c.insert_reserved-at.ensures.updates c.insert_reserved-at.ensures.was_vacant
        c.push_back.ensures.relinks c.new-2.ensures c.new-3.ensures c.new-4.ensures in
        armed_resources which q c.push_back.new.nodes
        (added_armed q c.insert_reserved-at.new.self c.push_back.new.nodes c.insert_reserved-at.result _
        c.insert_reserved-at.ensures.updates c.insert_reserved-at.ensures.was_vacant c.push_back.ensures.relinks
        which (both_empty _ c.new-5.ensures c.new-6.ensures which))
        (resources_handles q c.push_back.new.nodes c.requires.laid_out.placed lists) (c.requires.laid_out.armed which);
  };
  handles =
      resources_handles c.args.self.now c.push_back.new.nodes c.requires.laid_out.placed
      (added_lists c.args.self.now c.insert_reserved-at.new.self c.push_back.new.nodes c.insert_reserved-at.result _
      c.insert_reserved-at.ensures.updates c.insert_reserved-at.ensures.was_vacant
      c.push_back.ensures.relinks c.new-2.ensures c.new-3.ensures c.new-4.ensures);
  locks = search rules;
  linked = search rules;
  order = search rules;
  face = search rules;
  faces = search rules;
  taken =
      ap (λ (p : ℕ × ℕ). p.0 + 1) (room_relinked with_order_links c.insert_reserved-at.new.self c.push_back.new.nodes c.push_back.ensures.relinks)
      ∙ room_taken c.args.self.now.resources c.insert_reserved-at.new.self c.requires.room
      c.insert_reserved-at.ensures.len c.insert_reserved-at.ensures.capacity;
}
