use Rattle.vlm_records.proofs.Rooms.{room_relinked, room_taken}
use Rattle.std.proofs.Common.{◌∙◌, ◌++◌, ◌∷◌, [], ap, subst, ◌+◌, ℕ, rules}
use Rattle.vlm_collections.specs.Lists.{IsIn}
use Rattle.vlm_collections.proofs.Keeping.{updated-handles, updated-linked, vacant_unlisted}
use Rattle.vlm_records.specs.Kin.{process_links, with_process_links}
use Rattle.vlm_records.proofs.processes.put_in.Goals as goal

pub push_back-requires-clause-linked : goal.push_back-requires-clause-linked
push_back-requires-clause-linked c =
    updated-linked process_links c.args.processes.now c.insert_reserved-at.new.self c.insert_reserved-at.result _
    c.insert_reserved-at.ensures.updates c.args.order.now c.requires.linked
    (vacant_unlisted process_links c.args.processes.now c.args.order.now c.requires.linked c.insert_reserved-at.result c.insert_reserved-at.ensures.was_vacant)

pub push_back-requires-clause-unlisted : goal.push_back-requires-clause-unlisted
push_back-requires-clause-unlisted c found =
    let unlisted = vacant_unlisted process_links c.args.processes.now c.args.order.now c.requires.linked
    c.insert_reserved-at.result c.insert_reserved-at.ensures.was_vacant in
    unlisted
    (subst (IsIn c.insert_reserved-at.result)
    (updated-handles process_links c.args.processes.now c.insert_reserved-at.new.self c.insert_reserved-at.result _
    c.insert_reserved-at.ensures.updates c.args.order.now c.requires.linked unlisted) found)

pub returns : goal.returns
returns c = record {
  next = search rules;
  within = search rules;
  fresh = search rules;
  linked = search rules;
  order =
      c.push_back.ensures.handles
      ∙ ap (λ ks. ks ++ c.insert_reserved-at.result ∷ [])
      (updated-handles process_links c.args.processes.now c.insert_reserved-at.new.self c.insert_reserved-at.result _
      c.insert_reserved-at.ensures.updates c.args.order.now c.requires.linked
      (vacant_unlisted process_links c.args.processes.now c.args.order.now c.requires.linked c.insert_reserved-at.result
      c.insert_reserved-at.ensures.was_vacant));
  here = search rules;
  others = search rules;
  taken =
      ap (λ (p : ℕ × ℕ). p.0 + 1) (room_relinked with_process_links c.insert_reserved-at.new.self c.push_back.new.nodes c.push_back.ensures.relinks)
      ∙ room_taken c.args.processes.now c.insert_reserved-at.new.self c.requires.room c.insert_reserved-at.ensures.len c.insert_reserved-at.ensures.capacity;
}
