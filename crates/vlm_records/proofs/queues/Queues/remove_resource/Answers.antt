use Rattle.vlm_records.proofs.Rooms.{room_relinked, room_given_back}
use Rattle.std.proofs.Common.{◌∙◌, refl, subst, ap, ◌+◌, ℕ, rules}
use Rattle.vlm_collections.specs.Lists.{IsIn}
use Rattle.vlm_collections.proofs.Keeping.{updated-handles, updated-linked}
use Rattle.vlm_collections.proofs.HandleLists.{IsIn-without}
use Rattle.vlm_records.specs.Shown.{order_links, with_order_links}
use Rattle.vlm_records.proofs.Arming.{armed_resources}
use Rattle.vlm_records.proofs.Making.{removed_armed, removed_lists, removed_tally, resources_handles, resources_placed}
use Rattle.vlm_records.proofs.queues.Queues.remove_resource.Goals as goal

pub returns : goal.returns
returns c = record {
  laid_out = record {
    placed =
        resources_placed c.args.self.now c.remove.new.self c.requires.laid_out.placed
        (removed_lists c.args.self.now c.unlink.new.nodes c.remove.new.self c.args.res c.unlink.ensures.relinks
        c.remove.ensures.updates c.requires.laid_out.placed c.requires.idle);
    tallied = removed_tally c.args.self.now c.unlink.new.nodes c.remove.new.self c.args.res c.unlink.ensures.relinks
        c.remove.ensures.updates c.requires.laid_out.placed c.requires.idle c.requires.laid_out.tallied;
    armed = λ which.
        let q = c.args.self.now in
        armed_resources which q c.remove.new.self
        (removed_armed q c.unlink.new.nodes c.remove.new.self c.args.res c.unlink.ensures.relinks
        c.remove.ensures.updates c.requires.laid_out.placed c.requires.idle which (c.requires.laid_out.armed which))
        (resources_handles q c.remove.new.self c.requires.laid_out.placed
        (removed_lists q c.unlink.new.nodes c.remove.new.self c.args.res c.unlink.ensures.relinks
        c.remove.ensures.updates c.requires.laid_out.placed c.requires.idle)) (c.requires.laid_out.armed which);
  };
  handles =
      resources_handles c.args.self.now c.remove.new.self c.requires.laid_out.placed
      (removed_lists c.args.self.now c.unlink.new.nodes c.remove.new.self c.args.res c.unlink.ensures.relinks
      c.remove.ensures.updates c.requires.laid_out.placed c.requires.idle);
  locks = search rules;
  linked =
      updated-linked order_links c.unlink.new.nodes c.remove.new.self c.args.res _ c.remove.ensures.updates c.unlink.new.self c.unlink.ensures.linked
      (λ found. (IsIn-without c.args.res c.args.res _ (subst (IsIn c.args.res) c.unlink.ensures.handles found)).1 refl);
  order =
      updated-handles order_links c.unlink.new.nodes c.remove.new.self c.args.res _ c.remove.ensures.updates c.unlink.new.self c.unlink.ensures.linked
      (λ found. (IsIn-without c.args.res c.args.res _ (subst (IsIn c.args.res) c.unlink.ensures.handles found)).1 refl)
      ∙ c.unlink.ensures.handles;
  gone = search rules;
  faces = search rules;
  given_back =
      room_given_back c.unlink.new.nodes c.remove.new.self c.args.res c.remove.ensures.room c.remove.ensures.len
      c.remove.ensures.capacity c.remove.ensures.key_is_next
      ∙ ap (λ (p : ℕ × ℕ). (p.0 + 1, c.args.res)) (room_relinked with_order_links c.args.self.now.resources c.unlink.new.nodes c.unlink.ensures.relinks);
}
