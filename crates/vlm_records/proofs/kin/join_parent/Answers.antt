use Rattle.vlm_records.proofs.Rooms.{room_relinked, room_written}
use Rattle.std.proofs.Common.{◌≡◌, Some, ap, sym, ◌∙◌, refl}
use Rattle.std.proofs.lemmas.Option.{same_Some}
use Rattle.std.specs.Option.{option_map}
use Rattle.vlm_records.specs.Kin.{but_below, with_below_links}
use Rattle.vlm_records.proofs.OwnLocks.{parent_joined, parent_joined_here, parent_joined_others, written_same}
use Rattle.vlm_collections.proofs.Keeping.{relinked_same}
use Rattle.vlm_records.proofs.kin.join_parent.Goals as goal

pub returns : goal.returns
returns c = record {
  below =
      rw c.slot-2.ensures
      (parent_joined c.args.locks.now c.push_back.new.nodes c.args.at c.in-Some.parent c.index.result.now
      c.index_mut.result.now c.push_back.new.self (rw c.slot.ensures at c.index.ensures)
      (rw c.slot-2.ensures at c.index_mut.ensures.value) c.push_back.ensures.relinks c.push_back.ensures.linked
      c.requires.below (c.requires.parent ∙ c.in-Some.is) c.push_back.ensures.handles c.push_back.ensures.others);
  here = λ parent is.
      let same : c.in-Some.parent ≡ parent = same_Some c.in-Some.parent parent (sym (c.requires.parent ∙ c.in-Some.is) ∙ is) in
      rw (c.slot-2.ensures, ← same)
      (parent_joined_here c.args.locks.now c.push_back.new.nodes c.args.at c.in-Some.parent c.index.result.now
      c.index_mut.result.now c.push_back.new.self (rw c.slot.ensures at c.index.ensures)
      (rw c.slot-2.ensures at c.index_mut.ensures.value) c.push_back.ensures.relinks c.push_back.ensures.linked
      c.requires.below (c.requires.parent ∙ c.in-Some.is) c.push_back.ensures.handles c.push_back.ensures.others);
  elsewhere = λ other differs.
      rw c.slot-2.ensures
      (parent_joined_others c.args.locks.now c.push_back.new.nodes c.args.at c.in-Some.parent c.index.result.now
      c.index_mut.result.now c.push_back.new.self (rw c.slot.ensures at c.index.ensures)
      (rw c.slot-2.ensures at c.index_mut.ensures.value) c.push_back.ensures.relinks c.push_back.ensures.linked
      c.requires.below (c.requires.parent
      ∙ c.in-Some.is) c.push_back.ensures.handles c.push_back.ensures.others other
      (λ e. differs (c.requires.parent ∙ c.in-Some.is ∙ ap Some (sym e))));
  rest = λ k.
      written_same c.push_back.new.nodes c.slot-2.result c.index_mut.result.now
      (record c.index_mut.result.now { sublocks = c.push_back.new.self })
      (option_map but_below) c.index_mut.ensures.value refl k
      ∙ relinked_same with_below_links (option_map but_below) (λ l pair. refl) c.args.locks.now c.push_back.new.nodes c.push_back.ensures.relinks k;
  locks_room = room_written c.push_back.new.nodes c.slot-2.result _ (rw c.index_mut.ensures.value refl)
      ∙ room_relinked with_below_links c.args.locks.now c.push_back.new.nodes c.push_back.ensures.relinks;
}
