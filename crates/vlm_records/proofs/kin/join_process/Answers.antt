use Rattle.vlm_records.proofs.Rooms.{room_relinked, room_written}
use Rattle.std.proofs.Common.{◌≡◌, Some, ap, sym, ◌∙◌, refl, rules}
use Rattle.std.proofs.lemmas.Option.{same_Some}
use Rattle.std.specs.Option.{option_map}
use Rattle.vlm_records.specs.Kin.{but_own, with_own_links}
use Rattle.vlm_records.proofs.OwnLocks.{process_joined, process_joined_here, process_joined_others, written_same}
use Rattle.vlm_records.proofs.kin.join_process.Goals as goal

pub returns : goal.returns
returns c = record {
  owned =
      rw c.slot.ensures
      (process_joined c.args.processes.now c.args.locks.now c.push_back.new.nodes c.args.at c.args.owner
      c.index_mut.result.now c.push_back.new.self (rw c.slot.ensures at c.index_mut.ensures.value)
      c.push_back.ensures.relinks c.push_back.ensures.linked c.requires.owned c.requires.owner c.push_back.ensures.handles c.push_back.ensures.others);
  here = λ owner is.
      let same : c.args.owner ≡ owner = same_Some c.args.owner owner (sym c.requires.owner ∙ is) in
      rw (c.slot.ensures, ← same)
      (process_joined_here c.args.processes.now c.args.locks.now c.push_back.new.nodes c.args.at c.args.owner
      c.index_mut.result.now c.push_back.new.self (rw c.slot.ensures at c.index_mut.ensures.value)
      c.push_back.ensures.relinks c.push_back.ensures.linked c.requires.owned c.requires.owner c.push_back.ensures.handles c.push_back.ensures.others);
  elsewhere = λ other differs.
      rw c.slot.ensures
      (process_joined_others c.args.processes.now c.args.locks.now c.push_back.new.nodes c.args.at c.args.owner
      c.index_mut.result.now c.push_back.new.self (rw c.slot.ensures at c.index_mut.ensures.value)
      c.push_back.ensures.relinks c.push_back.ensures.linked c.requires.owned c.requires.owner c.push_back.ensures.handles c.push_back.ensures.others other
      (λ e. differs (c.requires.owner ∙ ap Some (sym e))));
  relinks = search rules;
  rest = written_same c.args.processes.now c.slot.result c.index_mut.result.now
      (record c.index_mut.result.now { own = c.push_back.new.self })
      (option_map but_own) c.index_mut.ensures.value refl;
  locks_room = room_relinked with_own_links c.args.locks.now c.push_back.new.nodes c.push_back.ensures.relinks;
  processes_room = room_written c.args.processes.now c.slot.result _ (rw c.index_mut.ensures.value refl);
}
