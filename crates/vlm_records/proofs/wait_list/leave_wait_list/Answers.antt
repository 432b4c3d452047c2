use Rattle.std.proofs.Common.{sym, ◌∙◌}
use Rattle.std.proofs.lemmas.Option.{none-some}
use Rattle.slab.specs.Slab.{get}
use Rattle.vlm_records.specs.WaitList.{with_wait_list_links}
use Rattle.vlm_records.proofs.WaitLists.{wait_list_left, queued_here, unqueued_here, unqueued_left}
use Rattle.vlm_records.proofs.Rooms.{room_relinked}
use Rattle.vlm_records.proofs.wait_list.leave_wait_list.Goals as goal

pub unlink-requires : goal.unlink-requires
unlink-requires c = record {
  linked = c.requires.wait_list.linked tt;
  listed =
      c.requires.wait_list.stands tt c.args.at (λ e. none-some c.args.at (sym e))
      (queued_here (get c.args.locks.now c.args.at) c.args.place.now c.requires.noted (sym c.is_queued.ensures ∙ c.if-is_queued.true));
}

pub returns-then-is_queued-clause-wait_list : goal.returns-then-is_queued-clause-wait_list
returns-then-is_queued-clause-wait_list c =
    wait_list_left c.args.locks.now c.unlink.new.nodes c.args.wait_list.now c.unlink.new.self c.args.at c.unlink.ensures.relinks c.unlink.ensures.linked
    (queued_here (get c.args.locks.now c.args.at) c.args.place.now c.requires.noted (sym c.is_queued.ensures ∙ c.if-is_queued.true))
    c.requires.wait_list c.unlink.ensures.handles c.unlink.ensures.others

pub returns-then-is_queued-clause-room : goal.returns-then-is_queued-clause-room
returns-then-is_queued-clause-room c = room_relinked with_wait_list_links c.args.locks.now c.unlink.new.nodes c.unlink.ensures.relinks

-- it is not among them
pub returns-else-is_queued-clause-wait_list : goal.returns-else-is_queued-clause-wait_list
returns-else-is_queued-clause-wait_list c =
    unqueued_left c.args.locks.now c.args.wait_list.now c.args.at c.requires.wait_list
    (unqueued_here (get c.args.locks.now c.args.at) c.args.place.now c.requires.noted (sym c.is_queued.ensures ∙ c.if-is_queued.false))
