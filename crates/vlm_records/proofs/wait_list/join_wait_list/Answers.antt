use Rattle.std.proofs.Common.{refl, sym, ◌∙◌}
use Rattle.slab.specs.Slab.{get}
use Rattle.vlm_records.specs.WaitList.{with_wait_list_links}
use Rattle.vlm_records.proofs.WaitLists.{wait_list_joined, queued_here, unqueued_here, unqueued_joined}
use Rattle.vlm_records.proofs.Rooms.{room_relinked}
use Rattle.vlm_records.proofs.wait_list.join_wait_list.Goals as goal

pub push_back-requires-clause-linked : goal.push_back-requires-clause-linked
push_back-requires-clause-linked c = c.requires.wait_list.linked tt

pub push_back-requires-clause-unlisted : goal.push_back-requires-clause-unlisted
push_back-requires-clause-unlisted c found = c.requires.wait_list.gone tt c.args.at refl found

pub returns-then-is_queued-clause-wait_list : goal.returns-then-is_queued-clause-wait_list
returns-then-is_queued-clause-wait_list c =
    wait_list_joined c.args.locks.now c.push_back.new.nodes c.args.wait_list.now c.push_back.new.self c.args.at
    c.push_back.ensures.relinks c.push_back.ensures.linked
    (queued_here (get c.args.locks.now c.args.at) c.args.place.now c.requires.noted (sym c.is_queued.ensures ∙ c.if-is_queued.true))
    c.requires.wait_list c.push_back.ensures.handles c.push_back.ensures.others

pub returns-then-is_queued-clause-room : goal.returns-then-is_queued-clause-room
returns-then-is_queued-clause-room c = room_relinked with_wait_list_links c.args.locks.now c.push_back.new.nodes c.push_back.ensures.relinks

-- it does not join
pub returns-else-is_queued-clause-wait_list : goal.returns-else-is_queued-clause-wait_list
returns-else-is_queued-clause-wait_list c =
    unqueued_joined c.args.locks.now c.args.wait_list.now c.args.at c.requires.wait_list
    (unqueued_here (get c.args.locks.now c.args.at) c.args.place.now c.requires.noted (sym c.is_queued.ensures ∙ c.if-is_queued.false))
