use Rattle.std.proofs.Common.{◌∙◌, ◌<◌, [], length, sym, arith}
use Rattle.std.proofs.lemmas.List.{get_or_default}
use Rattle.std.proofs.lemmas.Result.{on_ok_weaker}
use Rattle.vlm_records.proofs.NodesMarked.{grown, no_room_wanted, room_beside, roomy}
use Rattle.vlm_records.proofs.node_marks.NodeMarks.make_room.Goals as goal

pub returns-in-Some-clause-room : goal.returns-in-Some-clause-room
returns-in-Some-clause-room c =
    let within : c.in-Some.place < length c.self.inside.nodes = omega (arith, c.self.invariant, c.in-Some.ensures.below) in
    on_ok_weaker c.make_room.result
    (roomy c.self.inside.nodes c.in-Some.place within _ c.args.pid (sym c.place_of.ensures.place ∙ c.in-Some.is))
    (rw c.process_ordinal.ensures at c.make_room.ensures.room)

pub returns-in-Some-clause-kept : goal.returns-in-Some-clause-kept
returns-in-Some-clause-kept c =
    let within : c.in-Some.place < length c.self.inside.nodes = omega (arith, c.self.invariant, c.in-Some.ensures.below) in
    let here = get_or_default c.self.inside.nodes c.in-Some.place c.index-self-place.result [] within in
    rw (← c.self.view_is)
    (on_ok_weaker c.make_room.result
    (grown c.self.inside.nodes c.in-Some.place within _)
    (rw here at c.make_room.ensures.unmarked))

pub returns-in-Some-clause-succeeds : goal.returns-in-Some-clause-succeeds
returns-in-Some-clause-succeeds c other same later room =
    let nodes = c.self.inside.nodes in
    let here = get_or_default nodes c.in-Some.place c.index-self-place.result [] (omega (arith, c.self.invariant, c.in-Some.ensures.below)) in
    c.make_room.ensures.succeeds
    (rw (c.process_ordinal.ensures, here)
    (room_beside nodes c.args.pid other c.in-Some.place (sym c.place_of.ensures.place
    ∙ c.in-Some.is) same later (rw (← c.self.view_is) at room)))

pub returns-in-None-clause-room : goal.returns-in-None-clause-room
returns-in-None-clause-room c = no_room_wanted c.args.self.now c.args.pid (sym c.place_of.ensures.place ∙ c.in-None.is)
