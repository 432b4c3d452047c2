use Rattle.std.proofs.Common.{◌+◌, ◌/◌, ◌∙◌, sym, arith}
use Rattle.vlm_collections.proofs.Levels.{has_room, marks-grown, no_room, room_for}
use Rattle.vlm_collections.proofs.marks.Marks.make_room.Goals as goal

pub returns-in_err-resize-clause-succeeds : goal.returns-in_err-resize-clause-succeeds
returns-in_err-resize-clause-succeeds c = λ within.
    let ok = c.self.inside.numbers.ok.0 in
    absurd (no_room c.self.inside c.args.self.now c.from.result c.args.number c.self.view_is c.from.ensures
    (omega (arith, c.if-len-count.true, c.len.ensures, ok)) within)

pub returns-in_ok-resize-clause-room : goal.returns-in_ok-resize-clause-room
returns-in_ok-resize-clause-room c =
    room_for c.resize.new.self.items c.from.result c.args.number c.from.ensures (sym c.resize.new.self.ok.0 ∙ c.in_ok-resize.ensures.len)

pub returns-in_ok-resize-clause-unmarked : goal.returns-in_ok-resize-clause-unmarked
returns-in_ok-resize-clause-unmarked c =
    let ok = c.self.inside.numbers.ok.0 in
    marks-grown c.self.inside c.resize.new.self.items c.args.self.now (c.from.result / 64 + 1) c.self.view_is
    (omega (arith, c.if-len-count.true, c.len.ensures, ok)) (rw (← ok) c.in_ok-resize.ensures.items)

pub returns-else-len-count-clause-room : goal.returns-else-len-count-clause-room
returns-else-len-count-clause-room c =
    let ok = c.self.inside.numbers.ok.0 in
    has_room c.self.inside c.args.self.now c.from.result c.args.number c.self.view_is c.from.ensures (omega (arith, c.if-len-count.false, c.len.ensures, ok))
