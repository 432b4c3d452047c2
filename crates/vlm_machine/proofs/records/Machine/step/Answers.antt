use Rattle.std.proofs.Common.{arith}
use Rattle.vlm_words.specs.declared.steps.Step.TheVariants.{Convert, Declare, Deq, Enq, Leave, Rundown, Search, SetValue, Take}
use Rattle.vlm_machine.proofs.RoomToNote.{room_after}
use Rattle.vlm_machine.proofs.RoomToMark.{marks_after}
use Rattle.vlm_machine.proofs.records.Machine.step.Goals as goal

-- a step that adds no lock leaves the room that there was
pub returns-in-Declare-clause-notes : goal.returns-in-Declare-clause-notes
returns-in-Declare-clause-notes c =
    room_after c.args.self.now c.declare.new.self c.args.touched.now
    (Declare c.in-Declare.declaration) c.declare.result c.declare.ensures.outcome c.requires.notes.none
    (omega (arith, c.requires.notes.room))

pub returns-in-SetValue-clause-notes : goal.returns-in-SetValue-clause-notes
returns-in-SetValue-clause-notes c =
    room_after c.args.self.now c.set_value.new.self c.args.touched.now
    (SetValue c.in-SetValue.setting) c.set_value.result c.set_value.ensures c.requires.notes.none
    (omega (arith, c.requires.notes.room))

pub returns-in-Convert-clause-notes : goal.returns-in-Convert-clause-notes
returns-in-Convert-clause-notes c =
    room_after c.args.self.now c.convert.new.self c.args.touched.now
    (Convert c.in-Convert.conversion) c.convert.result c.convert.ensures c.requires.notes.none
    (omega (arith, c.requires.notes.room))

pub returns-in-Deq-clause-notes : goal.returns-in-Deq-clause-notes
returns-in-Deq-clause-notes c =
    room_after c.args.self.now c.deq.new.self c.deq.new.touched (Deq c.in-Deq.dequeue) c.deq.result c.deq.ensures.outcome c.deq.ensures.none
    (omega (arith, c.requires.notes.room, c.deq.ensures.room))

pub returns-in-Take-clause-notes : goal.returns-in-Take-clause-notes
returns-in-Take-clause-notes c =
    room_after c.args.self.now c.take.new.self c.args.touched.now
    (Take c.in-Take.pid) c.take.result c.take.ensures c.requires.notes.none (omega (arith, c.requires.notes.room))

pub returns-in-Rundown-clause-notes : goal.returns-in-Rundown-clause-notes
returns-in-Rundown-clause-notes c =
    room_after c.args.self.now c.rundown.new.self c.rundown.new.touched
    (Rundown c.in-Rundown.pid) c.rundown.result c.rundown.ensures.outcome c.rundown.ensures.none
    (omega (arith, c.requires.notes.room, c.rundown.ensures.room))

pub returns-in-Leave-clause-notes : goal.returns-in-Leave-clause-notes
returns-in-Leave-clause-notes c =
    room_after c.args.self.now c.leave.new.self c.leave.new.touched (Leave c.in-Leave.node) c.leave.result c.leave.ensures.outcome c.leave.ensures.none
    (omega (arith, c.requires.notes.room, c.leave.ensures.room))

pub returns-in-Search-clause-notes : goal.returns-in-Search-clause-notes
returns-in-Search-clause-notes c =
    room_after c.args.self.now c.search.new.self c.args.touched.now
    (Search c.in-Search.node) c.search.result c.search.ensures.outcome c.requires.notes.none
    (omega (arith, c.requires.notes.room))

-- a declaration makes room for the marks of its process, and no other step makes a process
pub returns-in-Declare-clause-marks : goal.returns-in-Declare-clause-marks
returns-in-Declare-clause-marks c =
    marks_after c.args.self.now c.declare.new.self c.args.scratch.now c.declare.new.scratch
    (Declare c.in-Declare.declaration) c.declare.result c.declare.ensures.outcome c.declare.ensures.kept
    c.declare.ensures.room c.requires.marks

pub returns-in-Search-clause-marks : goal.returns-in-Search-clause-marks
returns-in-Search-clause-marks c =
    marks_after c.args.self.now c.search.new.self c.args.scratch.now c.search.new.scratch
    (Search c.in-Search.node) c.search.result c.search.ensures.outcome c.search.ensures.kept tt c.requires.marks

pub returns-in-SetValue-clause-marks : goal.returns-in-SetValue-clause-marks
returns-in-SetValue-clause-marks c =
    marks_after c.args.self.now c.set_value.new.self c.args.scratch.now c.args.scratch.now
    (SetValue c.in-SetValue.setting) c.set_value.result c.set_value.ensures (λ pid room. room) tt c.requires.marks

pub returns-in-Enq-clause-marks : goal.returns-in-Enq-clause-marks
returns-in-Enq-clause-marks c =
    marks_after c.args.self.now c.enq.new.self c.args.scratch.now c.args.scratch.now
    (Enq c.in-Enq.request) c.enq.result c.enq.ensures.outcome (λ pid room. room) tt c.requires.marks

pub returns-in-Convert-clause-marks : goal.returns-in-Convert-clause-marks
returns-in-Convert-clause-marks c =
    marks_after c.args.self.now c.convert.new.self c.args.scratch.now c.args.scratch.now
    (Convert c.in-Convert.conversion) c.convert.result c.convert.ensures (λ pid room. room) tt c.requires.marks

pub returns-in-Deq-clause-marks : goal.returns-in-Deq-clause-marks
returns-in-Deq-clause-marks c =
    marks_after c.args.self.now c.deq.new.self c.args.scratch.now c.args.scratch.now
    (Deq c.in-Deq.dequeue) c.deq.result c.deq.ensures.outcome (λ pid room. room) tt c.requires.marks

pub returns-in-Rundown-clause-marks : goal.returns-in-Rundown-clause-marks
returns-in-Rundown-clause-marks c =
    marks_after c.args.self.now c.rundown.new.self c.args.scratch.now c.args.scratch.now
    (Rundown c.in-Rundown.pid) c.rundown.result c.rundown.ensures.outcome (λ pid room. room) tt c.requires.marks

pub returns-in-Leave-clause-marks : goal.returns-in-Leave-clause-marks
returns-in-Leave-clause-marks c =
    marks_after c.args.self.now c.leave.new.self c.args.scratch.now c.args.scratch.now
    (Leave c.in-Leave.node) c.leave.result c.leave.ensures.outcome (λ pid room. room) tt c.requires.marks

pub returns-in-Take-clause-marks : goal.returns-in-Take-clause-marks
returns-in-Take-clause-marks c =
    marks_after c.args.self.now c.take.new.self c.args.scratch.now c.args.scratch.now
    (Take c.in-Take.pid) c.take.result c.take.ensures (λ pid room. room) tt c.requires.marks
