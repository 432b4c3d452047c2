use Rattle.vlm_cycle.specs.Notes.{LivesAt}
use Rattle.vlm_cycle.proofs.NotedProcesses.{none_there}
use Rattle.vlm_cycle.proofs.tarjan_walk.close.Goals as goal

pub loop-preserved : goal.loop-preserved
loop-preserved c s are stack_next =
    let so_far = c.loop.invariant s are stack_next in
    let note = c.note-note.ensures.there s so_far.0 in
    (c.put.ensures.there s so_far.0 (c.ranked.ensures s note), note.stack_next)

pub returns-in_default : goal.returns-in_default
returns-in_default c s are walk = ((c.loop.invariant s are walk.stack_next).0, c.with_closed.ensures s walk (none_there (LivesAt s)))

pub returns-then-slot : goal.returns-then-slot
returns-then-slot c s are walk =
    let so_far = c.loop.invariant s are walk.stack_next in
    let note = c.note-note.ensures.there s so_far.0 in
    (c.put.ensures.there s so_far.0 (c.ranked.ensures s note), c.with_closed-then-slot.ensures s walk note.stack_next)

pub returns : goal.returns
returns c s are walk =
    let so_far = c.loop.invariant s are walk.stack_next in
    (so_far.0, c.with_closed-2.ensures s walk so_far.1)
