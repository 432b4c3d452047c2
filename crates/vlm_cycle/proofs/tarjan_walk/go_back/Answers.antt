use Rattle.vlm_cycle.proofs.tarjan_walk.go_back.Goals as goal

pub returns : goal.returns
returns c s are walk =
    let left = c.close_if_whole-left.ensures s are walk in
    (c.lower.ensures s left.0, record { process = (c.note-note.ensures.there s are).tree_parent; stack_next = left.1.stack_next })
