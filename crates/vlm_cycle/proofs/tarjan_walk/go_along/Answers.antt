use Rattle.vlm_cycle.proofs.tarjan_walk.go_along.Goals as goal

pub returns-then-note-eq0-2-clause-notes : goal.returns-then-note-eq0-2-clause-notes
returns-then-note-eq0-2-clause-notes c = c.lower.ensures c.args.store.now c.requires.notes
