use Rattle.vlm_cycle.proofs.tarjan_walk.step.Goals as goal

pub returns-in_default-clause-notes : goal.returns-in_default-clause-notes
returns-in_default-clause-notes c = (c.go_back.ensures c.args.store.now c.requires.notes c.requires.walk).0

pub returns-in_default-awaited_modes-clause-notes : goal.returns-in_default-awaited_modes-clause-notes
returns-in_default-awaited_modes-clause-notes c = c.put.ensures.there c.args.store.now c.requires.notes c.with_next_own.ensures

pub returns-in_default-at-clause-notes : goal.returns-in_default-at-clause-notes
returns-in_default-at-clause-notes c = c.put-in_default-at.ensures.there c.args.store.now c.requires.notes c.with_next_part.ensures

pub go_along-requires-clause-target : goal.go_along-requires-clause-target
go_along-requires-clause-target c = (c.lock_record-record.result.now.row.pid, c.lock_record-record.ensures.owner)

pub go_along-requires-clause-notes : goal.go_along-requires-clause-notes
go_along-requires-clause-notes c = c.put-2.ensures.there c.args.store.now c.requires.notes c.with_next.ensures

pub returns-clause-notes : goal.returns-clause-notes
returns-clause-notes c = c.put-2.ensures.there c.args.store.now c.requires.notes c.with_next.ensures
