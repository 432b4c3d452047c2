use Rattle.vlm_locks.proofs.FoundByHandle.{process_there}
use Rattle.vlm_cycle.proofs.NotedProcesses.{first_own_there}
use Rattle.vlm_cycle.proofs.tarjan_walk.go_down.Goals as goal

pub first_own-requires : goal.first_own-requires
first_own-requires c = process_there c.args.store.now c.args.process c.requires.process.0 c.requires.process.1

pub with_own-requires-clause-own : goal.with_own-requires-clause-own
with_own-requires-clause-own c =
    first_own_there c.args.store.now c.first_own.ensures.sound c.requires.rest c.args.process c.first_own.result c.requires.process c.first_own.ensures.first

pub returns-clause-notes : goal.returns-clause-notes
returns-clause-notes c = c.put.ensures.there c.args.store.now c.requires.notes c.with_own.ensures
