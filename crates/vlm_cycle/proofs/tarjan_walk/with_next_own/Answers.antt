use Rattle.vlm_cycle.proofs.NotedProcesses.{next_own_there}
use Rattle.vlm_cycle.proofs.tarjan_walk.with_next_own.Goals as goal

pub with_own-requires-clause-own : goal.with_own-requires-clause-own
with_own-requires-clause-own c =
    next_own_there c.args.store.now c.next_own.ensures.sound c.requires.rest c.args.own c.next_own.result c.requires.own c.next_own.ensures.next
