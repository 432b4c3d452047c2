use Rattle.vlm_store.specs.Records.{IsStored}
use Rattle.vlm_cycle.proofs.NotedProcesses.{if_there, some_there}
use Rattle.vlm_cycle.proofs.tarjan_walk.with_next_part.Goals as goal

pub returns : goal.returns
returns c =
    let s = c.args.store.now in
    c.located.ensures s c.requires.note (some_there (λ at. IsStored at s) c.args.wanting.now.lock c.requires.wanting.lock)
    (if_there (λ at. IsStored at s) c.head.result c.head.ensures.stored)
