use Rattle.vlm_store.specs.Records.{IsStored}
use Rattle.vlm_cycle.proofs.NotedProcesses.{previous_there, some_there}
use Rattle.vlm_cycle.proofs.tarjan_walk.with_own.Goals as goal

pub returns : goal.returns
returns c =
    let s = c.args.store.now in
    let lock = c.in-Some.lock in
    let stored = c.requires.own lock c.in-Some.is in
    c.located-2.ensures s c.requires.note (some_there (λ at. IsStored at s) lock stored) (previous_there s lock c.previous.result stored c.previous.ensures)
