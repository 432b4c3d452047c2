use Rattle.vlm_store.specs.Records.{IsStored}
use Rattle.vlm_cycle.proofs.NotedProcesses.{next_there, some_there}
use Rattle.vlm_cycle.proofs.tarjan_walk.with_next.Goals as goal

pub returns-in_default : goal.returns-in_default
returns-in_default c =
    let s = c.args.store.now in
    c.located.ensures s c.requires.note (some_there (λ at. IsStored at s) c.args.wanting.now.lock c.requires.wanting.lock)
    (next_there s c.requires.wanting.sound c.args.lock c.next.result c.requires.lock c.next.ensures)
