use Rattle.vlm_store.specs.Records.{IsStored}
use Rattle.vlm_cycle.proofs.NotedProcesses.{none_there, previous_there, some_there}
use Rattle.vlm_cycle.proofs.tarjan_walk.with_next_alike.Goals as goal

pub returns-then-is_covering : goal.returns-then-is_covering
returns-then-is_covering c =
    let s = c.args.store.now in
    c.located.ensures s c.requires.note (some_there (λ at. IsStored at s) c.args.wanting.now.lock c.requires.wanting.lock) (none_there (λ at. IsStored at s))

pub returns : goal.returns
returns c =
    let s = c.args.store.now in
    c.located-2.ensures s c.requires.note (some_there (λ at. IsStored at s) c.args.wanting.now.lock c.requires.wanting.lock)
    (previous_there s c.args.lock c.previous.result c.requires.lock c.previous.ensures)
