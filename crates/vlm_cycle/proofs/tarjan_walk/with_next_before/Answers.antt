use Rattle.vlm_store.specs.Records.{IsStored}
use Rattle.vlm_cycle.proofs.NotedProcesses.{none_there, previous_there, some_there}
use Rattle.vlm_cycle.proofs.tarjan_walk.with_next_before.Goals as goal

pub returns-then-not-is_covering : goal.returns-then-not-is_covering
returns-then-not-is_covering c =
    let s = c.args.store.now in
    c.located.ensures s c.requires.note (some_there (λ at. IsStored at s) c.args.wanting.now.lock c.requires.wanting.lock)
    (previous_there s c.args.lock c.previous-previous.result c.requires.lock c.previous-previous.ensures)

pub returns-then-is_like : goal.returns-then-is_like
returns-then-is_like c =
    let s = c.args.store.now in
    c.located-then-is_like.ensures s c.requires.note
    (some_there (λ at. IsStored at s) c.args.wanting.now.lock c.requires.wanting.lock)
    (none_there (λ at. IsStored at s))

pub returns : goal.returns
returns c =
    let s = c.args.store.now in
    c.located-2.ensures s c.requires.note (some_there (λ at. IsStored at s) c.args.wanting.now.lock c.requires.wanting.lock)
    (previous_there s c.args.lock c.previous-previous.result c.requires.lock c.previous-previous.ensures)
