use Rattle.std.proofs.Common.{sym, ◌∙◌}
use Rattle.vlm_records.specs.declared.handles.Place.TheVariants.{Queued}
use Rattle.vlm_store.specs.Records.{IsStored, locks_at}
use native.Mathlib.Numerals.{unary_clauses}
use Rattle.vlm_queue.proofs.Indexed.{if_some, lock_after-index, lock_index-among}
use Rattle.vlm_queue.proofs.walks.nth_lock.Goals as goal

pub next-at-requires : goal.next-at-requires
next-at-requires c =
    let place = Queued c.args.res c.args.queue in
    let there = lock_index-among c.loop.counter (locks_at place c.args.store.now) c.in-Some.lock (sym c.loop.invariant ∙ c.in-Some.is) in
    (there.0, (place, there.1.0))

pub loop-preserved : goal.loop-preserved
loop-preserved c =
    let place = Queued c.args.res c.args.queue in
    let ks = locks_at place c.args.store.now in
    let stands = sym c.loop.invariant ∙ c.in-Some.is in
    let there = lock_index-among c.loop.counter ks c.in-Some.lock stands in
    c.next-at.ensures place there.0 there.1.0
    ∙ simp unary_clauses (lock_after-index c.loop.counter ks c.in-Some.lock
    (c.head-at.ensures.sound.locks_apart place) stands)

pub returns-clause-there : goal.returns-clause-there
returns-clause-there c =
    let place = Queued c.args.res c.args.queue in
    if_some c.loop.at (λ lock. IsStored lock c.args.store.now)
    (λ lock is.
    let there = lock_index-among c.loop.counter (locks_at place c.args.store.now) lock (sym c.loop.invariant ∙ is) in
    (there.0, (place, there.1.0)))
