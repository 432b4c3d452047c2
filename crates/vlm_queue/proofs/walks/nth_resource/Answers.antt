use Rattle.std.proofs.Common.{sym, ◌∙◌}
use Rattle.vlm_store.specs.Records.{HasResource}
use native.Mathlib.Numerals.{unary_clauses}
use Rattle.vlm_queue.proofs.Indexed.{if_some, resource_after-index, resource_index-there}
use Rattle.vlm_queue.proofs.walks.nth_resource.Goals as goal

pub next_resource-at-requires : goal.next_resource-at-requires
next_resource-at-requires c =
    resource_index-there c.loop.counter c.args.store.now.resources c.first_resource-at.ensures.sound.resources_apart
    c.in-Some.res (sym c.loop.invariant ∙ c.in-Some.is)

pub loop-preserved : goal.loop-preserved
loop-preserved c =
    c.next_resource-at.ensures.next
    ∙ simp unary_clauses (resource_after-index c.loop.counter c.args.store.now.resources c.in-Some.res
    c.first_resource-at.ensures.sound.resources_apart (sym c.loop.invariant ∙ c.in-Some.is))

pub returns-clause-there : goal.returns-clause-there
returns-clause-there c =
    if_some c.loop.at (λ res. HasResource res c.args.store.now)
    (λ res is. resource_index-there c.loop.counter c.args.store.now.resources c.first_resource-at.ensures.sound.resources_apart res (sym c.loop.invariant ∙ is))
