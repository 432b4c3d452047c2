use Rattle.std.proofs.Common.{◌∙◌, arith, sym}
use Rattle.vlm_records.specs.declared.handles.Place.TheVariants.{Queued}
use Rattle.vlm_store.specs.Kept.{beside_shown}
use Rattle.vlm_store.specs.Store.{tables}
use Rattle.vlm_store.proofs.CountsByMode.{length-at, length-queued}
use Rattle.vlm_store.proofs.Layouts.{HasResource-order, resource_at-found}
use Rattle.vlm_store.proofs.store.Store.queue_length.Goals as goal

pub len-requires : goal.len-requires
len-requires c = rw c.list-list.ensures (c.self.invariant.placed.linked (Queued c.args.res c.args.queue))

pub overflow_cast-result : goal.overflow_cast-result
overflow_cast-result c =
    let long = rw c.list-list.ensures at c.len.ensures in
    omega (arith, long, length-at c.self.inside.queues (Queued c.args.res c.args.queue) c.self.invariant.placed)

pub returns : goal.returns
returns c =
    let s = c.self.inside in
    let l = tables s.queues s.order (beside_shown s) in
    let found = resource_at-found l c.args.res (HasResource-order l c.args.res (rw (← c.self.view_is) at c.requires)) in
    rw (← c.self.view_is, found) (rw c.list-list.ensures at c.len.ensures ∙ sym (length-queued l c.args.queue c.args.res))
