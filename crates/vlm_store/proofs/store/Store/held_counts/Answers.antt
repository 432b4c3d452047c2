use Rattle.std.proofs.Common.{◌∙◌, ap, refl, sym}
use Rattle.vlm_records.specs.Tallies.{how_many}
use Rattle.vlm_records.specs.Tallies.Count.{of_held}
use Rattle.vlm_store.specs.Kept.{beside_shown}
use Rattle.vlm_records.specs.Shown.{tally_in}
use Rattle.vlm_store.specs.Store.{tables}
use Rattle.vlm_store.proofs.CountsByMode.{held_counts-handles}
use Rattle.vlm_store.proofs.Layouts.{HasResource-order, resource_at-found}
use Rattle.vlm_store.proofs.store.Store.held_counts.Goals as goal

pub index-requires : goal.index-requires
index-requires c =
    let s = c.self.inside in
    rw c.slot.ensures
    (c.self.invariant.linked.present c.args.res (HasResource-order (tables s.queues s.order (beside_shown s)) c.args.res (rw (← c.self.view_is) at c.requires)))

pub returns : goal.returns
returns c =
    let s = c.self.inside in
    let told = rw c.slot.ensures at c.index.ensures in
    let l = tables s.queues s.order (beside_shown s) in
    let found = resource_at-found l c.args.res (HasResource-order l c.args.res (rw (← c.self.view_is) at c.requires)) in
    rw (← c.self.view_is, found)
    (c.held.ensures
    ∙ held_counts-handles s.queues l c.args.res (how_many of_held c.index.result.now.tally)
    (λ mode. sym (ap (λ slot. how_many of_held (tally_in slot) mode) told) ∙ c.self.invariant.tallied.counts of_held c.args.res mode)
    refl refl)
