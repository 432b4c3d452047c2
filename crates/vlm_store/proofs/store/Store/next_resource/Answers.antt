use Rattle.vlm_store.proofs.LivingProcesses.{is_sound}
use Rattle.std.proofs.Common.{◌∙◌, sym}
use Rattle.vlm_collections.specs.Lists.{handles_of}
use Rattle.vlm_records.specs.Shown.{order_links}
use Rattle.vlm_store.specs.Store.{tables}
use Rattle.vlm_collections.proofs.Walks.{handle_after-in}
use Rattle.vlm_store.proofs.Layouts.{HasResource-order, resource_after-is}
use Rattle.vlm_store.specs.Kept.{beside_shown}
use Rattle.vlm_store.proofs.store.Store.next_resource.Goals as goal

pub next-requires : goal.next-requires
next-requires c =
    let s = c.self.inside in
    rw c.slot.ensures
    (record {
      linked = c.self.invariant.linked;
      listed = HasResource-order (tables s.queues s.order (beside_shown s)) c.args.res (rw (← c.self.view_is) at c.requires);
    })

pub of-requires : goal.of-requires
of-requires c =
    let s = c.self.inside in
    let is = rw c.slot.ensures at c.in_ok-at.ensures in
    c.self.invariant.linked.within c.in_ok-at.at (handle_after-in c.args.res (handles_of order_links s.queues.resources s.order) c.in_ok-at.at is)

pub returns-clause-next : goal.returns-clause-next
returns-clause-next c =
    let s = c.self.inside in
    rw (← c.self.view_is, c.of.ensures) ((rw c.slot.ensures at c.in_ok-at.ensures)
    ∙ sym (resource_after-is (tables s.queues s.order (beside_shown s)) c.args.res))

pub returns-in_err-at-clause-next : goal.returns-in_err-at-clause-next
returns-in_err-at-clause-next c =
    let s = c.self.inside in
    rw (← c.self.view_is) (c.from_residual.ensures ∙ (rw c.slot.ensures at c.in_err-at.ensures)
    ∙ sym (resource_after-is (tables s.queues s.order (beside_shown s)) c.args.res))

pub returns-clause-sound : goal.returns-clause-sound
returns-clause-sound c = rw (← c.self.view_is) (is_sound c.self.inside c.self.invariant)

pub returns-in_err-at-clause-sound : goal.returns-in_err-at-clause-sound
returns-in_err-at-clause-sound c = rw (← c.self.view_is) (is_sound c.self.inside c.self.invariant)
