use Rattle.vlm_store.proofs.LivingProcesses.{is_sound}
use Rattle.std.proofs.Common.{◌∙◌, sym}
use Rattle.vlm_collections.specs.Lists.{handles_of}
use Rattle.vlm_records.specs.Shown.{order_links}
use Rattle.vlm_store.specs.Store.{tables}
use Rattle.vlm_collections.proofs.Walks.{first_handle-in}
use Rattle.vlm_store.proofs.Layouts.{first_resource-is}
use Rattle.vlm_store.specs.Kept.{beside_shown}
use Rattle.vlm_store.proofs.store.Store.first_resource.Goals as goal

pub of-requires : goal.of-requires
of-requires c =
    let s = c.self.inside in
    c.self.invariant.linked.within c.in_ok-at.at (first_handle-in (handles_of order_links s.queues.resources s.order) c.in_ok-at.at c.in_ok-at.ensures)

pub returns-clause-first : goal.returns-clause-first
returns-clause-first c =
    let s = c.self.inside in
    rw (← c.self.view_is, c.of.ensures) (c.in_ok-at.ensures ∙ sym (first_resource-is (tables s.queues s.order (beside_shown s))))

pub returns-in_err-at-clause-first : goal.returns-in_err-at-clause-first
returns-in_err-at-clause-first c =
    let s = c.self.inside in
    rw (← c.self.view_is) (c.from_residual.ensures ∙ c.in_err-at.ensures ∙ sym (first_resource-is (tables s.queues s.order (beside_shown s))))

pub returns-clause-sound : goal.returns-clause-sound
returns-clause-sound c = rw (← c.self.view_is) (is_sound c.self.inside c.self.invariant)

pub returns-in_err-at-clause-sound : goal.returns-in_err-at-clause-sound
returns-in_err-at-clause-sound c = rw (← c.self.view_is) (is_sound c.self.inside c.self.invariant)
