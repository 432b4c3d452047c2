use Rattle.vlm_store.proofs.LivingProcesses.{is_sound}
use Rattle.std.proofs.Common.{◌∙◌, sym}
use Rattle.vlm_records.specs.Shown.{handles_at, rows}
use Rattle.vlm_store.specs.Store.{tables}
use Rattle.vlm_collections.proofs.Walks.{first_handle-in}
use Rattle.vlm_store.proofs.Layouts.{HasPlace-seen, under_handle-first, locks_at-seen}
use Rattle.vlm_store.specs.Kept.{beside_shown}
use Rattle.vlm_store.proofs.store.Store.first.Goals as goal

pub of-requires : goal.of-requires
of-requires c =
    let s = c.self.inside in
    let is = rw c.list.ensures at c.in_ok-at.ensures in
    (c.self.invariant.placed.linked c.args.place).within c.in_ok-at.at (first_handle-in (handles_at s.queues c.args.place) c.in_ok-at.at is)

pub returns-clause-first : goal.returns-clause-first
returns-clause-first c =
    let s = c.self.inside in
    let seen = locks_at-seen (tables s.queues s.order (beside_shown s)) c.args.place
    (HasPlace-seen (tables s.queues s.order (beside_shown s)) c.args.place (rw (← c.self.view_is) at c.requires)) in
    rw (← c.self.view_is, seen, c.of.ensures) (rw c.list.ensures at c.in_ok-at.ensures
    ∙ sym (under_handle-first (rows s.queues) (handles_at s.queues c.args.place)))

pub returns-in_err-at-clause-first : goal.returns-in_err-at-clause-first
returns-in_err-at-clause-first c =
    let s = c.self.inside in
    let seen = locks_at-seen (tables s.queues s.order (beside_shown s)) c.args.place
    (HasPlace-seen (tables s.queues s.order (beside_shown s)) c.args.place (rw (← c.self.view_is) at c.requires)) in
    rw (← c.self.view_is, seen) (c.from_residual.ensures ∙ rw c.list.ensures at c.in_err-at.ensures
    ∙ sym (under_handle-first (rows s.queues) (handles_at s.queues c.args.place)))

pub returns-clause-sound : goal.returns-clause-sound
returns-clause-sound c = rw (← c.self.view_is) (is_sound c.self.inside c.self.invariant)

pub returns-in_err-at-clause-sound : goal.returns-in_err-at-clause-sound
returns-in_err-at-clause-sound c = rw (← c.self.view_is) (is_sound c.self.inside c.self.invariant)
