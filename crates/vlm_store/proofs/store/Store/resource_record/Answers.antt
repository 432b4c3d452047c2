use Rattle.vlm_store.proofs.LivingProcesses.{is_sound}
use Rattle.std.proofs.Common.{sym, ap}
use Rattle.vlm_store.specs.Kept.{beside_shown}
use Rattle.vlm_records.specs.Shown.{face_in}
use Rattle.vlm_store.specs.Store.{tables}
use Rattle.vlm_store.proofs.Layouts.{HasResource-order, resource_at-found}
use Rattle.vlm_store.proofs.store.Store.resource_record.Goals as goal

pub index-requires : goal.index-requires
index-requires c =
    let s = c.self.inside in
    rw c.slot.ensures (c.self.invariant.linked.present c.args.res
    (HasResource-order (tables s.queues s.order (beside_shown s)) c.args.res (rw (← c.self.view_is) at c.requires)))

pub returns-clause-serial : goal.returns-clause-serial
returns-clause-serial c =
    let s = c.self.inside in
    let found = resource_at-found (tables s.queues s.order (beside_shown s)) c.args.res
    (HasResource-order (tables s.queues s.order (beside_shown s)) c.args.res
    (rw (← c.self.view_is) at c.requires)) in
    rw (← c.self.view_is, found) (sym (ap (λ slot. (face_in slot).serial) (rw c.slot.ensures at c.index.ensures)))

pub returns-clause-key : goal.returns-clause-key
returns-clause-key c =
    let s = c.self.inside in
    let found = resource_at-found (tables s.queues s.order (beside_shown s)) c.args.res
    (HasResource-order (tables s.queues s.order (beside_shown s)) c.args.res
    (rw (← c.self.view_is) at c.requires)) in
    rw (← c.self.view_is, found) (sym (ap (λ slot. (face_in slot).key) (rw c.slot.ensures at c.index.ensures)))

pub returns-clause-domain : goal.returns-clause-domain
returns-clause-domain c =
    let s = c.self.inside in
    let found = resource_at-found (tables s.queues s.order (beside_shown s)) c.args.res
    (HasResource-order (tables s.queues s.order (beside_shown s)) c.args.res
    (rw (← c.self.view_is) at c.requires)) in
    rw (← c.self.view_is, found) (sym (ap (λ slot. (face_in slot).domain) (rw c.slot.ensures at c.index.ensures)))

pub returns-clause-level : goal.returns-clause-level
returns-clause-level c =
    let s = c.self.inside in
    let found = resource_at-found (tables s.queues s.order (beside_shown s)) c.args.res
    (HasResource-order (tables s.queues s.order (beside_shown s)) c.args.res
    (rw (← c.self.view_is) at c.requires)) in
    rw (← c.self.view_is, found) (sym (ap (λ slot. (face_in slot).level) (rw c.slot.ensures at c.index.ensures)))

pub returns-clause-value_block : goal.returns-clause-value_block
returns-clause-value_block c =
    let s = c.self.inside in
    let found = resource_at-found (tables s.queues s.order (beside_shown s)) c.args.res
    (HasResource-order (tables s.queues s.order (beside_shown s)) c.args.res
    (rw (← c.self.view_is) at c.requires)) in
    rw (← c.self.view_is, found) (sym (ap (λ slot. (face_in slot).value_block) (rw c.slot.ensures at c.index.ensures)))

pub returns-clause-sound : goal.returns-clause-sound
returns-clause-sound c = rw (← c.self.view_is) (is_sound c.self.inside c.self.invariant)
