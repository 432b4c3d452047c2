use Rattle.std.proofs.Common.{◌∙◌, refl}
use Rattle.vlm_store.specs.Store.{tables}
use Rattle.vlm_store.proofs.Fitting.{fits_beside-handles}
use Rattle.vlm_store.proofs.LivingProcesses.{has_there}
use Rattle.vlm_store.proofs.Layouts.{HasResource-order, resource_at-found}
use Rattle.vlm_store.specs.Kept.{beside_shown}
use Rattle.vlm_store.proofs.store.Store.can_hold.Goals as goal

pub fits-requires-clause-there : goal.fits-requires-clause-there
fits-requires-clause-there c =
    let s = c.self.inside in
    c.self.invariant.linked.present c.args.res
    (HasResource-order (tables s.queues s.order (beside_shown s)) c.args.res
    (rw (← c.self.view_is) at c.requires.there))

pub fits-requires-clause-except : goal.fits-requires-clause-except
fits-requires-clause-except c lock is =
    let s = c.self.inside in
    let has = rw (← c.self.view_is) at (c.requires.except lock is) in
    (has_there s c.self.invariant lock has.0 has.1).0

pub returns : goal.returns
returns c =
    let s = c.self.inside in
    let found = resource_at-found (tables s.queues s.order (beside_shown s)) c.args.res
    (HasResource-order (tables s.queues s.order (beside_shown s)) c.args.res
    (rw (← c.self.view_is) at c.requires.there)) in
    rw (← c.self.view_is, found) (c.fits.ensures
    ∙ fits_beside-handles s.queues
    (tables s.queues s.order (beside_shown s)) c.args.res c.args.mode c.args.except refl refl)
