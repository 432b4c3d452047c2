use Rattle.std.proofs.Common.{Option, refl, subst, sym}
use Rattle.vlm_cycle.proofs.BlockerWalks.{on_stored}
use Rattle.vlm_core.specs.declared.locks.LockView.{LockView}
use Rattle.vlm_core.specs.Blockers.{IsShownFrom, standing_of}
use Rattle.vlm_core.proofs.BlockedLocks.{found_shown, nothing_shown}
use Rattle.vlm_core.proofs.blockers.view_from.Goals as goal

-- no lock is found
pub returns-in_err-found : goal.returns-in_err-found
returns-in_err-found c =
    let s = c.args.store.now in
    let f = c.args.located.now in
    subst (λ (view : Option LockView). IsShownFrom (standing_of c.args.side) s f c.args.from view) (sym c.from_residual.ensures)
    (nothing_shown s c.requires.located.sound (standing_of c.args.side) f c.args.from c.in_err-found.ensures.next)

pub lock_view-requires-clause-stored : goal.lock_view-requires-clause-stored
lock_view-requires-clause-stored c =
    on_stored c.args.store.now c.args.located.now.res c.in_ok-found.found c.requires.located.sound (c.in_ok-found.ensures.on c.in_ok-found.found refl)

-- the lock that is found is shown
pub returns : goal.returns
returns c =
    found_shown c.args.store.now c.requires.located.sound
    (standing_of c.args.side) c.args.located.now c.args.from c.in_ok-found.found c.lock_view.result
    c.in_ok-found.ensures.next
    c.lock_view.ensures
