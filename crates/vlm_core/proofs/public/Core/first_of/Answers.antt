use Rattle.std.proofs.Common.{◌∙◌, Option, ap, subst, sym}
use Rattle.vlm_words.specs.declared.locks.LockState.{LockState}
use Rattle.vlm_words.specs.State.{State}
use Rattle.vlm_machine.specs.Machine.{plain_state}
use Rattle.vlm_core.specs.declared.locks.LockView.{LockView}
use Rattle.vlm_core.specs.declared.public.Core.TheInside.{Inside}
use Rattle.vlm_core.specs.Blockers.{ShowsFirstOf, standing_of}
use Rattle.vlm_core.proofs.BlockedLocks.{first_is, none_named, records_in_order}
use Rattle.vlm_core.proofs.public.Core.first_of.Goals as goal
use Rattle.vlm_store.proofs.Records.{in_a_queue}
use Rattle.vlm_locks.proofs.Rising.{none_loose}
use Rattle.vlm_core.proofs.SingleLocks.{found_stored}

-- no lock has the ID
pub returns-in_err-lock : goal.returns-in_err-lock
returns-in_err-lock c =
    let are = ap (λ (t : State). t.resources) (sym c.self.view_is) ∙ ap (λ (core : Inside). (plain_state core.machine).resources) (sym c.self-inside.view_is) in
    subst (λ (view : Option (Option LockView)). ShowsFirstOf (standing_of c.args.side) c.args.self.now c.args.lkid view) (sym c.from_residual.ensures)
    (λ r queue row has named. none_named _ c.in_err-lock.ensures.sound c.args.self.now are c.args.lkid c.in_err-lock.ensures.found r queue row has named)

pub view_from-requires-clause-ordered : goal.view_from-requires-clause-ordered
view_from-requires-clause-ordered c =
    let are = ap (λ (t : State). t.resources) (sym c.self.view_is) ∙ ap (λ (core : Inside). (plain_state core.machine).resources) (sym c.self-inside.view_is) in
    records_in_order c.args.self.now _ are c.in_order.ensures

-- the first lock is shown
pub returns : goal.returns
returns c =
    let are = ap (λ (t : State). t.resources) (sym c.self.view_is) ∙ ap (λ (core : Inside). (plain_state core.machine).resources) (sym c.self-inside.view_is) in
    let found = c.in_ok-lock.ensures.found in
    let is_stored = in_a_queue _ (none_loose _ c.self-inside.invariant.rest.rising) c.in_ok-lock.lock found.0 found.1.0 in
    let f = c.located_lock-located.result in
    let its = sym (ap (λ (x : LockState). x.lkid) (c.located_lock-located.ensures.only found.0 is_stored)) ∙ found.1.1 in
    first_is _ c.in_ok-lock.ensures.sound c.args.self.now are f c.located_lock-located.ensures.located c.args.lkid its
    (standing_of c.args.side) c.view_from.result c.view_from.ensures

pub located_lock-located-requires-clause-stored : goal.located_lock-located-requires-clause-stored
located_lock-located-requires-clause-stored c = found_stored _ c.self-inside.invariant.rest c.args.lkid c.in_ok-lock.lock c.in_ok-lock.ensures.found
