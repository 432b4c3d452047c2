use Rattle.std.proofs.Common.{◌∙◌, Option, ap, subst, sym}
use Rattle.std.proofs.lemmas.Option.{same_Some}
use Rattle.vlm_words.specs.declared.locks.LockState.{LockState}
use Rattle.vlm_words.specs.State.{State}
use Rattle.vlm_machine.specs.Machine.{plain_state}
use Rattle.vlm_core.specs.declared.locks.LockView.{LockView}
use Rattle.vlm_core.specs.declared.public.Core.TheInside.{Inside}
use Rattle.vlm_core.specs.Blockers.{ShowsNextOf, standing_of}
use Rattle.vlm_core.proofs.BlockedLocks.{last_on, next_is, none_named, not_together, one_resource, records_in_order, two_resources}
use Rattle.vlm_core.proofs.public.Core.next_of.Goals as goal
use Rattle.vlm_store.proofs.Records.{in_a_queue}
use Rattle.vlm_locks.proofs.Rising.{none_loose}
use Rattle.vlm_core.proofs.SingleLocks.{found_stored}

-- no lock has the ID
pub returns-in_err-lock : goal.returns-in_err-lock
returns-in_err-lock c =
    let are = ap (λ (t : State). t.resources) (sym c.self.view_is) ∙ ap (λ (core : Inside). (plain_state core.machine).resources) (sym c.self-inside.view_is) in
    subst (λ (view : Option (Option LockView)). ShowsNextOf
    (standing_of c.args.side) c.args.self.now c.args.lkid c.args.after view) (sym c.from_residual.ensures)
    (λ r queue other row last has has_last named named_last.
    none_named _ c.in_err-lock.ensures.sound c.args.self.now are c.args.lkid c.in_err-lock.ensures.found r queue row has named)

pub returns-in_err-last : goal.returns-in_err-last
returns-in_err-last c =
    let are = ap (λ (t : State). t.resources) (sym c.self.view_is) ∙ ap (λ (core : Inside). (plain_state core.machine).resources) (sym c.self-inside.view_is) in
    subst (λ (view : Option (Option LockView)). ShowsNextOf
    (standing_of c.args.side) c.args.self.now c.args.lkid c.args.after view)
    (sym c.from_residual-in_err-last.ensures)
    (λ r queue other row last has has_last named named_last.
    none_named _ c.in_err-last.ensures.sound c.args.self.now are c.args.after c.in_err-last.ensures.found r other last has_last named_last)

-- the locks are on two resources
pub returns-then-ne : goal.returns-then-ne
returns-then-ne c =
    let are = ap (λ (t : State). t.resources) (sym c.self.view_is) ∙ ap (λ (core : Inside). (plain_state core.machine).resources) (sym c.self-inside.view_is) in
    let found = c.in_ok-lock.ensures.found in
    let is_stored = in_a_queue _ (none_loose _ c.self-inside.invariant.rest.rising) c.in_ok-lock.lock found.0 found.1.0 in
    let f = c.located_lock-located.result in
    let its = sym (ap (λ (x : LockState). x.lkid) (c.located_lock-located.ensures.only found.0 is_stored)) ∙ found.1.1 in
    let found_last = c.in_ok-last.ensures.found in
    let last_stored = in_a_queue _ (none_loose _ c.self-inside.invariant.rest.rising) c.in_ok-last.last found_last.0 found_last.1.0 in
    let its_last = sym (ap (λ (x : LockState). x.lkid) (c.located_lock.ensures.only found_last.0 last_stored)) ∙ found_last.1.1 in
    not_together _ c.in_ok-lock.ensures.sound c.args.self.now are f c.located_lock.result
    c.located_lock-located.ensures.located c.located_lock.ensures.located c.args.lkid c.args.after its its_last
    (two_resources _ c.in_ok-lock.ensures.sound c.located_lock.result.res f.res c.if-ne.ensures)

pub view_from-requires-clause-ordered : goal.view_from-requires-clause-ordered
view_from-requires-clause-ordered c =
    let are = ap (λ (t : State). t.resources) (sym c.self.view_is) ∙ ap (λ (core : Inside). (plain_state core.machine).resources) (sym c.self-inside.view_is) in
    records_in_order c.args.self.now _ are c.in_order.ensures

pub view_from-requires-clause-from : goal.view_from-requires-clause-from
view_from-requires-clause-from c x is =
    let are = ap (λ (t : State). t.resources) (sym c.self.view_is) ∙ ap (λ (core : Inside). (plain_state core.machine).resources) (sym c.self-inside.view_is) in
    let found = c.in_ok-lock.ensures.found in
    let is_stored = in_a_queue _ (none_loose _ c.self-inside.invariant.rest.rising) c.in_ok-lock.lock found.0 found.1.0 in
    let f = c.located_lock-located.result in
    let its = sym (ap (λ (x : LockState). x.lkid) (c.located_lock-located.ensures.only found.0 is_stored)) ∙ found.1.1 in
    last_on _ c.in_ok-lock.ensures.sound c.args.self.now are f c.located_lock-located.ensures.located c.args.lkid its
    c.located_lock.result c.located_lock.ensures.located
    (one_resource _ c.in_ok-lock.ensures.sound c.located_lock.result.res f.res c.if-ne.ensures) x
    (c.located_lock.ensures.lock ∙ same_Some c.in_ok-last.last x is)

-- they are on one
pub returns : goal.returns
returns c =
    let are = ap (λ (t : State). t.resources) (sym c.self.view_is) ∙ ap (λ (core : Inside). (plain_state core.machine).resources) (sym c.self-inside.view_is) in
    let found = c.in_ok-lock.ensures.found in
    let is_stored = in_a_queue _ (none_loose _ c.self-inside.invariant.rest.rising) c.in_ok-lock.lock found.0 found.1.0 in
    let f = c.located_lock-located.result in
    let its = sym (ap (λ (x : LockState). x.lkid) (c.located_lock-located.ensures.only found.0 is_stored)) ∙ found.1.1 in
    let found_last = c.in_ok-last.ensures.found in
    let last_stored = in_a_queue _ (none_loose _ c.self-inside.invariant.rest.rising) c.in_ok-last.last found_last.0 found_last.1.0 in
    let its_last = sym (ap (λ (x : LockState). x.lkid) (c.located_lock.ensures.only found_last.0 last_stored)) ∙ found_last.1.1 in
    next_is _ c.in_ok-lock.ensures.sound c.args.self.now are f c.located_lock-located.ensures.located c.args.lkid its
    c.located_lock.result c.located_lock.ensures.located
    (one_resource _ c.in_ok-lock.ensures.sound c.located_lock.result.res f.res c.if-ne.ensures) c.in_ok-last.last
    c.located_lock.ensures.lock (standing_of c.args.side) c.args.after its_last
    c.view_from.result c.view_from.ensures

pub located_lock-located-requires-clause-stored : goal.located_lock-located-requires-clause-stored
located_lock-located-requires-clause-stored c = found_stored _ c.self-inside.invariant.rest c.args.lkid c.in_ok-lock.lock c.in_ok-lock.ensures.found

pub located_lock-requires-clause-stored : goal.located_lock-requires-clause-stored
located_lock-requires-clause-stored c = found_stored _ c.self-inside.invariant.rest c.args.after c.in_ok-last.last c.in_ok-last.ensures.found
