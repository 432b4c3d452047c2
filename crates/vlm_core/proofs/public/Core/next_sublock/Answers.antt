use Rattle.std.proofs.Common.{refl, sym, ap, ◌∙◌, inl}
use Rattle.vlm_words.specs.declared.locks.LockState.{LockState}
use Rattle.vlm_core.specs.Locks.{IsNamed}
use Rattle.vlm_core.proofs.SingleLocks.{lacks, stored_next_below, no_next_below, no_next_root, the_next_below, found_stored}
use Rattle.vlm_core.proofs.public.Core.next_sublock.Goals as goal
use Rattle.vlm_store.proofs.Records.{in_a_queue}
use Rattle.vlm_locks.proofs.Rising.{none_loose}

pub returns-in_err-lock : goal.returns-in_err-lock
returns-in_err-lock c =
    rw (← c.self.view_is, ← c.self-inside.view_is, c.from_residual.ensures)
    (lacks _ c.lock.ensures.sound _ refl (IsNamed c.args.lkid) (λ at row stored. c.in_err-lock.ensures.found at row (inl stored)))

pub returns-then-parent-eq0 : goal.returns-then-parent-eq0
returns-then-parent-eq0 c =
    let found = c.in_ok-lock.ensures.found in
    let is_stored = in_a_queue _ (none_loose _ c.self-inside.invariant.rest.rising) c.in_ok-lock.lock found.0 found.1.0 in
    rw (← c.self.view_is, ← c.self-inside.view_is)
    (no_next_root _ c.lock.ensures.sound _ refl c.in_ok-lock.lock found.0 is_stored
    (ap (λ (r : LockState). r.parent) (c.lock_record.ensures.only found.0 is_stored) ∙ sym c.parent.ensures ∙ c.if-parent-eq0.true) c.args.lkid found.1.1)

pub lock_view-requires-clause-stored : goal.lock_view-requires-clause-stored
lock_view-requires-clause-stored c =
    let found = c.in_ok-lock.ensures.found in
    let is_stored = in_a_queue _ (none_loose _ c.self-inside.invariant.rest.rising) c.in_ok-lock.lock found.0 found.1.0 in
    stored_next_below _ c.lock.ensures.sound c.self-inside.invariant.rest c.in_ok-lock.lock found.0 is_stored
    (λ none. c.if-parent-eq0.false (c.parent.ensures ∙ sym (ap (λ (r : LockState). r.parent) (c.lock_record.ensures.only found.0 is_stored)) ∙ none))
    c.next_sublock.result c.next_sublock.ensures.after c.in-Some.lock c.in-Some.is

pub returns-in-Some : goal.returns-in-Some
returns-in-Some c =
    let found = c.in_ok-lock.ensures.found in
    let is_stored = in_a_queue _ (none_loose _ c.self-inside.invariant.rest.rising) c.in_ok-lock.lock found.0 found.1.0 in
    rw (← c.self.view_is, ← c.self-inside.view_is)
    (the_next_below _ c.lock.ensures.sound _ refl c.self-inside.invariant.rest c.in_ok-lock.lock found.0 is_stored
    (λ none. c.if-parent-eq0.false (c.parent.ensures ∙ sym (ap (λ (r : LockState). r.parent) (c.lock_record.ensures.only found.0 is_stored)) ∙ none))
    c.next_sublock.result c.next_sublock.ensures.after c.in-Some.lock c.in-Some.is c.lock_view.result c.lock_view.ensures c.args.lkid found.1.1)

pub returns-in-None : goal.returns-in-None
returns-in-None c =
    let found = c.in_ok-lock.ensures.found in
    let is_stored = in_a_queue _ (none_loose _ c.self-inside.invariant.rest.rising) c.in_ok-lock.lock found.0 found.1.0 in
    rw (← c.self.view_is, ← c.self-inside.view_is)
    (no_next_below _ c.lock.ensures.sound _ refl c.self-inside.invariant.rest c.in_ok-lock.lock found.0 is_stored
    (λ none. c.if-parent-eq0.false (c.parent.ensures ∙ sym (ap (λ (r : LockState). r.parent) (c.lock_record.ensures.only found.0 is_stored)) ∙ none))
    c.next_sublock.result c.next_sublock.ensures.after c.in-None.is c.args.lkid found.1.1)

pub lock_record-requires : goal.lock_record-requires
lock_record-requires c = found_stored _ c.self-inside.invariant.rest c.args.lkid c.in_ok-lock.lock c.in_ok-lock.ensures.found
