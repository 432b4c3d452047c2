use Rattle.std.proofs.Common.{refl, sym, ap, ◌∙◌, inl}
use Rattle.vlm_words.specs.declared.locks.LockState.{LockState}
use Rattle.vlm_core.specs.Locks.{IsNamed}
use Rattle.vlm_core.proofs.SingleLocks.{lacks, resource_is, found_stored}
use Rattle.vlm_core.proofs.public.Core.resource_of_lock.Goals as goal
use Rattle.vlm_store.proofs.Records.{in_a_queue}
use Rattle.vlm_locks.proofs.Rising.{none_loose}

pub returns-in_err-lock : goal.returns-in_err-lock
returns-in_err-lock c =
    rw (← c.self.view_is, ← c.self-inside.view_is, c.from_residual.ensures)
    (lacks _ c.lock.ensures.sound _ refl (IsNamed c.args.lkid) (λ at row stored. c.in_err-lock.ensures.found at row (inl stored)))

pub returns : goal.returns
returns c =
    let found = c.in_ok-lock.ensures.found in
    let is_stored = in_a_queue _ (none_loose _ c.self-inside.invariant.rest.rising) c.in_ok-lock.lock found.0 found.1.0 in
    let located = c.located_lock-located in
    rw (← c.self.view_is, ← c.self-inside.view_is)
    (resource_is _ c.lock.ensures.sound _ refl located.result located.ensures.located c.args.lkid
    (sym (ap (λ (r : LockState). r.lkid) (located.ensures.only found.0 is_stored)) ∙ found.1.1) c.resource_view.result c.resource_view.ensures)

pub located_lock-located-requires-clause-stored : goal.located_lock-located-requires-clause-stored
located_lock-located-requires-clause-stored c = found_stored _ c.self-inside.invariant.rest c.args.lkid c.in_ok-lock.lock c.in_ok-lock.ensures.found
