use Rattle.std.proofs.Common.{refl, sym, subst, ◌∙◌, inl}
use Rattle.vlm_model.specs.Laws.{IdsAreApart}
use Rattle.vlm_machine.specs.Machine.{plain_state}
use Rattle.vlm_machine.proofs.RunDown.{none_is_0}
use Rattle.vlm_core.specs.declared.public.Core.TheInside.{Inside}
use Rattle.vlm_core.specs.Locks.{IsNamed, ShowsFirst, IsSublockOf}
use Rattle.vlm_core.proofs.SingleLocks.{stored_first_below, lacks, no_first_below, the_first_below, found_stored}
use Rattle.vlm_core.proofs.public.Core.first_sublock.Goals as goal
use Rattle.vlm_store.proofs.Records.{in_a_queue}
use Rattle.vlm_locks.proofs.Rising.{none_loose}

pub returns-in_err-lock : goal.returns-in_err-lock
returns-in_err-lock c =
    rw (← c.self.view_is, ← c.self-inside.view_is, c.from_residual.ensures)
    (lacks _ c.lock.ensures.sound _ refl (IsNamed c.args.lkid) (λ at row stored. c.in_err-lock.ensures.found at row (inl stored)))

pub lock_view-requires-clause-stored : goal.lock_view-requires-clause-stored
lock_view-requires-clause-stored c =
    let found = c.in_ok-lock.ensures.found in
    let is_stored = in_a_queue _ (none_loose _ c.self-inside.invariant.rest.rising) c.in_ok-lock.lock found.0 found.1.0 in
    let law : IdsAreApart (plain_state c.self.inside.machine) =
    c.law_ids_are_apart.ensures c.self.invariant.reachable.history _ c.self.invariant.reachable.run in
    let apart = subst (λ (core : Inside). IdsAreApart (plain_state core.machine)) (sym c.self-inside.view_is) law in
    let not_0 = none_is_0 _ c.lock.ensures.sound apart.none_is_0 c.in_ok-lock.lock found.0 is_stored in
    stored_first_below _ c.lock.ensures.sound c.self-inside.invariant.rest c.in_ok-lock.lock found.0 is_stored not_0
    c.in-Some.lock (sym c.first_sublock.ensures.first ∙ c.in-Some.is)

pub returns-in-Some : goal.returns-in-Some
returns-in-Some c =
    let found = c.in_ok-lock.ensures.found in
    let is_stored = in_a_queue _ (none_loose _ c.self-inside.invariant.rest.rising) c.in_ok-lock.lock found.0 found.1.0 in
    let law : IdsAreApart (plain_state c.self.inside.machine) =
    c.law_ids_are_apart.ensures c.self.invariant.reachable.history _ c.self.invariant.reachable.run in
    let apart = subst (λ (core : Inside). IdsAreApart (plain_state core.machine)) (sym c.self-inside.view_is) law in
    let not_0 = none_is_0 _ c.lock.ensures.sound apart.none_is_0 c.in_ok-lock.lock found.0 is_stored in
    rw (← c.self.view_is, ← c.self-inside.view_is, ← found.1.1)
    (the_first_below _ c.lock.ensures.sound _ refl c.self-inside.invariant.rest c.in_ok-lock.lock found.0 is_stored
    not_0 c.in-Some.lock (sym c.first_sublock.ensures.first ∙ c.in-Some.is)
    c.lock_view.result c.lock_view.ensures)

pub returns-in-None : goal.returns-in-None
returns-in-None c =
    let found = c.in_ok-lock.ensures.found in
    let is_stored = in_a_queue _ (none_loose _ c.self-inside.invariant.rest.rising) c.in_ok-lock.lock found.0 found.1.0 in
    let law : IdsAreApart (plain_state c.self.inside.machine) =
    c.law_ids_are_apart.ensures c.self.invariant.reachable.history _ c.self.invariant.reachable.run in
    let apart = subst (λ (core : Inside). IdsAreApart (plain_state core.machine)) (sym c.self-inside.view_is) law in
    let not_0 = none_is_0 _ c.lock.ensures.sound apart.none_is_0 c.in_ok-lock.lock found.0 is_stored in
    rw (← c.self.view_is, ← c.self-inside.view_is, ← found.1.1)
    (no_first_below _ c.lock.ensures.sound _ refl c.self-inside.invariant.rest c.in_ok-lock.lock found.0 is_stored not_0
    (sym c.first_sublock.ensures.first ∙ c.in-None.is))

pub first_sublock-requires : goal.first_sublock-requires
first_sublock-requires c = found_stored _ c.self-inside.invariant.rest c.args.lkid c.in_ok-lock.lock c.in_ok-lock.ensures.found
