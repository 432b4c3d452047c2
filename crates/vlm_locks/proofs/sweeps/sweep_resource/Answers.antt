use Rattle.std.proofs.Common.{[], ◌∷◌, refl, eq-eqb}
use Rattle.vlm_locks.proofs.OrderOfResources.{one_in_order}
use Rattle.vlm_locks.proofs.SweptResources.{IsSweeping, swept_resources, swept_statuses, sweeping_begun, sweeping_next}
use Rattle.vlm_locks.proofs.sweeps.sweep_resource.Goals as goal
use Rattle.vlm_locks.proofs.sweeps.sweep_resource.Goals.{After-sweep_one}

-- the one resource is swept
is_swept : (c : After-sweep_one) → IsSweeping (c.args.res ∷ []) [] c.args.store.now c.sweep_one.new.store
is_swept c =
    let res = c.args.res in
    let s = c.args.store.now in
    let begun = sweeping_begun (res ∷ []) s (one_in_order res s c.requires.there) c.requires.stable c.requires.rest in
    sweeping_next (res ∷ []) res [] s s c.sweep_one.new.store begun
    (c.sweep_one.ensures.swept begun.left.0) c.law_a_sweep_touches_only_what_is_not_stable.ensures.next
    (rw (eq-eqb res res refl) refl) c.sweep_one.ensures.sound c.requires.rest

pub returns-clause-resources : goal.returns-clause-resources
returns-clause-resources c = swept_resources (c.args.res ∷ []) c.args.store.now c.sweep_one.new.store
    (is_swept c) c.law_a_sweep_touches_only_what_is_not_stable.ensures.done

pub returns-clause-statuses : goal.returns-clause-statuses
returns-clause-statuses c = swept_statuses (c.args.res ∷ []) c.args.store.now c.sweep_one.new.store
    (is_swept c) c.law_a_sweep_touches_only_what_is_not_stable.ensures.done

pub returns-clause-rest : goal.returns-clause-rest
returns-clause-rest c = (is_swept c).rest
