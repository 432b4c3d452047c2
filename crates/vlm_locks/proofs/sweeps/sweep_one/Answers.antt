use Rattle.std.proofs.Common.{◌≡◌, ℕ, Bool, true, IfSome, subst}
use Rattle.vlm_store.specs.Plain.{plain_resource}
use Rattle.vlm_store.specs.Records.{HasResource, IsSound, Records, resource_at}
use Rattle.vlm_locks.specs.Serving.{IsServed, nothing_queued}
use Rattle.vlm_locks.proofs.ReservedAsts.{paid_dropped}
use Rattle.vlm_locks.proofs.ServiceEnds.{none_granted, served}
use Rattle.vlm_locks.proofs.Swept.{swept_busy, swept_idle}
use Rattle.vlm_locks.proofs.Warned.{none_blocks}
use Rattle.vlm_locks.proofs.sweeps.sweep_one.Goals as goal

-- ---- nothing is queued: nothing is granted, and nobody is to be warned

served_by_nothing : (res : ℕ) (s : Records) (found : Bool) → found ≡ true → IsSound s → HasResource res s →
    IfSome (resource_at res s.resources) (λ r. found ≡ nothing_queued (plain_resource r)) → IsServed res s s
served_by_nothing res s found is_true sound there shown =
    let nothing = subst (λ b. IfSome (resource_at res s.resources) (λ r. b ≡ nothing_queued (plain_resource r))) is_true shown in
    served res s s s (none_granted res s sound there nothing) (none_blocks res s sound there nothing)

pub returns-then-is_idle-clause-swept : goal.returns-then-is_idle-clause-swept
returns-then-is_idle-clause-swept c =
    λ was. swept_idle c.args.res c.args.store.now c.args.store.now c.nothing_queued.ensures.sound
    (served_by_nothing c.args.res c.args.store.now c.nothing_queued.result c.if-nothing_queued.true c.nothing_queued.ensures.sound
    c.requires.there c.nothing_queued.ensures.nothing) was
    c.if-is_idle.ensures.idle c.remove_resource.new.self _ c.remove_resource.ensures.removed

pub returns-else-is_idle-clause-swept : goal.returns-else-is_idle-clause-swept
returns-else-is_idle-clause-swept c =
    λ was. swept_busy c.args.res c.args.store.now c.args.store.now c.nothing_queued.ensures.sound
    (served_by_nothing c.args.res c.args.store.now c.nothing_queued.result c.if-nothing_queued.true c.nothing_queued.ensures.sound
    c.requires.there c.nothing_queued.ensures.nothing) was
    c.if-is_idle.ensures.busy

pub returns-then-is_idle-clause-paid : goal.returns-then-is_idle-clause-paid
returns-then-is_idle-clause-paid c =
    paid_dropped c.args.store.now c.remove_resource.new.self _ c.if-is_idle.ensures.sound c.args.res
    c.if-is_idle.ensures.idle c.remove_resource.ensures.removed
    c.requires.paid

pub returns-then-is_idle-clause-sound : goal.returns-then-is_idle-clause-sound
returns-then-is_idle-clause-sound c = c.remove_resource.ensures.sound.after

-- ---- something is queued

pub returns-then-is_idle-2-clause-swept : goal.returns-then-is_idle-2-clause-swept
returns-then-is_idle-2-clause-swept c =
    λ was. swept_idle c.args.res c.args.store.now c.serve.new.store c.nothing_queued.ensures.sound c.serve.ensures.served was
    c.if-is_idle-2.ensures.idle c.remove_resource-then-is_idle-2.new.self _ c.remove_resource-then-is_idle-2.ensures.removed

pub returns-else-is_idle-2-clause-swept : goal.returns-else-is_idle-2-clause-swept
returns-else-is_idle-2-clause-swept c =
    λ was. swept_busy c.args.res c.args.store.now c.serve.new.store c.nothing_queued.ensures.sound c.serve.ensures.served was
    c.if-is_idle-2.ensures.busy

pub returns-then-is_idle-2-clause-paid : goal.returns-then-is_idle-2-clause-paid
returns-then-is_idle-2-clause-paid c =
    paid_dropped c.serve.new.store c.remove_resource-then-is_idle-2.new.self _ c.if-is_idle-2.ensures.sound c.args.res
    c.if-is_idle-2.ensures.idle c.remove_resource-then-is_idle-2.ensures.removed
    c.serve.ensures.paid

pub returns-then-is_idle-2-clause-sound : goal.returns-then-is_idle-2-clause-sound
returns-then-is_idle-2-clause-sound c = c.remove_resource-then-is_idle-2.ensures.sound.after
