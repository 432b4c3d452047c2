use Rattle.std.proofs.Common.{None, Some, refl, sym, ◌∙◌}
use Rattle.std.specs.Prelude.{slice_get}
use Rattle.std.specs.Option.{option_map}
use Rattle.vlm_queue.specs.Views.{rows_in}
use Rattle.vlm_core.specs.Locks.{lock_view}
use Rattle.vlm_core.proofs.FoundByKey.{key_fits, key_missing, key_read}
use Rattle.vlm_core.proofs.SingleLocks.{at_head, at_no_head}
use Rattle.vlm_core.proofs.public.Core.first_in_queue.Goals as goal

pub returns-in_err-res : goal.returns-in_err-res
returns-in_err-res c =
    rw (← c.self.view_is, ← c.self-inside.view_is, ← c.key_of-key.ensures)
    (c.from_residual.ensures
    ∙ key_missing (λ r. option_map (lock_view r c.args.queue) (slice_get (rows_in c.args.queue r) 0)) c.args.domain _
    (rw c.key_of-key.ensures (key_fits c.args.parent c.args.domain c.args.name)) _
    c.self-inside.invariant.rest c.in_err-res.ensures.found)

pub returns-in-Some : goal.returns-in-Some
returns-in-Some c =
    rw (← c.self.view_is, ← c.self-inside.view_is, ← c.key_of-key.ensures)
    (key_read (λ r. option_map (lock_view r c.args.queue) (slice_get (rows_in c.args.queue r) 0)) c.args.domain _
    (rw c.key_of-key.ensures (key_fits c.args.parent c.args.domain c.args.name)) _
    c.self-inside.invariant.rest c.resource.ensures.sound c.in_ok-res.res c.in_ok-res.ensures.found (Some c.lock_view.result)
    (at_head _ c.resource.ensures.sound _ c.in_ok-res.res c.in_ok-res.ensures.found c.args.queue c.in-Some.lock
    (sym c.head.ensures.first ∙ c.in-Some.is) c.lock_view.result c.lock_view.ensures))

pub returns-in-None : goal.returns-in-None
returns-in-None c =
    rw (← c.self.view_is, ← c.self-inside.view_is, ← c.key_of-key.ensures)
    (key_read (λ r. option_map (lock_view r c.args.queue) (slice_get (rows_in c.args.queue r) 0)) c.args.domain _
    (rw c.key_of-key.ensures (key_fits c.args.parent c.args.domain c.args.name)) _
    c.self-inside.invariant.rest c.resource.ensures.sound c.in_ok-res.res c.in_ok-res.ensures.found None
    (at_no_head _ c.resource.ensures.sound _ c.in_ok-res.res c.in_ok-res.ensures.found c.args.queue (sym c.head.ensures.first ∙ c.in-None.is)))
