use Rattle.std.proofs.Common.{Some, refl, sym, subst}
use Rattle.std.specs.Fn.{FnOnceReturnsAtMut}
use Rattle.std_alloc.specs.Box.{with_value}
use Rattle.vlm_capi.specs.declared.held.Held.TheVariants.{Hub}
use Rattle.vlm_capi.specs.Lending.{LendsHub}
use Rattle.vlm_capi.proofs.handle.lend_hub.Goals as goal

pub returns-in-Hub : goal.returns-in-Hub
returns-in-Hub g c =
    subst (λ held. LendsHub (FnOnceReturnsAtMut g.F.FnOnce c.args.call) (Some held) (Some c.call.result)
    (Some (Hub (with_value c.in-Hub.owned c.call.new.arg2))))
    (sym c.in-Hub.is) (record { shown = _; shows = c.deref_mut.ensures.value; left = _; met = c.call.ensures; leaves = refl })
