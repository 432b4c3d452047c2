use Rattle.std.proofs.Common.{Some, refl, sym, subst}
use Rattle.std.specs.Fn.{FnOnceReturnsAtMut}
use Rattle.vlm_capi.specs.declared.held.Held.TheVariants.{Port}
use Rattle.vlm_capi.specs.Lending.{LendsPort}
use Rattle.vlm_capi.proofs.handle.lend_port.Goals as goal

pub returns-in-Port : goal.returns-in-Port
returns-in-Port g c =
    subst (λ held. LendsPort (FnOnceReturnsAtMut g.F.FnOnce c.args.call) (Some held) (Some c.call.result) (Some (Port c.call.new.arg2)))
    (sym c.in-Port.is) (record { shown = _; shows = refl; left = _; met = c.call.ensures; leaves = refl })
