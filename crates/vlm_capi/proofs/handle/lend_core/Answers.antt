use Rattle.std.proofs.Common.{Some, refl, sym, subst}
use Rattle.std.specs.Fn.{FnOnceReturnsAtMut}
use Rattle.vlm_capi.specs.declared.held.Held.TheVariants.{Core}
use Rattle.vlm_capi.specs.Lending.{LendsCore}
use Rattle.vlm_capi.proofs.handle.lend_core.Goals as goal

pub returns-in-Core : goal.returns-in-Core
returns-in-Core g c =
    subst (λ held. LendsCore (FnOnceReturnsAtMut g.F.FnOnce c.args.call) (Some held) (Some c.call.result) (Some (Core c.call.new.arg2)))
    (sym c.in-Core.is) (record { shown = _; shows = refl; left = _; met = c.call.ensures; leaves = refl })
