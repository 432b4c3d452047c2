use Rattle.std.proofs.Common.{subst, sym}
use Rattle.vlm_model.specs.Pending.{ProcessesRise}
use Rattle.vlm_core.specs.declared.public.Core.TheInside.{Inside}
use Rattle.vlm_machine.specs.Machine.{plain_state}
use Rattle.vlm_core.proofs.FirstPending.{first_found}
use Rattle.vlm_core.proofs.public.Core.pending_of.Goals as goal

pub returns : goal.returns
returns c =
    let law : ProcessesRise (plain_state c.self.inside.machine) =
    c.law_process_ids_rise.ensures c.self.invariant.reachable.history _ c.self.invariant.reachable.run in
    let rise = subst (λ (core : Inside). ProcessesRise (plain_state core.machine)) (sym c.self-inside.view_is) law in
    rw (← c.self.view_is, ← c.self-inside.view_is)
    (first_found c.args.node _ c.pending_of.result rise.named rise.rising c.pending_of.ensures)
