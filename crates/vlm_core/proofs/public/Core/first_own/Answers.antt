use Rattle.std.proofs.Common.{refl, sym, ◌∙◌}
use Rattle.vlm_store.proofs.PlainProcesses.{process_of-none}
use Rattle.vlm_core.proofs.SingleLocks.{stored_first_own, no_first_own, the_first_own}
use Rattle.vlm_core.proofs.public.Core.first_own.Goals as goal

pub returns-in_err-process : goal.returns-in_err-process
returns-in_err-process c =
    rw (← c.self.view_is, ← c.self-inside.view_is, c.from_residual.ensures)
    (process_of-none c.args.pid _ c.in_err-process.ensures.found)

pub lock_view-requires-clause-stored : goal.lock_view-requires-clause-stored
lock_view-requires-clause-stored c =
    stored_first_own _ c.process.ensures.sound c.self-inside.invariant.rest c.in_ok-process.process c.args.pid
    c.in_ok-process.ensures.found c.in-Some.lock (sym c.first_own.ensures.first ∙ c.in-Some.is)

pub returns-in-Some : goal.returns-in-Some
returns-in-Some c =
    rw (← c.self.view_is, ← c.self-inside.view_is)
    (the_first_own _ c.process.ensures.sound _ refl c.self-inside.invariant.rest c.in_ok-process.process c.args.pid
    c.in_ok-process.ensures.found c.in-Some.lock (sym c.first_own.ensures.first ∙ c.in-Some.is)
    c.lock_view.result c.lock_view.ensures)

pub returns-in-None : goal.returns-in-None
returns-in-None c =
    rw (← c.self.view_is, ← c.self-inside.view_is)
    (no_first_own _ c.process.ensures.sound _ refl c.self-inside.invariant.rest c.in_ok-process.process c.args.pid
    c.in_ok-process.ensures.found (sym c.first_own.ensures.first ∙ c.in-None.is))
