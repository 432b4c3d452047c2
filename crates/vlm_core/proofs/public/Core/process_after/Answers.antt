use Rattle.std.proofs.Common.{Some, ap, ◌∙◌}
use Rattle.std.specs.Option.{option_map}
use Rattle.vlm_procs.specs.Views.{process_view}
use Rattle.vlm_core.proofs.NextRecords.{no_process, process_shown}
use Rattle.vlm_core.proofs.public.Core.process_after.Goals as goal

pub returns-in_err-at : goal.returns-in_err-at
returns-in_err-at c =
    rw (← c.self.view_is, ← c.self-inside.view_is)
    (c.from_residual.ensures ∙ no_process c.args.pid _ c.in_err-at.ensures.found)

pub returns-in-Some : goal.returns-in-Some
returns-in-Some c =
    rw (← c.self.view_is, ← c.self-inside.view_is)
    (ap (λ v. Some (Some v)) c.of.ensures
    ∙ ap (λ o. Some (option_map process_view o)) c.in-Some.ensures
    ∙ process_shown _ c.process.ensures.sound c.args.pid c.in_ok-at.at c.in_ok-at.ensures.found)

pub returns-in-None : goal.returns-in-None
returns-in-None c =
    rw (← c.self.view_is, ← c.self-inside.view_is)
    (ap (λ o. Some (option_map process_view o)) c.in-None.ensures
    ∙ process_shown _ c.process.ensures.sound c.args.pid c.in_ok-at.at c.in_ok-at.ensures.found)
