use Rattle.std.proofs.Common.{ap, refl}
use Rattle.vlm_words.specs.declared.steps.Answer.TheVariants.{Process as process_answer}
use Rattle.vlm_words.specs.declared.steps.Step.TheVariants.{Declare}
use Rattle.vlm_model.specs.Declare.{declare_change}
use Rattle.vlm_machine.specs.Machine.{plain_state}
use Rattle.vlm_machine.proofs.ChangedAndSwept.{made_unswept}
use Rattle.vlm_machine.proofs.FutureIds.{new_process}
use Rattle.vlm_machine.proofs.records.Machine.declare.Goals as goal

pub declare_change-requires-clause-new : goal.declare_change-requires-clause-new
declare_change-requires-clause-new c =
    new_process c.args.self.now c.args.declaration c.in_default.ensures.refusal c.requires.new_processes

pub returns-in-Ok-clause-outcome : goal.returns-in-Ok-clause-outcome
unfolding declare_change
returns-in-Ok-clause-outcome c =
    made_unswept (plain_state c.args.self.now) (plain_state c.declare_change.new.self) (Declare c.args.declaration)
    (process_answer c.in-Ok.pid) refl c.in_default.ensures.refusal
    c.requires.stable c.in-Ok.ensures.change (ap process_answer c.in-Ok.ensures.pid)
