use Rattle.std.proofs.Common.{◌∙◌, ℕ, ap, refl}
use Rattle.vlm_words.specs.declared.steps.Answer.TheVariants.{Taken}
use Rattle.vlm_words.specs.declared.steps.Step.TheVariants.{Take}
use Rattle.vlm_model.specs.Take.{take_change, taken_ast}
use Rattle.vlm_machine.specs.Machine.{plain_state}
use Rattle.vlm_machine.proofs.ChangedAndSwept.{made_unswept}
use Rattle.vlm_machine.proofs.records.Machine.take.Goals as goal

pub returns-in-Ok : goal.returns-in-Ok
unfolding take_change
returns-in-Ok c =
    made_unswept (plain_state c.args.self.now) (plain_state c.take_change.new.self) (Take c.args.pid) (Taken c.take_change.result) refl c.in-Ok.ensures.refusal
    c.requires.stable (c.take_change.ensures.change ∙ ap (λ (pid : ℕ). take_change (plain_state c.args.self.now) pid) c.in-Ok.ensures.pid)
    (ap Taken (c.take_change.ensures.taken ∙ ap (λ (pid : ℕ). taken_ast (plain_state c.args.self.now) pid) c.in-Ok.ensures.pid))
