use Rattle.std.proofs.Common.{refl}
use Rattle.vlm_words.specs.declared.conditions.Cond.TheVariants.{Normal}
use Rattle.vlm_words.specs.declared.steps.Answer.TheVariants.{Plain}
use Rattle.vlm_words.specs.declared.steps.Step.TheVariants.{SetValue}
use Rattle.vlm_model.specs.SetValue.{set_change}
use Rattle.vlm_machine.specs.Machine.{plain_state}
use Rattle.vlm_machine.proofs.ChangedAndSwept.{made_unswept}
use Rattle.vlm_machine.proofs.records.Machine.set_value.Goals as goal

pub returns-in-Ok : goal.returns-in-Ok
unfolding set_change
returns-in-Ok c =
    made_unswept (plain_state c.args.self.now) (plain_state c.set_change.new.self) (SetValue c.args.setting.now) (Plain Normal) refl c.in-Ok.ensures.refusal
    c.requires.stable c.set_change.ensures refl
