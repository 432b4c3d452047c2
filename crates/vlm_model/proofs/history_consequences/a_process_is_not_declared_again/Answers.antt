use Rattle.std.proofs.Common.{◌≢◌, refl}
use Rattle.std.proofs.lemmas.List.Elements.{All-contains}
use Rattle.vlm_words.specs.declared.steps.Answer.TheVariants.{Process as process_answer}
use Rattle.vlm_words.specs.declared.steps.Answer.{Answer}
use Rattle.vlm_words.specs.declared.steps.Step.TheVariants.{Declare}
use Rattle.std.specs.Prelude.{None}
use Rattle.vlm_model.proofs.history_consequences.a_process_is_not_declared_again.Goals as goal

pub returns : goal.returns
returns c = λ history last d pid law earlier answered.
    All-contains (λ (answer : Answer). answer ≢ process_answer pid) history.answers (process_answer pid)
    (law (Declare d) None refl pid answered) earlier refl
