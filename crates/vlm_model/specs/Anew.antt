-- The law that no ID is given twice.
use Rattle.std.specs.Prelude.{◌≡◌, ℕ, Option}
use Rattle.vlm_words.specs.declared.locks.LockState.{LockState}
use Rattle.vlm_words.specs.declared.steps.Answer.TheVariants.{Process as process_answer}
use Rattle.vlm_words.specs.declared.steps.Step.{Step}
use Rattle.vlm_words.specs.State.{State}
use Rattle.vlm_model.specs.Stepped.{IsChoice, stepped}
use Rattle.vlm_model.specs.Runs.{History}
use Rattle.vlm_model.specs.Accounting.{IsNeverDeclared}

-- the ID that a declaration answers was answered by no earlier declaration
abbrev pub GivesNoneTwice : History → State → Type 0
GivesNoneTwice history last =
    (step : Step) (choice : Option LockState) → IsChoice last step choice → (pid : ℕ)
    → (stepped last step choice).answer ≡ process_answer pid → IsNeverDeclared pid history.answers
