-- Events of a run, and refusals.
use Rattle.std.specs.Prelude.{◌≡◌, ◌⊎◌, List, [], ◌∷◌}
use Rattle.vlm_words.specs.declared.conditions.Cond.{Cond}
use Rattle.vlm_words.specs.declared.steps.Answer.TheVariants.{Plain}
use Rattle.vlm_words.specs.declared.steps.Answer.{Answer}
use Rattle.vlm_words.specs.declared.steps.Step.{Step}
use Rattle.vlm_words.specs.State.{State}
use Rattle.vlm_model.specs.Stepped.{Outcome, outcome_endings, outcome_queued}

-- P holds of one of these steps with its answer
abbrev pub HasHappened : (Step → Answer → Type 0) → List Step → List Answer → Type 0
HasHappened P (step ∷ steps) (answer ∷ answers) = P step answer ⊎ HasHappened P steps answers
HasHappened P steps answers = ⊥

-- the outcome is a refusal by this condition: nothing changes, no request ends, and nothing is queued
pub record IsRefusal (refusal : Cond) (old : State) (step : Step) (new : State) (answer : Answer)
    (outcome : Outcome old step new answer) : Type 0 where
  pub answered : answer ≡ Plain refusal
  pub state : new ≡ old
  pub none_ends : outcome_endings outcome ≡ []
  pub none_queued : outcome_queued outcome ≡ []
