-- Steps in order.
use Rattle.std.specs.Prelude.{◌≡◌, List, ◌++◌}
use Rattle.vlm_words.specs.declared.steps.Answer.{Answer}
use Rattle.vlm_words.specs.declared.steps.Step.{Step}
use Rattle.vlm_model.specs.Runs.{Legal}
use Rattle.vlm_words.specs.State.{State}

-- the steps were made in order, each in the state after the step before it, and their answers are appended
pub record MakesInOrder (old : State) (steps : List Step) (before after : List Answer) (new : State) : Type 0 where
  pub given : List Answer
  pub legal : Legal old steps given new
  pub answered : after ≡ before ++ given
