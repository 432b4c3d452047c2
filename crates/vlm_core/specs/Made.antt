-- Steps that take no memory.
use Rattle.std.specs.Prelude.{◌≡◌, None}
use Rattle.vlm_words.specs.declared.steps.Answer.{Answer}
use Rattle.vlm_words.specs.declared.steps.Step.{Step}
use Rattle.vlm_words.specs.State.{State}
use Rattle.vlm_model.specs.Stepped.{stepped}

-- the new state and the answer are those of the plain machine
pub record IsMadeAlways (old : State) (step : Step) (new : State) (given : Answer) : Type 0 where
  pub state : new ≡ (stepped old step None).state
  pub answer : given ≡ (stepped old step None).answer
