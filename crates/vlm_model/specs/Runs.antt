-- Runs of the plain machine.
use Rattle.std.specs.Prelude.{◌≡◌, List, [], ◌∷◌, ◌++◌}
use Rattle.vlm_words.specs.declared.steps.Answer.{Answer}
use Rattle.vlm_words.specs.declared.steps.Step.{Step}
use Rattle.vlm_model.specs.Endings.{Ending}
use Rattle.vlm_model.specs.Asts.{Queued}
use Rattle.vlm_words.specs.State.{State, start}
use Rattle.vlm_model.specs.Stepped.{Outcome, outcome_endings, outcome_queued}

-- what happened in a run, in order: steps, answers, endings, and queued ASTs
pub record History : Type 0 where
  pub steps : List Step
  pub answers : List Answer
  pub endings : List Ending
  pub queued : List Queued

-- the history of an empty run
abbrev pub no_history : History
no_history = record { steps = []; answers = []; endings = []; queued = [] }

-- the history after one more step
abbrev pub history_after : History → Step → Answer → List Ending → List Queued → History
history_after h step answer endings queued = record {
  steps = h.steps ++ step ∷ [];
  answers = h.answers ++ answer ∷ [];
  endings = h.endings ++ endings;
  queued = h.queued ++ queued;
}

-- a run from this state: each step is an outcome in the state before it
pub data RunFrom (first : State) : History → State → Type 0 where
  begin : RunFrom first no_history first
  next : {history : History} {old new : State} {step : Step} {answer : Answer}
      → RunFrom first history old → (outcome : Outcome old step new answer)
      → RunFrom first (history_after history step answer (outcome_endings outcome) (outcome_queued outcome)) new

-- a run from the start of the machine
abbrev pub Run : History → State → Type 0
Run history last = RunFrom start history last

-- a legal run of these steps with these answers leads from the first state to the last
pub record Legal (first : State) (steps : List Step) (answers : List Answer) (last : State) : Type 0 where
  pub history : History
  pub run : RunFrom first history last
  pub taken : history.steps ≡ steps
  pub answered : history.answers ≡ answers
