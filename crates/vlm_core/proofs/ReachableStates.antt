-- What leads from one reachable state to the next, and what is known of such a state.
use Rattle.vlm_words.specs.declared.steps.Answer.{Answer}
use Rattle.vlm_words.specs.declared.steps.Step.{Step}
use Rattle.vlm_model.specs.Runs.{begin, history_after, next, no_history}
use Rattle.vlm_words.specs.State.{State, start}
use Rattle.vlm_model.specs.Stepped.{Outcome, outcome_endings, outcome_queued}
use Rattle.vlm_core.specs.Core.{IsReachable}

-- the start is reached by no step
pub start_reachable : IsReachable start
start_reachable = record { history = no_history; run = begin }

-- an outcome of a step leads on
pub next_reachable : (old new : State) (step : Step) (answer : Answer) → IsReachable old → Outcome old step new answer → IsReachable new
next_reachable old new step answer before outcome = record {
  history = history_after before.history step answer (outcome_endings outcome) (outcome_queued outcome);
  run = next before.run outcome;
}
