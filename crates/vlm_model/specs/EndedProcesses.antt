-- The law of ended processes.
use Rattle.std.specs.Prelude.{◌≡◌, ◌≢◌, ◌/◌, ◌⊎◌, ℕ, List, [], All, Option}
use Rattle.vlm_words.specs.declared.asts.Ast.{Ast}
use Rattle.vlm_words.specs.declared.conditions.Cond.TheVariants.{Departed, Nonexpr, Normal}
use Rattle.vlm_words.specs.declared.steps.Answer.TheVariants.{Plain, Taken}
use Rattle.vlm_words.specs.declared.steps.Answer.{Answer}
use Rattle.vlm_words.specs.declared.steps.Step.TheVariants.{Declare, SetValue, Enq, Convert, Deq, Rundown, Leave, Search, Take}
use Rattle.vlm_words.specs.declared.steps.Step.{Step}
use Rattle.vlm_words.specs.State.{State}
use Rattle.vlm_model.specs.Taking.{queued_to}
use Rattle.vlm_model.specs.Stepped.{Outcome, outcome_queued}
use Rattle.vlm_model.specs.Runs.{History}
use Rattle.vlm_model.specs.Happened.{HasHappened, IsRefusal}

-- the step names the process
abbrev pub IsStepOfProcess : ℕ → Step → Type 0
IsStepOfProcess pid (Declare d) = ⊥
IsStepOfProcess pid (SetValue v) = v.pid ≡ pid
IsStepOfProcess pid (Enq e) = e.pid ≡ pid
IsStepOfProcess pid (Convert c) = c.pid ≡ pid
IsStepOfProcess pid (Deq d) = d.pid ≡ pid
IsStepOfProcess pid (Rundown process) = process ≡ pid
IsStepOfProcess pid (Leave node) = ⊥
IsStepOfProcess pid (Search node) = ⊥
IsStepOfProcess pid (Take process) = process ≡ pid

-- the step is the accepted rundown of the process, or the accepted departure of its node
abbrev pub IsEndOf : ℕ → Step → Answer → Type 0
IsEndOf pid step answer = ((step ≡ Rundown pid) ⊎ (step ≡ Leave (pid / 65536))) × (answer ≡ Plain Normal)

-- the run has an accepted rundown of the process, or departure of its node
abbrev pub HasEnded : ℕ → List Step → List Answer → Type 0
HasEnded pid steps answers = HasHappened (IsEndOf pid) steps answers

-- no living process has the ID of an ended one; each step of it is refused by NONEXPR or DEPARTED, and
-- nothing is queued to it
pub record EndedProcessesAreToldNoMore (history : History) (last : State) : Type 0 where
  pub gone : (pid : ℕ) → HasEnded pid history.steps history.answers → All (λ p. p.pid ≢ pid) last.processes
  pub refused : (pid : ℕ) → HasEnded pid history.steps history.answers
      → (step : Step) → IsStepOfProcess pid step
      → (new : State) (answer : Answer) (outcome : Outcome last step new answer)
      → IsRefusal Nonexpr last step new answer outcome ⊎ IsRefusal Departed last step new answer outcome
  pub untaken : (pid : ℕ) → HasEnded pid history.steps history.answers
      → (ast : Option Ast) (new : State) → Outcome last (Take pid) new (Taken ast) → ⊥
  pub none_queued : (pid : ℕ) → HasEnded pid history.steps history.answers
      → (step : Step) (new : State) (answer : Answer) (outcome : Outcome last step new answer)
      → queued_to pid (outcome_queued outcome) ≡ []
