-- The laws of departed nodes.
use Rattle.std.specs.Prelude.{◌≡◌, ◌≢◌, ◌↔◌, ◌/◌, ℕ, List, All}
use Rattle.vlm_words.specs.declared.conditions.Cond.TheVariants.{Departed, Normal}
use Rattle.vlm_words.specs.declared.steps.Answer.TheVariants.{Plain}
use Rattle.vlm_words.specs.declared.steps.Answer.{Answer}
use Rattle.vlm_words.specs.declared.steps.Step.TheVariants.{Declare, SetValue, Enq, Convert, Deq, Rundown, Leave, Search, Take}
use Rattle.vlm_words.specs.declared.steps.Step.{Step}
use Rattle.vlm_model.specs.Reasons.{HasDeparted}
use Rattle.vlm_words.specs.State.{State}
use Rattle.vlm_model.specs.Stepped.{Outcome}
use Rattle.vlm_model.specs.Runs.{History}
use Rattle.vlm_model.specs.Happened.{HasHappened, IsRefusal}

-- the step names the node, or a process of the node
abbrev pub IsStepOf : ℕ → Step → Type 0
IsStepOf node (Declare d) = d.node ≡ node
IsStepOf node (SetValue v) = v.pid / 65536 ≡ node
IsStepOf node (Enq e) = e.pid / 65536 ≡ node
IsStepOf node (Convert c) = c.pid / 65536 ≡ node
IsStepOf node (Deq d) = d.pid / 65536 ≡ node
IsStepOf node (Rundown pid) = pid / 65536 ≡ node
IsStepOf node (Leave other) = other ≡ node
IsStepOf node (Search other) = other ≡ node
IsStepOf node (Take pid) = pid / 65536 ≡ node

-- the step is the accepted departure of the node
abbrev pub IsDeparture : ℕ → Step → Answer → Type 0
IsDeparture node step answer = (step ≡ Leave node) × (answer ≡ Plain Normal)

-- the run has an accepted departure of the node
abbrev pub HasLeft : ℕ → List Step → List Answer → Type 0
HasLeft node steps answers = HasHappened (IsDeparture node) steps answers

-- a node has departed exactly if its departure was accepted; each step of it is answered DEPARTED, and no other step
-- is
pub record DepartedNodesAreToldSo (history : History) (last : State) : Type 0 where
  pub departed : (node : ℕ) → HasDeparted last node ↔ HasLeft node history.steps history.answers
  pub told : (node : ℕ) → HasLeft node history.steps history.answers
      → (step : Step) → IsStepOf node step
      → (new : State) (answer : Answer) (outcome : Outcome last step new answer)
      → IsRefusal Departed last step new answer outcome
  pub only : (step : Step) (new : State) → Outcome last step new (Plain Departed)
      → (node : ℕ) × IsStepOf node step × HasLeft node history.steps history.answers

-- no living process is of a departed node
abbrev pub NoneLivesOnDepartedNodes : History → State → Type 0
NoneLivesOnDepartedNodes history last = (node : ℕ)
    → HasLeft node history.steps history.answers → All (λ p. p.pid / 65536 ≢ node) last.processes
