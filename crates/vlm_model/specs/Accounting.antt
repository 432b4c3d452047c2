-- The law that what is queued is taken or pending.
use Rattle.std.specs.Prelude.{◌≡◌, ◌≢◌, ◌==◌, ◌++◌, ℕ, List, [], ◌∷◌, All, Option, None, Some, if◌then◌else◌}
use Rattle.vlm_words.specs.declared.asts.Ast.{Ast}
use Rattle.vlm_words.specs.declared.locks.LockState.{LockState}
use Rattle.vlm_words.specs.declared.steps.Answer.TheVariants.{Process as process_answer, Taken}
use Rattle.vlm_words.specs.declared.steps.Answer.{Answer}
use Rattle.vlm_words.specs.declared.steps.Step.TheVariants.{Take}
use Rattle.vlm_words.specs.declared.steps.Step.{Step}
use Rattle.vlm_words.specs.State.{Process, State, process_of}
use Rattle.vlm_model.specs.Taking.{queued_to}
use Rattle.vlm_model.specs.Stepped.{IsChoice, stepped}
use Rattle.vlm_model.specs.Runs.{History}

-- the AST that a Take of this process answers in the step
abbrev pub taken_in : ℕ → Step → Answer → List Ast
taken_in pid (Take process) (Taken (Some ast)) = if process == pid then ast ∷ [] else []
taken_in pid step answer = []

-- the ASTs that the Takes of the process answered, in order
abbrev pub taken_by : ℕ → List Step → List Answer → List Ast
taken_by pid (step ∷ steps) (answer ∷ answers) = taken_in pid step answer ++ taken_by pid steps answers
taken_by pid steps answers = []

-- no declaration answered this ID
abbrev pub IsNeverDeclared : ℕ → List Answer → Type 0
IsNeverDeclared pid answers = All (λ answer. answer ≢ process_answer pid) answers

-- the first of the queued ASTs were taken; the others are lost
pub record IsTakenButFor (queued taken : List Ast) : Type 0 where
  pub lost : List Ast
  pub all : queued ≡ taken ++ lost

-- a living process took the first of the ASTs that were queued to it, and the others are pending; an ended process
-- took the first, the others are lost, and no step queues it more; a process that was never declared was queued
-- nothing
pub record WhatIsQueuedIsTakenOrPending (history : History) (last : State) : Type 0 where
  pub living : (pid : ℕ) (p : Process) → process_of last.processes pid ≡ Some p
      → queued_to pid history.queued ≡ taken_by pid history.steps history.answers ++ p.asts
  pub ended : (pid : ℕ) → process_of last.processes pid ≡ None
      → IsTakenButFor (queued_to pid history.queued) (taken_by pid history.steps history.answers)
  pub no_more : (pid : ℕ) → process_of last.processes pid ≡ None
      → (step : Step) (choice : Option LockState) → IsChoice last step choice
      → queued_to pid (stepped last step choice).queued ≡ []
  pub undeclared : (pid : ℕ) → IsNeverDeclared pid history.answers
      → queued_to pid history.queued ≡ []
