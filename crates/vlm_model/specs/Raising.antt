-- The laws of how many ASTs a process may get.
use Rattle.std.specs.Prelude.{◌≡◌, ◌≤◌, ◌==◌, ◌+◌, ℕ, List, ◌∷◌, Option, Some, length, if◌then◌else◌}
use Rattle.vlm_words.specs.declared.locks.LockState.{LockState}
use Rattle.vlm_words.specs.declared.steps.Answer.TheVariants.{Lock}
use Rattle.vlm_words.specs.declared.steps.Answer.{Answer}
use Rattle.vlm_words.specs.declared.steps.Step.TheVariants.{Enq, Convert}
use Rattle.vlm_words.specs.declared.steps.Step.{Step}
use Rattle.vlm_words.specs.State.{Process, State, process_of}
use Rattle.vlm_words.specs.Dues.{due, routines_named}
use Rattle.vlm_model.specs.Taking.{queued_to}
use Rattle.vlm_model.specs.Stepped.{stepped}
use Rattle.vlm_model.specs.Runs.{History}

-- how many routines the process's own request names, if the step accepts it
abbrev pub routines_asked : ℕ → Step → Answer → ℕ
routines_asked pid (Enq e) (Lock cond lkid) = if e.pid == pid then routines_named e.ast e.bast else 0
routines_asked pid (Convert c) (Lock cond lkid) = if c.pid == pid then routines_named c.ast c.bast else 0
routines_asked pid step answer = 0

-- the ASTs of a living process, pending and due together, grow at most by the routines of its own accepted request
pub record OnlyOwnRequestsRaiseDues (old : State) (step : Step) (choice : Option LockState) : Type 0 where
  pub room : (pid : ℕ) (before after : Process) → process_of old.processes pid ≡ Some before
      → process_of (stepped old step choice).state.processes pid ≡ Some after
      → length after.asts + due pid (stepped old step choice).state.resources
      ≤ length before.asts + due pid old.resources + routines_asked pid step (stepped old step choice).answer

-- how many routines the process named in its accepted requests
abbrev pub routines_named_in : ℕ → List Step → List Answer → ℕ
routines_named_in pid (step ∷ steps) (answer ∷ answers) =
    routines_asked pid step answer + routines_named_in pid steps answers
routines_named_in pid steps answers = 0

-- no process was queued more ASTs than it named routines in its accepted requests
abbrev pub NoMoreIsQueuedThanNamed : History → Type 0
NoMoreIsQueuedThanNamed history = (pid : ℕ)
    → length (queued_to pid history.queued) ≤ routines_named_in pid history.steps history.answers
