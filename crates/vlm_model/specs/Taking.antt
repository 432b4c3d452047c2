-- The law that ASTs are taken in order.
use Rattle.std.specs.Prelude.{◌≡◌, ◌==◌, ◌++◌, ℕ, Bool, true, false, List, [], ◌∷◌, Option, None, Some, if◌then◌else◌}
use Rattle.vlm_words.specs.declared.asts.Ast.{Ast}
use Rattle.vlm_words.specs.declared.locks.LockState.{LockState}
use Rattle.vlm_words.specs.declared.steps.Answer.TheVariants.{Taken}
use Rattle.vlm_words.specs.declared.steps.Answer.{Answer}
use Rattle.vlm_words.specs.declared.steps.Step.TheVariants.{Take}
use Rattle.vlm_words.specs.declared.steps.Step.{Step}
use Rattle.vlm_words.specs.State.{Process, State, process_of}
use Rattle.vlm_model.specs.Asts.{Queued}
use Rattle.vlm_model.specs.Stepped.{stepped}

-- the answered AST was the oldest; if no AST is answered, no AST was pending
abbrev pub IsTakenFrom : Option Ast → List Ast → List Ast → Type 0
IsTakenFrom None before after = (before ≡ []) × (after ≡ [])
IsTakenFrom (Some ast) before after = before ≡ ast ∷ after

-- the ASTs of a process after a Take, of this process or of another
abbrev pub AstsAfterTake : Bool → Option Ast → List Ast → List Ast → Type 0
AstsAfterTake true ast before after = IsTakenFrom ast before after
AstsAfterTake false ast before after = after ≡ before

-- the ASTs that a step leaves to a process; only a Take takes one
abbrev pub AstsLeft : Step → Answer → ℕ → List Ast → List Ast → Type 0
AstsLeft (Take process) (Taken ast) pid before left = AstsAfterTake (process == pid) ast before left
AstsLeft step answer pid before left = left ≡ before

-- the ASTs that are queued to this process, in order
abbrev pub queued_to : ℕ → List Queued → List Ast
queued_to pid [] = []
queued_to pid (q ∷ queued) =
    if q.pid == pid then q.ast ∷ queued_to pid queued else queued_to pid queued

-- the ASTs of a process after a step: those left, then those that the step queues
pub record AstsAfter (step : Step) (answer : Answer) (queued : List Queued) (pid : ℕ)
    (before after : List Ast) : Type 0 where
  pub left : List Ast
  pub taken : AstsLeft step answer pid before left
  pub behind : after ≡ left ++ queued_to pid queued

-- a Take answers the oldest AST of its process; no other step takes an AST, and new ones join at the end
pub record AstsAreTakenInOrder (old : State) (step : Step) (choice : Option LockState) : Type 0 where
  pub asts : (pid : ℕ) (before after : Process) → process_of old.processes pid ≡ Some before
      → process_of (stepped old step choice).state.processes pid ≡ Some after
      → AstsAfter step (stepped old step choice).answer (stepped old step choice).queued pid before.asts after.asts
