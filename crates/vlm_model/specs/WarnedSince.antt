-- The law that a grant is armed or was warned.
use Rattle.std.specs.Prelude.{◌≡◌, ◌⊎◌, ◌++◌, ⊤, ℕ, Bool, true, List, All, Any, Option, None, Some}
use Rattle.vlm_words.specs.declared.asts.AstKind.TheVariants.{Blocking}
use Rattle.vlm_words.specs.declared.locks.Request.{Request}
use Rattle.vlm_words.specs.declared.steps.Answer.{Answer}
use Rattle.vlm_words.specs.declared.steps.Step.{Step}
use Rattle.vlm_words.specs.State.{State}
use Rattle.vlm_model.specs.Asts.{Queued}
use Rattle.vlm_model.specs.Granted.{IsGrantTo}
use Rattle.vlm_model.specs.Stepped.{Outcome, outcome_endings, outcome_queued}
use Rattle.vlm_model.specs.Runs.{History, Run, history_after, next}

-- the request was granted to this lock of this process, and these ASTs were queued since: by the step of the grant,
-- and by the steps after it
pub data QueuedSince (lkid pid : ℕ) (held : Request) : (history : History) (last : State) → Run history last
    → List Queued → Type 0 where
  at_grant : {history : History} {old new : State} {step : Step} {answer : Answer}
      (run : Run history old) (outcome : Outcome old step new answer)
      → Any (IsGrantTo lkid pid held) (outcome_endings outcome)
      → QueuedSince lkid pid held (history_after history step answer (outcome_endings outcome)
      (outcome_queued outcome)) new (next run outcome) (outcome_queued outcome)
  and_then : {history : History} {old new : State} {step : Step} {answer : Answer} {queued : List Queued}
      (run : Run history old) (outcome : Outcome old step new answer)
      → QueuedSince lkid pid held history old run queued
      → QueuedSince lkid pid held (history_after history step answer (outcome_endings outcome)
      (outcome_queued outcome)) new (next run outcome) (queued ++ outcome_queued outcome)

-- the queued AST is the warning of this grant: it calls this routine with the request's parameter, and goes to the
-- lock's process
pub record IsWarningOf (lkid pid : ℕ) (held : Request) (routine : ℕ) (q : Queued) : Type 0 where
  pub kind : q.ast.kind ≡ Blocking
  pub process : q.pid ≡ pid
  pub lock : q.ast.lkid ≡ lkid
  pub routine_named : q.ast.routine ≡ routine
  pub param : q.ast.param ≡ held.param

-- the lock with this granted request is armed, or was warned since the grant
pub record IsArmedOrWarned (lkid pid : ℕ) (armed : Bool) (held : Request)
    (routine : ℕ) {history : History} {last : State} (run : Run history last) : Type 0 where
  pub since : List Queued
  pub queued : QueuedSince lkid pid held history last run since
  pub warning : (armed ≡ true) ⊎ Any (IsWarningOf lkid pid held routine) since

-- if the held request names a blocking routine, the lock is armed or was warned
abbrev pub IsTold : {history : History} {last : State} → Run history last → ℕ → ℕ → Bool → Option Request → Type 0
IsTold run lkid pid armed None = ⊤
IsTold run lkid pid armed (Some held) = (routine : ℕ) → held.blocking ≡ Some routine
    → IsArmedOrWarned lkid pid armed held routine run

-- the same for each lock that holds a mode, granted or converting
abbrev pub EachGrantIsArmedOrWarned : {history : History} {last : State} → Run history last → Type 0
EachGrantIsArmedOrWarned {history} {last} run =
    All (λ r. All (λ row. IsTold run row.lkid row.pid row.armed row.held) (r.granted ++ r.converting)) last.resources
