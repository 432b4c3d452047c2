-- The law that a warned lock is in the way.
use Rattle.std.specs.Prelude.{◌≡◌, ◌++◌, List, All, Any}
use Rattle.vlm_words.specs.declared.asts.AstKind.TheVariants.{Blocking}
use Rattle.vlm_words.specs.declared.locks.LockState.{LockState}
use Rattle.vlm_words.specs.State.{State}
use Rattle.vlm_model.specs.Asts.{Queued}
use Rattle.vlm_model.specs.Laws.{AreCompatible}
use Rattle.vlm_model.specs.Stepped.{Stepped}

-- the row is the lock of this AST and of the process that gets it, and its held mode is incompatible with one of
-- these queued requests
pub record IsInTheWayOf (queued : List LockState) (q : Queued) (row : LockState) : Type 0 where
  pub lock : row.lkid ≡ q.ast.lkid
  pub process : row.pid ≡ q.pid
  pub blocks_request : Any (λ other. AreCompatible other.want row.held → ⊥) queued

-- the lock of a blocking AST is granted on some resource, and blocks a queued request there
abbrev pub IsOfLockInTheWay : State → Queued → Type 0
IsOfLockInTheWay s q = q.ast.kind ≡ Blocking
    → Any (λ r. Any (IsInTheWayOf (r.converting ++ r.waiting) q) r.granted) s.resources

-- the lock of each blocking AST that the step queues blocks a queued request after the step
abbrev pub WarnedLocksAreInTheWay : Stepped → Type 0
WarnedLocksAreInTheWay made = All (IsOfLockInTheWay made.state) made.queued
