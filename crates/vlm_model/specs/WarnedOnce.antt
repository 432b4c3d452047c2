-- The law that a grant is warned at most once.
use Rattle.std.specs.Prelude.{◌≤◌, ◌==◌, ◌+◌, ◌&&◌, ℕ, Bool, true, false, count_by, sum_by, is_some}
use Rattle.vlm_words.specs.declared.asts.AstKind.{AstKind}
use Rattle.vlm_words.specs.declared.asts.AstKind.TheVariants.{Completion, Blocking}
use Rattle.vlm_words.specs.declared.locks.LockState.{LockState}
use Rattle.vlm_words.specs.State.{Resource, State}
use Rattle.vlm_model.specs.Endings.{Ending, How}
use Rattle.vlm_model.specs.Endings.How.{by_abort, by_cancel, by_deadlock, by_grant, by_rundown}
use Rattle.vlm_model.specs.Asts.{Queued}
use Rattle.vlm_model.specs.Runs.{History}

-- the AST is a blocking AST
abbrev pub tells_warning : AstKind → Bool
tells_warning Completion = false
tells_warning Blocking = true

-- the queued AST is a blocking AST of the lock
abbrev pub is_warning_of : ℕ → Queued → Bool
is_warning_of lkid q = tells_warning q.ast.kind && (q.ast.lkid == lkid)

-- the row is of the lock, and armed
abbrev pub is_armed_lock : ℕ → LockState → Bool
is_armed_lock lkid row = (row.lkid == lkid) && row.armed

-- how many rows of a resource are of the lock, and armed
abbrev pub armed_rows_of : ℕ → Resource → ℕ
armed_rows_of lkid r =
    count_by (is_armed_lock lkid) r.granted + count_by (is_armed_lock lkid) r.converting
    + count_by (is_armed_lock lkid) r.waiting

-- the request is granted
abbrev pub is_granted_so : How → Bool
is_granted_so (by_grant act) = true
is_granted_so by_abort = false
is_granted_so by_cancel = false
is_granted_so by_deadlock = false
is_granted_so by_rundown = false

-- the ending is a grant to the lock, and its request names a blocking routine
abbrev pub is_grant_to_warn : ℕ → Ending → Bool
is_grant_to_warn lkid ending =
    is_granted_so ending.how && (ending.lkid == lkid) && is_some ending.request.blocking

-- the warnings of a lock, and one more if it is armed, are at most its grants with a blocking routine
abbrev pub EachGrantIsWarnedAtMostOnce : History → State → Type 0
EachGrantIsWarnedAtMostOnce history last = (lkid : ℕ)
    → count_by (is_warning_of lkid) history.queued + sum_by (armed_rows_of lkid) last.resources
    ≤ count_by (is_grant_to_warn lkid) history.endings
