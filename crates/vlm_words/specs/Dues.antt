-- How many ASTs the locks of a process may still queue to it.
use Rattle.std.specs.Prelude.{ℕ, Bool, ◌==◌, ◌+◌, ◌++◌, List, sum_by, Option, None, Some, is_some, if◌then◌else◌}
use Rattle.vlm_words.specs.declared.locks.Request.{Request}
use Rattle.vlm_words.specs.declared.locks.LockState.{LockState}
use Rattle.vlm_words.specs.State.{Resource}

-- 1 if b is true, else 0
abbrev pub one_where : Bool → ℕ
one_where b = if b then 1 else 0

-- how many routines are named, 0 to 2
abbrev pub routines_named : Option ℕ → Option ℕ → ℕ
routines_named completion blocking = one_where (is_some completion) + one_where (is_some blocking)

-- how many routines a request names; without a request, 0
abbrev pub routines_of : Option Request → ℕ
routines_of None = 0
routines_of (Some request) = routines_named request.completion request.blocking

-- the ASTs that a lock may still bring: one for each routine it wants, and one if it is armed
abbrev pub row_due : LockState → ℕ
row_due row = routines_of row.want + one_where row.armed

-- the ASTs that a lock may still bring to this process; 0 if the lock is another's
abbrev pub due_to : ℕ → LockState → ℕ
due_to pid row = if row.pid == pid then row_due row else 0

-- the ASTs that all locks of a process may still bring
abbrev pub due : ℕ → List Resource → ℕ
due pid resources = sum_by (λ r. sum_by (due_to pid) (r.granted ++ r.converting ++ r.waiting)) resources
