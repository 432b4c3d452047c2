-- The quota of locks of a process (ENQLM).
use Rattle.std.specs.Prelude.{ℕ, ◌+◌, ◌==◌, List, Option, None, Some, count_by, sum_by, nat_lt, if◌then◌else◌}
use Rattle.std.specs.Option.{option_map_or}
use Rattle.vlm_words.specs.declared.conditions.Cond.TheVariants.{Exenqlm}
use Rattle.vlm_words.specs.declared.conditions.Cond.{Cond}
use Rattle.vlm_words.specs.declared.locks.LockState.{LockState}
use Rattle.vlm_words.specs.State.{Process, Resource, State, process_of}

-- how many of the rows are locks of the process
abbrev pub rows_owned : ℕ → List LockState → ℕ
rows_owned pid rows = count_by (λ row. row.pid == pid) rows

-- how many locks of the process are on the resource
abbrev pub locks_on : ℕ → Resource → ℕ
locks_on pid r = rows_owned pid r.granted + rows_owned pid r.converting + rows_owned pid r.waiting

-- how many locks the process has, waiting ones included
abbrev pub locks_of : ℕ → List Resource → ℕ
locks_of pid resources = sum_by (locks_on pid) resources

-- how many locks the process may have; 0 if it does not live
abbrev pub quota_of : List Process → ℕ → ℕ
quota_of processes pid = option_map_or (λ p. p.quota) (process_of processes pid) 0

-- EXENQLM if the process has as many locks as its quota
unfoldable pub quota_refusal : State → ℕ → Option Cond
quota_refusal s pid = if nat_lt (locks_of pid s.resources) (quota_of s.processes pid) then None else Some Exenqlm
