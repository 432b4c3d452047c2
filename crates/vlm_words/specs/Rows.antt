-- Rows of locks.
use Rattle.std.specs.Prelude.{ℕ, Bool, true, false, not, ◌&&◌, ◌==◌, List, [], ◌∷◌, filter, Option, None, Some, is_some}
use Rattle.std.specs.List.{list_all}
use Rattle.std.specs.Option.{option_map}
use Rattle.vlm_words.specs.declared.locks.Request.{Request}
use Rattle.vlm_words.specs.declared.locks.LockState.{LockState}
use Rattle.vlm_words.specs.declared.modes.Mode.{Mode}
use Rattle.vlm_words.specs.Modes.{is_compatible}

-- the mode of a request, if there is one
abbrev pub mode_asked : Option Request → Option Mode
mode_asked request = option_map (λ q. q.mode) request

-- the row is this lock, and it is of this process
abbrev pub is_lock_of : ℕ → ℕ → LockState → Bool
is_lock_of pid lkid row = (row.lkid == lkid) && (row.pid == pid)

-- the rows of this lock
abbrev pub rows_of : ℕ → List LockState → List LockState
rows_of lkid rows = filter (λ row. row.lkid == lkid) rows

-- the rows except this lock's
abbrev pub rows_without : ℕ → List LockState → List LockState
rows_without lkid rows = filter (λ row. not (row.lkid == lkid)) rows

-- the queue has no lock
abbrev pub is_empty : List LockState → Bool
is_empty [] = true
is_empty (row ∷ rows) = false

-- the mode is compatible with what the row holds, if it holds anything
abbrev pub is_beside : Mode → Option Request → Bool
is_beside mode None = true
is_beside mode (Some held) = is_compatible mode held.mode

-- the mode fits: it is compatible with the held mode of each of these locks, granted or converting
unfoldable pub fits : Mode → List LockState → List LockState → Bool
fits mode granted converting =
    list_all (λ row. is_beside mode row.held) granted
    && list_all (λ row. is_beside mode row.held) converting

-- a grant arms the lock if its request names a blocking routine, else it disarms the lock
abbrev pub is_arming : Option Request → Bool
is_arming None = false
is_arming (Some request) = is_some request.blocking

-- the row after its grant: it holds what it wanted
abbrev pub granted_row : LockState → LockState
granted_row row = record row { held = row.want; want = None; armed = is_arming row.want }

-- the row wants the request, and holds what it held
abbrev pub wanting_row : LockState → Request → LockState
wanting_row row request = record row { want = Some request }

-- the request cannot be granted beside this held mode
abbrev pub blocks_request : Mode → Option Request → Bool
blocks_request mode None = false
blocks_request mode (Some want) = not (is_compatible want.mode mode)
