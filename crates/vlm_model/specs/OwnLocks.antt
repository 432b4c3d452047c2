-- The locks of several processes, and the locks below a lock.
use Rattle.std.specs.Prelude.{ℕ, Bool, zero, suc, false, ◌&&◌, ◌||◌, ◌==◌, ◌-◌, ◌++◌, List, filter, flat_map, slice_get}
use Rattle.std.specs.List.{list_any, range_with_len}
use Rattle.std.specs.Option.{option_map_or}
use Rattle.vlm_words.specs.declared.locks.LockState.{LockState}
use Rattle.vlm_words.specs.Rows.{rows_of}
use Rattle.vlm_words.specs.State.{Resource, State}

-- the row is of this lock, and its process is one of these
abbrev pub is_lock_among : (ℕ → Bool) → ℕ → LockState → Bool
is_lock_among is_one lkid row = (row.lkid == lkid) && is_one row.pid

-- the lock is on the resource, in some queue, and its process is one of these
abbrev pub has_lock_among : (ℕ → Bool) → ℕ → Resource → Bool
has_lock_among is_one lkid r =
    list_any (is_lock_among is_one lkid) r.granted || list_any (is_lock_among is_one lkid) r.converting
    || list_any (is_lock_among is_one lkid) r.waiting

-- the locks of these processes, by rising ID
abbrev pub own_lkids : (ℕ → Bool) → State → List ℕ
own_lkids is_one s =
    filter (λ lkid. list_any (has_lock_among is_one lkid) s.resources) (range_with_len 1 (s.next_lkid - 1))

-- the rows of this lock on all resources
abbrev pub all_rows_of : ℕ → List Resource → List LockState
all_rows_of lkid resources =
    flat_map (λ r. rows_of lkid r.granted ++ rows_of lkid r.converting ++ rows_of lkid r.waiting) resources

-- the parent lock of a lock, or 0
unfoldable pub parent_of : ℕ → List Resource → ℕ
parent_of lkid resources = option_map_or (λ row. row.parent) (slice_get (all_rows_of lkid resources) 0) 0

-- the lock is below top: top is its parent lock, or the parent lock of that one, and so on, within this many levels
abbrev pub is_below : ℕ → ℕ → List Resource → ℕ → Bool
is_below zero top resources lkid = false
is_below (suc levels) top resources lkid =
    (parent_of lkid resources == top) || is_below levels top resources (parent_of lkid resources)
