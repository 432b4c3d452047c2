-- The law that a step's own change keeps each queue in order.
use Rattle.std.specs.Prelude.{◌≡◌, ◌≤◌, ◌/◌, ◌==◌, ◌++◌, ℕ, Bool, true, false, List, [], ◌∷◌, All, Option, None, Some, length, if◌then◌else◌}
use Rattle.std.specs.List.{AllZip, list_any}
use Rattle.vlm_words.specs.declared.locks.LockState.{LockState}
use Rattle.vlm_words.specs.declared.steps.Step.TheVariants.{Declare, SetValue, Enq, Convert, Deq, Rundown, Leave, Search, Take}
use Rattle.vlm_words.specs.declared.steps.Step.{Step}
use Rattle.vlm_words.specs.State.{Resource, State}
use Rattle.vlm_model.specs.Checks.{named_lkid}
use Rattle.vlm_words.specs.Flags.{deqall, has_flag}
use Rattle.vlm_model.specs.OwnLocks.{has_lock_among}
use Rattle.vlm_model.specs.Laws.{IsSameResource}
use Rattle.vlm_model.specs.Stepped.{step_change}

-- the lock belongs to one of these processes
abbrev pub is_lock_of_one : (ℕ → Bool) → State → ℕ → Bool
is_lock_of_one is_one s lkid = list_any (has_lock_among is_one lkid) s.resources

-- the lock is the one chosen by a search, if there is one
abbrev pub is_chosen_lock : Option LockState → ℕ → Bool
is_chosen_lock None lkid = false
is_chosen_lock (Some chosen) lkid = lkid == chosen.lkid

-- the step's own locks: the lock that it makes or names; with DEQALL, a rundown or a departure all locks of the
-- processes; for a search the victim
abbrev pub is_own_lock : State → Step → Option LockState → ℕ → Bool
is_own_lock s (Declare d) choice lkid = false
is_own_lock s (SetValue v) choice lkid = false
is_own_lock s (Enq e) choice lkid = lkid == s.next_lkid
is_own_lock s (Convert c) choice lkid = lkid == named_lkid s c.pid c.lock
is_own_lock s (Deq d) choice lkid =
    if has_flag d.flags deqall then is_lock_of_one (λ pid. pid == d.pid) s lkid
    else lkid == named_lkid s d.pid d.lock
is_own_lock s (Rundown process) choice lkid = is_lock_of_one (λ pid. pid == process) s lkid
is_own_lock s (Leave node) choice lkid = is_lock_of_one (λ pid. pid / 65536 == node) s lkid
is_own_lock s (Search node) choice lkid = is_chosen_lock choice lkid
is_own_lock s (Take pid) choice lkid = false

-- rows keep their order; only own locks leave, and at most one own lock joins, at the end
pub data JoinsBehind (own : ℕ → Bool) : List LockState → List LockState → Type 0 where
  nobody_joins : JoinsBehind own [] []
  one_joins : {row : LockState} → own row.lkid ≡ true → JoinsBehind own [] (row ∷ [])
  row_stays : {row : LockState} {before after : List LockState} → JoinsBehind own before after
      → JoinsBehind own (row ∷ before) (row ∷ after)
  row_leaves : {row : LockState} {before after : List LockState} → own row.lkid ≡ true → JoinsBehind own before after
      → JoinsBehind own (row ∷ before) after

-- the resource is the same, and each of its queues keeps its order
pub record KeepsOrder (own : ℕ → Bool) (before after : Resource) : Type 0 where
  pub same : IsSameResource before after
  pub granted : JoinsBehind own before.granted after.granted
  pub converting : JoinsBehind own before.converting after.converting
  pub waiting : JoinsBehind own before.waiting after.waiting

-- a new resource has at most one lock in each queue, an own lock
pub record HasOwnAlone (own : ℕ → Bool) (r : Resource) : Type 0 where
  pub granted : JoinsBehind own [] r.granted
  pub converting : JoinsBehind own [] r.converting
  pub waiting : JoinsBehind own [] r.waiting

-- the step's change keeps the order of every queue, and makes at most one resource, at the end
pub record ChangesKeepOrder (old : State) (step : Step) (choice : Option LockState) : Type 0 where
  pub kept : List Resource
  pub made : List Resource
  pub resources : (step_change old step choice).state.resources ≡ kept ++ made
  pub order : AllZip (KeepsOrder (is_own_lock old step choice)) old.resources kept
  pub own : All (HasOwnAlone (is_own_lock old step choice)) made
  pub at_most_one : length made ≤ 1
