-- The law that other processes are left alone.
use Rattle.std.specs.Prelude.{◌≡◌, ◌≤◌, ◌+◌, ◌/◌, ◌==◌, ◌&&◌, ℕ, All, Option, None, Some, count_by, sum_by}
use Rattle.vlm_words.specs.declared.locks.LockState.{LockState}
use Rattle.vlm_words.specs.declared.steps.Step.TheVariants.{Declare, SetValue, Enq, Convert, Deq, Rundown, Leave, Search, Take}
use Rattle.vlm_words.specs.declared.steps.Step.{Step}
use Rattle.vlm_words.specs.State.{Resource, State}
use Rattle.vlm_model.specs.Laws.{IsGrant}
use Rattle.vlm_model.specs.Stepped.{stepped}

-- the process owns the lock that a search chose
abbrev pub IsChosenOwner : Option LockState → ℕ → Type 0
IsChosenOwner None pid = ⊥
IsChosenOwner (Some chosen) pid = pid ≡ chosen.pid

-- the process makes the step, is of the departing node, or owns the victim of a search
abbrev pub IsConcerned : Step → Option LockState → ℕ → Type 0
IsConcerned (Declare d) choice pid = ⊥
IsConcerned (SetValue v) choice pid = pid ≡ v.pid
IsConcerned (Enq e) choice pid = pid ≡ e.pid
IsConcerned (Convert c) choice pid = pid ≡ c.pid
IsConcerned (Deq d) choice pid = pid ≡ d.pid
IsConcerned (Rundown process) choice pid = pid ≡ process
IsConcerned (Leave node) choice pid = pid / 65536 ≡ node
IsConcerned (Search node) choice pid = IsChosenOwner choice pid
IsConcerned (Take process) choice pid = pid ≡ process

-- how many rows of a resource are of this lock and this process
abbrev pub lock_rows : ℕ → ℕ → Resource → ℕ
lock_rows pid lkid r =
    count_by (λ row. (row.lkid == lkid) && (row.pid == pid)) r.granted
    + count_by (λ row. (row.lkid == lkid) && (row.pid == pid)) r.converting
    + count_by (λ row. (row.lkid == lkid) && (row.pid == pid)) r.waiting

-- a step ends no request of another process except by a grant, and takes no lock of another process
pub record OthersAreLeftAlone (old : State) (step : Step) (choice : Option LockState) : Type 0 where
  pub endings :
      All (λ ending. (IsGrant ending.how → ⊥) → IsConcerned step choice ending.pid) (stepped old step choice).endings
  pub locks : (pid lkid : ℕ) → (IsConcerned step choice pid → ⊥)
      → sum_by (lock_rows pid lkid) old.resources
      ≤ sum_by (lock_rows pid lkid) (stepped old step choice).state.resources
