-- The laws of Deq with DEQALL.
use Rattle.std.specs.Prelude.{◌≡◌, ◌≢◌, ◌<◌, ◌⊎◌, ◌++◌, ℕ, List, [], ◌∷◌, All, AllPairs, Any, Option}
use Rattle.std.specs.List.{AllZip}
use Rattle.vlm_words.specs.declared.locks.LockState.{LockState}
use Rattle.vlm_words.specs.declared.steps.Dequeue.{Dequeue}
use Rattle.vlm_words.specs.declared.steps.Step.TheVariants.{Deq}
use Rattle.vlm_words.specs.State.{Resource, State}
use Rattle.vlm_model.specs.Endings.How.{by_abort}
use Rattle.vlm_model.specs.Checks.{named_lkid}
use Rattle.vlm_model.specs.Laws.{IsSameResource}
use Rattle.vlm_model.specs.Stepped.{step_change}

-- the lock has this parent lock
abbrev pub HasParent : State → ℕ → ℕ → Type 0
HasParent s lkid parent =
    Any (λ r. Any (λ row. (row.lkid ≡ lkid) × (row.parent ≡ parent)) (r.granted ++ r.converting ++ r.waiting))
    s.resources

-- a chain of parent locks leads from the lock to top
pub data IsDescendant (s : State) (top : ℕ) : ℕ → Type 0 where
  is_sublock : {lkid : ℕ} → HasParent s lkid top → IsDescendant s top lkid
  has_parent_below : {lkid parent : ℕ} → HasParent s lkid parent → IsDescendant s top parent → IsDescendant s top lkid

-- the dequeue takes the lock: with 0 each lock of the caller, else the locks below the named one
abbrev pub IsDequeued : State → Dequeue → LockState → Type 0
IsDequeued s d row =
    ((named_lkid s d.pid d.lock ≡ 0) × (row.pid ≡ d.pid))
    ⊎ ((named_lkid s d.pid d.lock ≢ 0) × IsDescendant s (named_lkid s d.pid d.lock) row.lkid)

-- each taken row goes, and is the caller's; the other rows stay as they were, in their order
pub data LosesRows (caller : ℕ) (Taken : LockState → Type 0) : List LockState → List LockState → Type 0 where
  none_left : LosesRows caller Taken [] []
  row_goes : {row : LockState} {before after : List LockState} → Taken row → row.pid ≡ caller
      → LosesRows caller Taken before after
      → LosesRows caller Taken (row ∷ before) after
  row_stays : {row : LockState} {before after : List LockState} → (Taken row → ⊥) → LosesRows caller Taken before after
      → LosesRows caller Taken (row ∷ before) (row ∷ after)

-- the resource stays the same, and its queues lose the taken locks
pub record LosesLocks (caller : ℕ) (Taken : LockState → Type 0) (before after : Resource) : Type 0 where
  pub same : IsSameResource before after
  pub granted : LosesRows caller Taken before.granted after.granted
  pub converting : LosesRows caller Taken before.converting after.converting
  pub waiting : LosesRows caller Taken before.waiting after.waiting

-- before its sweep the dequeue takes exactly these locks, on each resource
abbrev pub TakesThoseBelowAlone : State → Dequeue → Option LockState → Type 0
TakesThoseBelowAlone old d choice =
    AllZip (LosesLocks d.pid (IsDequeued old d)) old.resources (step_change old (Deq d) choice).state.resources

-- the requests that it ends before its sweep end by abort, by rising ID of their locks
pub record AbortsByRisingId (old : State) (d : Dequeue) (choice : Option LockState) : Type 0 where
  pub aborts : All (λ ending. ending.how ≡ by_abort) (step_change old (Deq d) choice).endings
  pub rises : AllPairs (λ a b. a.lkid < b.lkid) (step_change old (Deq d) choice).endings
