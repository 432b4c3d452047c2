-- The laws of a Deq of one lock, of a CANCEL, and of a search that ends a request.
use Rattle.std.specs.Prelude.{◌≡◌, ◌≢◌, ◌⊎◌, ◌++◌, ℕ, List, [], ◌∷◌, All, Any, Option, None}
use Rattle.std.specs.List.{AllZip}
use Rattle.vlm_words.specs.declared.locks.LockState.{LockState}
use Rattle.vlm_words.specs.declared.steps.Dequeue.{Dequeue}
use Rattle.vlm_words.specs.declared.steps.Step.TheVariants.{Deq, Search}
use Rattle.vlm_words.specs.State.{Resource, State}
use Rattle.vlm_model.specs.Checks.{named_lkid}
use Rattle.vlm_model.specs.Endings.{Ending}
use Rattle.vlm_model.specs.Endings.How.{by_abort, by_cancel, by_deadlock}
use Rattle.vlm_model.specs.Laws.{IsSameResource}
use Rattle.vlm_model.specs.Stepped.{step_change}

-- the lock goes; the other rows stay as they were, in their order
pub data LosesLock (lkid : ℕ) : List LockState → List LockState → Type 0 where
  empty_stays : LosesLock lkid [] []
  lock_goes : {row : LockState} {before after : List LockState} → row.lkid ≡ lkid → LosesLock lkid before after
      → LosesLock lkid (row ∷ before) after
  other_stays : {row : LockState} {before after : List LockState} → row.lkid ≢ lkid → LosesLock lkid before after
      → LosesLock lkid (row ∷ before) (row ∷ after)

-- the row wants nothing any more; it is the same lock, holds what it held, and is armed as before
pub record StaysAsHeld (before after : LockState) : Type 0 where
  pub lkid : after.lkid ≡ before.lkid
  pub pid : after.pid ≡ before.pid
  pub parent : after.parent ≡ before.parent
  pub held : after.held ≡ before.held
  pub wants_nothing : after.want ≡ None
  pub armed : after.armed ≡ before.armed

-- the rows of the lock, each as it held
pub data GivesAsHeld (lkid : ℕ) : List LockState → List LockState → Type 0 where
  empty_gives : GivesAsHeld lkid [] []
  lock_is_given : {row given : LockState} {rows all_given : List LockState} → row.lkid ≡ lkid → StaysAsHeld row given
      → GivesAsHeld lkid rows all_given → GivesAsHeld lkid (row ∷ rows) (given ∷ all_given)
  other_is_not : {row : LockState} {rows all_given : List LockState} → row.lkid ≢ lkid → GivesAsHeld lkid rows all_given
      → GivesAsHeld lkid (row ∷ rows) all_given

-- the resource stays the same, and its queues lose the lock
pub record LosesThisLock (lkid : ℕ) (before after : Resource) : Type 0 where
  pub same : IsSameResource before after
  pub granted : LosesLock lkid before.granted after.granted
  pub converting : LosesLock lkid before.converting after.converting
  pub waiting : LosesLock lkid before.waiting after.waiting

-- the resource stays the same; a waiting lock goes, and a converting lock joins the granted queue as it held
pub record LosesThisRequest (lkid : ℕ) (before after : Resource) : Type 0 where
  pub given : List LockState
  pub same : IsSameResource before after
  pub as_held : GivesAsHeld lkid before.converting given
  pub granted : after.granted ≡ before.granted ++ given
  pub converting : LosesLock lkid before.converting after.converting
  pub waiting : LosesLock lkid before.waiting after.waiting

-- the lock has a row in a conversion queue
abbrev pub IsConverting : State → ℕ → Type 0
IsConverting s lkid = Any (λ r. Any (λ row. row.lkid ≡ lkid) r.converting) s.resources

-- the lock has a row in a waiting queue
abbrev pub IsWaiting : State → ℕ → Type 0
IsWaiting s lkid = Any (λ r. Any (λ row. row.lkid ≡ lkid) r.waiting) s.resources

-- before its sweep the dequeue takes the named lock and no other, and the lock's request ends by abort
pub record TakesItsLock (s : State) (d : Dequeue) (choice : Option LockState) : Type 0 where
  pub lock : AllZip (LosesThisLock (named_lkid s d.pid d.lock)) s.resources
      (step_change s (Deq d) choice).state.resources
  pub request : All (λ ending. (ending.lkid ≡ named_lkid s d.pid d.lock) × (ending.how ≡ by_abort))
      (step_change s (Deq d) choice).endings

-- the request of a waiting lock ends by abort, that of a converting lock by cancel
abbrev pub IsCancelled : State → ℕ → Ending → Type 0
IsCancelled s lkid ending =
    (ending.lkid ≡ lkid)
    × (((ending.how ≡ by_cancel) × IsConverting s lkid) ⊎ ((ending.how ≡ by_abort) × IsWaiting s lkid))

-- before its sweep the cancel ends the request of the named lock; a converting lock is granted as it held
pub record CancelsItsRequest (s : State) (d : Dequeue) (choice : Option LockState) : Type 0 where
  pub lock : AllZip (LosesThisRequest (named_lkid s d.pid d.lock)) s.resources
      (step_change s (Deq d) choice).state.resources
  pub request : All (IsCancelled s (named_lkid s d.pid d.lock)) (step_change s (Deq d) choice).endings

-- before its sweep the search ends the victim's request by deadlock; a converting lock is granted as it held
pub record EndsItsVictim (s : State) (node lkid : ℕ) (choice : Option LockState) : Type 0 where
  pub lock : AllZip (LosesThisRequest lkid) s.resources (step_change s (Search node) choice).state.resources
  pub request : All (λ ending. (ending.lkid ≡ lkid) × (ending.how ≡ by_deadlock))
      (step_change s (Search node) choice).endings
