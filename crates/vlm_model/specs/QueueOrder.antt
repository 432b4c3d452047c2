-- The law that each queue is in the order of its requests.
use Rattle.std.specs.Prelude.{◌<◌, ℕ, List, All, AllPairs}
use Rattle.vlm_words.specs.declared.locks.LockState.{LockState}
use Rattle.vlm_words.specs.State.{Resource, State}
use Rattle.vlm_model.specs.Deadlocks.{wanted_number}

-- the numbers of the wanted requests rise along these rows, and each is below the next request number
pub record NumbersRise (next : ℕ) (rows : List LockState) : Type 0 where
  pub rising : AllPairs (λ a b. wanted_number a < wanted_number b) rows
  pub given : All (λ row. wanted_number row < next) rows

-- they rise along both queues of the resource
pub record IsInOrderOfRequests (next : ℕ) (r : Resource) : Type 0 where
  pub converting : NumbersRise next r.converting
  pub waiting : NumbersRise next r.waiting

-- each resource has its queues in the order of requests
abbrev pub QueuesAreInOrderOfRequests : State → Type 0
QueuesAreInOrderOfRequests s = All (IsInOrderOfRequests s.next_request) s.resources
