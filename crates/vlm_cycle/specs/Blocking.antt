-- The locks of a resource one after another, and the first of them for which a request waits.
use Rattle.std.specs.Prelude.{◌≡◌, ◌≢◌, ◌<◌, ◌⊎◌, ◌++◌, ℕ, Bool, true, false, nat_lt, List, [], ◌∷◌, Option, None, Some}
use Rattle.std.specs.Option.{option_map_or}
use Rattle.vlm_words.specs.declared.locks.Request.{Request}
use Rattle.vlm_words.specs.declared.locks.LockState.{LockState}
use Rattle.vlm_words.specs.declared.resources.Queue.{Queue}
use Rattle.vlm_words.specs.declared.resources.Queue.TheVariants.{Granted, Conversion, Waiting}
use Rattle.vlm_words.specs.Flags.{flag_bits, has_flag, nodlckwt}
use Rattle.vlm_words.specs.State.{Resource}
use Rattle.vlm_model.specs.Deadlocks.{BlocksThoseBehind, HoldsAgainst, WaitsOn, wanted_number}
use Rattle.vlm_collections.specs.Lists.{IsIn}
use Rattle.vlm_store.specs.Plain.{plain_resource}
use Rattle.vlm_store.specs.Records.{EachTwo, Records, StoredLock, StoredResource, Stores, at_after, first_at, resource_at, rows_of_locks}
use Rattle.vlm_locks.specs.declared.located_locks.LocatedLock.{LocatedLock}

-- ---- the order of a walk

-- all locks of a resource: first the granted ones, then those that convert, then those that wait
abbrev pub all_locks : StoredResource → List StoredLock
all_locks r = r.granted ++ (r.converting ++ r.waiting)

-- all locks of the resource with this handle
abbrev pub all_locks_at : ℕ → Records → List StoredLock
all_locks_at res s = option_map_or all_locks (resource_at res s.resources) []

-- the lock is on the resource with this handle
abbrev pub IsOn : ℕ → ℕ → Records → Type 0
IsOn lock res s = (row : LockState) × IsIn (record { at = lock; row = row }) (all_locks_at res s)

-- the handle of the first of these locks, or of the next one after this lock if one is named
abbrev pub first_from : Option ℕ → List StoredLock → Option ℕ
first_from None locks = first_at locks
first_from (Some at) locks = at_after at locks

-- it is the handle of the first of these locks that passes, or no lock passes and there is no handle
abbrev pub IsFirstOf : (LockState → Type 0) → List StoredLock → Option ℕ → Type 0
IsFirstOf P [] found = found ≡ None
IsFirstOf P (k ∷ rest) found = (P k.row × (found ≡ Some k.at)) ⊎ ((P k.row → ⊥) × IsFirstOf P rest found)

-- the same for the locks after the lock with this handle, or for all locks if none is named
abbrev pub IsFirstFrom : (LockState → Type 0) → Option ℕ → List StoredLock → Option ℕ → Type 0
IsFirstFrom P None locks found = IsFirstOf P locks found
IsFirstFrom P (Some at) locks found =
    (before rest : List StoredLock) (row : LockState) → locks ≡ before ++ record { at = at; row = row } ∷ rest
    → IsFirstOf P rest found

-- the same for the resource with this handle
abbrev pub IsNextOn : (Resource → LockState → Type 0) → Records → ℕ → Option ℕ → Option ℕ → Type 0
IsNextOn P s res from found =
    (r : StoredResource) → resource_at res s.resources ≡ Some r
    → IsFirstFrom (P (plain_resource r)) from (all_locks r) found

-- it is the handle of the first such lock on its resource for which the request of the located lock waits
abbrev pub IsNextBlocker : Records → LocatedLock → Option ℕ → Option ℕ → Type 0
IsNextBlocker s f from found = IsNextOn (λ r row. WaitsOn r f.row row) s f.res from found

-- it is the handle of the first such lock on its resource whose request waits for the located lock
abbrev pub IsNextBlocked : Records → LocatedLock → Option ℕ → Option ℕ → Type 0
IsNextBlocked s f from found = IsNextOn (λ r row. WaitsOn r row f.row) s f.res from found

-- ---- one lock

-- the numbers of the wanted requests rise along these rows
abbrev pub IsRising : List LockState → Type 0
IsRising rows = EachTwo (λ (later earlier : LockState). wanted_number earlier < wanted_number later) rows

-- both queues of each resource are in the order of their requests
pub record AreInOrder (s : Records) : Type 0 where
  pub converting : (r : StoredResource) → IsIn r s.resources → IsRising (rows_of_locks r.converting)
  pub waiting : (r : StoredResource) → IsIn r s.resources → IsRising (rows_of_locks r.waiting)

-- the located lock is queued for this request, which does not have NODLCKWT
pub record Awaits (f : LocatedLock) (request : Request) : Type 0 where
  pub queued : f.queue ≢ Granted
  pub wanted : f.row.want ≡ Some request
  pub counted : has_flag (flag_bits request.flags) nodlckwt ≡ false

-- the request of the first queue and number is before the other one
abbrev pub is_before : Queue → ℕ → Queue → ℕ → Bool
is_before Granted number other other_number = false
is_before Conversion number Granted other_number = false
is_before Conversion number Conversion other_number = nat_lt number other_number
is_before Conversion number Waiting other_number = true
is_before Waiting number Granted other_number = false
is_before Waiting number Conversion other_number = false
is_before Waiting number Waiting other_number = nat_lt number other_number

-- a lock in the second queue keeps the request in the first one waiting
abbrev pub Keeps : Queue → Request → Queue → LockState → Type 0
Keeps own request queue lock =
    ((queue ≢ Waiting) × HoldsAgainst request.mode lock.held)
    ⊎ ((is_before queue (wanted_number lock) own request.number ≡ true) × BlocksThoseBehind lock.want)

-- the lock with this handle passes, on the resource with the other one
pub record PassesOn (P : Resource → LockState → Type 0) (s : Records) (res lock : ℕ) : Type 0 where
  pub resource : StoredResource
  pub found : resource_at res s.resources ≡ Some resource
  pub row : LockState
  pub stored : Stores s lock row
  pub passes : P (plain_resource resource) row

-- the request of the located lock waits for the lock with this handle
abbrev pub WaitsOnLock : Records → LocatedLock → ℕ → Type 0
WaitsOnLock s f lock = PassesOn (λ r row. WaitsOn r f.row row) s f.res lock

-- the request of the lock with this handle waits for the located lock
abbrev pub WaitsForLocated : Records → LocatedLock → ℕ → Type 0
WaitsForLocated s f lock = PassesOn (λ r row. WaitsOn r row f.row) s f.res lock
