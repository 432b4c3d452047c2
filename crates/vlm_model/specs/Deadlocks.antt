-- Who waits for whom, and the victim of a deadlock.
use Rattle.std.specs.Prelude.{◌≡◌, ◌≢◌, ◌≤◌, ◌⊎◌, ◌++◌, ℕ, false, List, [], ◌∷◌, Any, Option, None, Some}
use Rattle.std.specs.Option.{option_map_or}
use Rattle.vlm_words.specs.declared.locks.Request.{Request}
use Rattle.vlm_words.specs.declared.locks.LockState.{LockState}
use Rattle.vlm_words.specs.declared.modes.Mode.{Mode}
use Rattle.vlm_words.specs.Modes.{is_compatible}
use Rattle.vlm_words.specs.Flags.{flag_bits, has_flag, nodlckblk, nodlckwt}
use Rattle.vlm_words.specs.State.{Resource, State}

-- the queued rows of a resource, in order: all conversions before all waiting requests
abbrev pub queue_of : Resource → List LockState
queue_of r = r.converting ++ r.waiting

-- the row is one of these
abbrev pub IsRowAmong : List LockState → LockState → Type 0
IsRowAmong rows row = Any (λ other. other ≡ row) rows

-- the first row is before the second in the queue
pub record StandsBefore (queue : List LockState) (first second : LockState) : Type 0 where
  pub before : List LockState
  pub behind : List LockState
  pub queued : queue ≡ before ++ second ∷ behind
  pub first_among : IsRowAmong before first

-- the held mode is incompatible with this mode, and its request does not have NODLCKBLK
abbrev pub HoldsAgainst : Mode → Option Request → Type 0
HoldsAgainst mode None = ⊥
HoldsAgainst mode (Some held) =
    (is_compatible mode held.mode ≡ false) × (has_flag (flag_bits held.flags) nodlckblk ≡ false)

-- later requests wait for this wanted request: it does not have NODLCKBLK
abbrev pub BlocksThoseBehind : Option Request → Type 0
BlocksThoseBehind None = ⊥
BlocksThoseBehind (Some want) = has_flag (flag_bits want.flags) nodlckblk ≡ false

-- the lock keeps the row's request waiting, by a request without NODLCKBLK: it holds an incompatible mode, or is queued
-- before the row
abbrev pub KeepsWaiting : Resource → Request → LockState → LockState → Type 0
KeepsWaiting r request row lock =
    (IsRowAmong (r.granted ++ r.converting) lock × HoldsAgainst request.mode lock.held)
    ⊎ (StandsBefore (queue_of r) lock row × BlocksThoseBehind lock.want)

-- on the resource, the queued request of the row waits for the lock
pub record WaitsOn (r : Resource) (row lock : LockState) : Type 0 where
  pub queued : IsRowAmong (queue_of r) row
  pub request : Request
  pub wanted : row.want ≡ Some request
  pub counted : has_flag (flag_bits request.flags) nodlckwt ≡ false
  pub another : lock.lkid ≢ row.lkid
  pub kept : KeepsWaiting r request row lock

-- on some resource, the queued request of the row waits for the lock
abbrev pub WaitsFor : State → LockState → LockState → Type 0
WaitsFor s row lock = Any (λ r. WaitsOn r row lock) s.resources

-- a request of process pid waits for a lock of the other process, which may be the same
pub record ProcessWaitsFor (s : State) (pid other : ℕ) : Type 0 where
  pub row : LockState
  pub lock : LockState
  pub owner : row.pid ≡ pid
  pub holder : lock.pid ≡ other
  pub waits : WaitsFor s row lock

-- a list of processes leads from pid to last, and each process in it waits for the next
abbrev pub LeadsTo : State → ℕ → List ℕ → ℕ → Type 0
LeadsTo s pid [] last = pid ≡ last
LeadsTo s pid (next ∷ others) last = ProcessWaitsFor s pid next × LeadsTo s next others last

-- the row's request is deadlocked: a list of processes, each waiting for the next, leads from the owner of a lock
-- that it waits for back to its own process
pub record IsDeadlocked (s : State) (row : LockState) : Type 0 where
  pub lock : LockState
  pub waits : WaitsFor s row lock
  pub others : List ℕ
  pub leads : LeadsTo s lock.pid others row.pid

-- the number of the wanted request, or 0
abbrev pub wanted_number : LockState → ℕ
wanted_number row = option_map_or (λ request. request.number) row.want 0

-- the victim is the deadlocked request with the greatest number, or there is no victim and no request is deadlocked
abbrev pub IsVictim : State → Option LockState → Type 0
IsVictim s None = (row : LockState) → IsDeadlocked s row → ⊥
IsVictim s (Some victim) =
    IsDeadlocked s victim
    × ((row : LockState) → IsDeadlocked s row → wanted_number row ≤ wanted_number victim)
