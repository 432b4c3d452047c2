-- Waiting in a cycle, and what a search finds, in words of their own.
use Rattle.std.specs.Prelude.{◌≡◌, ◌≢◌, ◌≤◌, ◌⊎◌, ℕ, false, List, [], ◌∷◌, Any, Option, None, Some}
use Rattle.vlm_words.specs.declared.locks.Request.{Request}
use Rattle.vlm_words.specs.declared.locks.LockState.{LockState}
use Rattle.vlm_words.specs.declared.modes.Mode.{Mode}
use Rattle.vlm_words.specs.Flags.{flag_bits, has_flag, nodlckblk, nodlckwt}
use Rattle.vlm_words.specs.State.{Resource, State}
use Rattle.vlm_model.specs.Endings.{Ending}
use Rattle.vlm_model.specs.Endings.How.{by_deadlock}
use Rattle.vlm_model.specs.Laws.{IsBeside}
use Rattle.vlm_model.specs.Stepped.{Stepped}

-- the row is one of these
abbrev pub IsOneOf : List LockState → LockState → Type 0
IsOneOf rows row = Any (λ other. other ≡ row) rows

-- the first row comes before the second in the queue
abbrev pub ComesBefore : LockState → LockState → List LockState → Type 0
ComesBefore first second [] = ⊥
ComesBefore first second (row ∷ rows) =
    ((row ≡ first) × IsOneOf rows second) ⊎ ComesBefore first second rows

-- the lock's request is ahead of the row's: earlier in the same queue, or a conversion before a waiting request
abbrev pub IsAheadOf : Resource → LockState → LockState → Type 0
IsAheadOf r lock row =
    ComesBefore lock row r.converting ⊎ (IsOneOf r.converting lock × IsOneOf r.waiting row)
    ⊎ ComesBefore lock row r.waiting

-- there is a request, and it does not have NODLCKBLK
abbrev pub IsWaitedFor : Option Request → Type 0
IsWaitedFor None = ⊥
IsWaitedFor (Some request) = has_flag (flag_bits request.flags) nodlckblk ≡ false

-- the lock holds a mode on the resource that is incompatible with this one, by a request without NODLCKBLK
abbrev pub KeepsOut : Resource → Mode → LockState → Type 0
KeepsOut r mode lock =
    (IsOneOf r.granted lock ⊎ IsOneOf r.converting lock) × (IsBeside mode lock.held → ⊥) × IsWaitedFor lock.held

-- the row's queued request, without NODLCKWT, waits for another lock, which keeps it out or is ahead of it
pub record IsBlockedBy (r : Resource) (row lock : LockState) : Type 0 where
  pub queued : IsOneOf r.converting row ⊎ IsOneOf r.waiting row
  pub request : Request
  pub wants : row.want ≡ Some request
  pub waits : has_flag (flag_bits request.flags) nodlckwt ≡ false
  pub another : lock.lkid ≢ row.lkid
  pub why : KeepsOut r request.mode lock ⊎ (IsAheadOf r lock row × IsWaitedFor lock.want)

-- on some resource the row's request waits for the lock
abbrev pub IsBlocked : State → LockState → LockState → Type 0
IsBlocked s row lock = Any (λ r. IsBlockedBy r row lock) s.resources

-- a request of process pid waits for a lock of the other process
pub record IsHeldUpBy (s : State) (pid other : ℕ) : Type 0 where
  pub row : LockState
  pub lock : LockState
  pub waiter : row.pid ≡ pid
  pub owner : lock.pid ≡ other
  pub blocked : IsBlocked s row lock

-- the process waits for the first of the others, each of them for the next, and the last one for process `end`
abbrev pub WaitsOnTo : State → ℕ → ℕ → List ℕ → Type 0
WaitsOnTo s end pid [] = IsHeldUpBy s pid end
WaitsOnTo s end pid (next ∷ others) = IsHeldUpBy s pid next × WaitsOnTo s end next others

-- there is no list of processes in which each waits for the next and the last for the first
abbrev pub NobodyWaitsInACycle : State → Type 0
NobodyWaitsInACycle s = (pid : ℕ) (others : List ℕ) → WaitsOnTo s pid pid others → ⊥

-- the owner of the lock is this process, or waits for it through a chain
abbrev pub ComesBackTo : State → ℕ → ℕ → Type 0
ComesBackTo s pid owner = (owner ≡ pid) ⊎ ((others : List ℕ) × WaitsOnTo s pid owner others)

-- the row's request waits for a lock whose owner is, or waits for, the row's own process
pub record IsCaught (s : State) (row : LockState) : Type 0 where
  pub lock : LockState
  pub blocked : IsBlocked s row lock
  pub back : ComesBackTo s row.pid lock.pid

-- the row's request is not later than the other's
abbrev pub IsNoLater : LockState → LockState → Type 0
IsNoLater row other =
    (first later : Request) → row.want ≡ Some first → other.want ≡ Some later → first.number ≤ later.number

-- the row's request ends by deadlock
abbrev pub EndsByDeadlock : LockState → List Ending → Type 0
EndsByDeadlock row endings =
    Any (λ ending. (ending.how ≡ by_deadlock) × (ending.lkid ≡ row.lkid) × (Some ending.request ≡ row.want)) endings

-- the lock's request is caught, no caught request was accepted later, and it ends by deadlock
pub record IsCaughtLast (s : State) (made : Stepped) (lkid : ℕ) : Type 0 where
  pub row : LockState
  pub lock : row.lkid ≡ lkid
  pub caught : IsCaught s row
  pub last : (other : LockState) → IsCaught s other → IsNoLater other row
  pub ended : EndsByDeadlock row made.endings

-- nothing changes, no request ends, and nothing is queued
pub record LeavesAll (s : State) (made : Stepped) : Type 0 where
  pub state : made.state ≡ s
  pub none_ends : made.endings ≡ []
  pub none_queued : made.queued ≡ []

-- a search that answers a lock ends the last caught request; one that answers no lock finds no cycle, and changes
-- nothing
abbrev pub FindsWhoIsCaught : State → Stepped → Option ℕ → Type 0
FindsWhoIsCaught s made None = NobodyWaitsInACycle s × LeavesAll s made
FindsWhoIsCaught s made (Some lkid) = IsCaughtLast s made lkid
