-- The processes and locks for which a queued request waits, in the records.
use Rattle.std.specs.Prelude.{◌≡◌, ◌≢◌, ◌⊎◌, ◌==◌, ◌/◌, ℕ, List, [], ◌∷◌, true, if◌then◌else◌}
use Rattle.vlm_words.specs.declared.locks.LockState.{LockState}
use Rattle.vlm_words.specs.declared.modes.Mode.{Mode}
use Rattle.vlm_words.specs.declared.resources.Queue.{Queue}
use Rattle.vlm_words.specs.declared.resources.Queue.TheVariants.{Granted, Conversion, Waiting}
use Rattle.vlm_model.specs.Deadlocks.{BlocksThoseBehind, HoldsAgainst, ProcessWaitsFor, WaitsFor}
use Rattle.vlm_words.specs.State.{State, start}
use Rattle.vlm_collections.specs.Lists.{IsIn}
use Rattle.vlm_records.specs.NodeMarks.{is_node}
use Rattle.vlm_store.specs.Plain.{plain_resources}
use Rattle.vlm_store.specs.Records.{Records, StoredProcess}
use Rattle.vlm_cycle.specs.declared.scratch.Scratch.{Scratch}
use Rattle.vlm_cycle.specs.Marking.{HasRoomInBoth}

-- the plain machine with the resources of the records: a search reads nothing else of it
abbrev pub searched : Records → State
searched s = record start { resources = plain_resources s }

-- each living process is of a node, 1 to 8, and has room for its marks
abbrev pub IsRoomy : Records → Scratch → Type 0
IsRoomy s marks = (p : StoredProcess) → IsIn p s.processes
    → HasRoomInBoth marks p.process.pid × (is_node (p.process.pid / 65536) ≡ true)

-- the process owns a lock for which the request of the row waits
abbrev pub OwnsWaitedFor : Records → LockState → ℕ → Type 0
OwnsWaitedFor s row pid = (lock : LockState) × (WaitsFor (searched s) row lock × (lock.pid ≡ pid))

-- one of the requests of the process waits for a lock of the other
abbrev pub IsBehind : Records → ℕ → ℕ → Type 0
IsBehind s pid other = ProcessWaitsFor (searched s) pid other

-- it is another lock, and its held mode is incompatible with the mode
abbrev pub IsHolder : ℕ → Mode → LockState → Type 0
IsHolder lkid mode row = (row.lkid ≢ lkid) × HoldsAgainst mode row.held

-- the process owns a holder among these locks
abbrev pub OwnsHolder : ℕ → Mode → List LockState → ℕ → Type 0
OwnsHolder lkid mode rows pid = (row : LockState) × (IsIn row rows × IsHolder lkid mode row × (row.pid ≡ pid))

-- the rows before the lock with this ID, or all rows if it is not among them
abbrev pub rows_before : ℕ → List LockState → List LockState
rows_before lkid [] = []
rows_before lkid (row ∷ rows) = if row.lkid == lkid then [] else row ∷ rows_before lkid rows

-- the process owns one of these locks for which later requests wait
abbrev pub OwnsBlocker : List LockState → ℕ → Type 0
OwnsBlocker rows pid = (row : LockState) × (IsIn row rows × BlocksThoseBehind row.want × (row.pid ≡ pid))

-- the process owns a lock before the lock with this ID, in its queue or the queue before that, for which
-- later requests wait
abbrev pub OwnsBefore : ℕ → Queue → List LockState → List LockState → ℕ → Type 0
OwnsBefore lkid Granted converting waiting pid = ⊥
OwnsBefore lkid Conversion converting waiting pid = OwnsBlocker (rows_before lkid converting) pid
OwnsBefore lkid Waiting converting waiting pid = OwnsBlocker (rows_before lkid converting) pid
    ⊎ OwnsBlocker (rows_before lkid waiting) pid

-- the process owns a lock that keeps the request of the lock of this ID from being granted
abbrev pub OwnsKeeper : ℕ → Mode → Queue → List LockState → List LockState → List LockState → ℕ → Type 0
OwnsKeeper lkid mode queue granted converting waiting pid =
    OwnsHolder lkid mode granted pid ⊎ OwnsHolder lkid mode converting pid
    ⊎ OwnsBefore lkid queue converting waiting pid
