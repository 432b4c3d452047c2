-- What the store shows to a caller: resources with their queues of locks, and processes with their own locks, each
-- with its handle.
use Rattle.std.specs.Prelude.{◌≡◌, ◌⊎◌, ◌<◌, ◌≤◌, ◌/◌, ℕ, Bool, true, false, not, ◌==◌, ◌&&◌, ◌+◌, ◌-◌, count_by}
use Rattle.std.specs.Prelude.{sum_by, List, [], ◌∷◌, ◌++◌, map, filter, slice_get, find, flat_map, Option, None, Some}
use Rattle.std.specs.Prelude.{IsSome, if◌then◌else◌}
use Rattle.std.specs.Option.{option_map, option_map_or}
use Rattle.vlm_collections.specs.declared.hashers.HashKeys.{HashKeys}
use Rattle.vlm_words.specs.declared.asts.Ast.{Ast}
use Rattle.vlm_words.specs.declared.locks.LockState.{LockState}
use Rattle.vlm_words.specs.declared.modes.Mode.{Mode}
use Rattle.vlm_words.specs.declared.resources.Domain.{Domain}
use Rattle.vlm_words.specs.declared.resources.Queue.{Queue}
use Rattle.vlm_words.specs.declared.resources.Queue.TheVariants.{Granted, Conversion, Waiting}
use Rattle.vlm_words.specs.declared.steps.Declaration.{Declaration}
use Rattle.vlm_collections.specs.declared.link.TheConstants.{LAST_HANDLE}
use Rattle.vlm_collections.specs.Lists.{IsIn, without}
use Rattle.vlm_collections.specs.Parts.{KeepsSpares, UsesOneSpare, spare_for}
use Rattle.vlm_words.specs.Processes.{with_ast, new_process}
use Rattle.vlm_words.specs.Rows.{fits}
use Rattle.vlm_words.specs.State.{Process}
use Rattle.vlm_words.specs.ValueBlocks.{new_value_block}
use Rattle.vlm_words.specs.declared.resources.Key.{Key}
use Rattle.vlm_words.specs.declared.resources.Site.{Site}
use Rattle.vlm_records.specs.declared.handles.Place.{Place}
use Rattle.vlm_records.specs.declared.handles.Place.TheVariants.{Queued}
use Rattle.vlm_records.specs.declared.processes.Authorization.{Authorization}
use Rattle.vlm_words.specs.declared.resources.ValueBlock.{ValueBlock}

-- a lock with its handle
pub record StoredLock : Type 0 where
  pub at : ℕ
  pub row : LockState

-- a resource with its handle and its three queues
pub record StoredResource : Type 0 where
  pub at : ℕ
  pub serial : ℕ
  pub domain : Domain
  pub key : Key
  pub level : ℕ
  pub value_block : ValueBlock
  pub granted : List StoredLock
  pub converting : List StoredLock
  pub waiting : List StoredLock

-- a lock of a process, with the handles of its sublocks; a loose lock, which is in no queue, with its row
pub record OwnLock : Type 0 where
  pub at : ℕ
  pub sublocks : List ℕ
  pub loose : Option LockState

-- a process with its handle, the number of its due ASTs, and its locks in the order of making; due are the ASTs that
-- it may still get, without those that are pending
pub record StoredProcess : Type 0 where
  pub at : ℕ
  pub process : Process
  pub due : ℕ
  pub own : List OwnLock

-- the room for one kind of record: how many more its slab takes without an allocation, the handle of the next one,
-- and how many more each part of its index takes
pub record Room : Type 0 where
  pub slots : ℕ
  pub next_handle : ℕ
  pub finds : List ℕ

-- the room for locks, resources and processes
pub record Rooms : Type 0 where
  pub locks : Room
  pub resources : Room
  pub processes : Room

-- the resources and the processes in the order of making, the room for more, and the keys of the hash
pub record Records : Type 0 where
  pub resources : List StoredResource
  pub processes : List StoredProcess
  pub room : Rooms
  pub keys : HashKeys

-- no room
abbrev pub no_room : Room
no_room = record { slots = 0; next_handle = 0; finds = [] }

-- an empty store
abbrev pub nothing : HashKeys → Records
nothing keys = record {
  resources = [];
  processes = [];
  room = record
      { locks = no_room; resources = no_room; processes = no_room };
  keys = keys;
}

-- a new resource
abbrev pub new_stored_resource : ℕ → ℕ → Site → StoredResource
new_stored_resource at serial site = record {
  at = at;
  serial = serial;
  domain = site.domain;
  key = site.key;
  level = site.level;
  value_block = new_value_block;
  granted = [];
  converting = [];
  waiting = [];
}

-- the locks of a queue
abbrev pub queued : Queue → StoredResource → List StoredLock
queued Granted r = r.granted
queued Conversion r = r.converting
queued Waiting r = r.waiting

-- the resource with this handle, if there is one
abbrev pub resource_at : ℕ → List StoredResource → Option StoredResource
resource_at res resources = find (λ r. r.at == res) resources

-- the resource with this handle exists
abbrev pub HasResource : ℕ → Records → Type 0
HasResource res s = IsSome (resource_at res s.resources)

-- the resource of the place exists
abbrev pub HasPlace : Place → Records → Type 0
HasPlace (Queued res queue) s = HasResource res s

-- the locks at a place, in the order of its queue
abbrev pub locks_at : Place → Records → List StoredLock
locks_at (Queued res queue) s = option_map_or (queued queue) (resource_at res s.resources) []

-- a lock with this handle and row is in a queue
abbrev pub Stores : Records → ℕ → LockState → Type 0
Stores s at row = (place : Place) × IsIn (record { at = at; row = row }) (locks_at place s)

-- a lock with this handle is in a queue
abbrev pub IsStored : ℕ → Records → Type 0
IsStored at s = (row : LockState) × Stores s at row

-- a lock with this handle and row is loose: its process has it, and it is in no queue
abbrev pub IsLooseRow : Records → ℕ → LockState → Type 0
IsLooseRow s at row = (p : StoredProcess) × (own : OwnLock)
    × (IsIn p s.processes × IsIn own p.own × (own.at ≡ at) × (own.loose ≡ Some row))

-- a lock with this handle is loose
abbrev pub IsLoose : ℕ → Records → Type 0
IsLoose at s = (row : LockState) × IsLooseRow s at row

-- a lock with this handle and row exists, in a queue or loose
abbrev pub HasLock : Records → ℕ → LockState → Type 0
HasLock s at row = Stores s at row ⊎ IsLooseRow s at row

-- a lock with this handle exists
abbrev pub IsLock : ℕ → Records → Type 0
IsLock at s = (row : LockState) × HasLock s at row

-- each lock is in a queue
abbrev pub NoneIsLoose : Records → Type 0
NoneIsLoose s = (p : StoredProcess) (own : OwnLock) → IsIn p s.processes → IsIn own p.own → own.loose ≡ None

-- both rows are of one lock
pub record IsSameLock (a b : LockState) : Type 0 where
  pub lkid : a.lkid ≡ b.lkid
  pub pid : a.pid ≡ b.pid
  pub parent : a.parent ≡ b.parent

-- the handle is a lock, and the row is of the same lock
abbrev pub IsRowOf : ℕ → LockState → Records → Type 0
IsRowOf at row s = (was : LockState) × (Stores s at was × IsSameLock was row)

-- the handle of the lock with this ID, or there is no such lock
abbrev pub FindsLock : Records → ℕ → Option ℕ → Type 0
FindsLock s lkid None = (at : ℕ) (row : LockState) → HasLock s at row → ¬ (row.lkid ≡ lkid)
FindsLock s lkid (Some at) = (row : LockState) × (HasLock s at row × (row.lkid ≡ lkid))

-- no lock has this ID
abbrev pub IsNewLock : ℕ → Records → Type 0
IsNewLock lkid s = FindsLock s lkid None

-- the handle of the resource with this key, or there is no such resource
abbrev pub FindsResource : Records → Key → Option ℕ → Type 0
FindsResource s key None = (r : StoredResource) → IsIn r s.resources → ¬ (r.key ≡ key)
FindsResource s key (Some at) = (r : StoredResource) × (IsIn r s.resources × (r.at ≡ at) × (r.key ≡ key))

-- no resource has this key
abbrev pub IsNewKey : Key → Records → Type 0
IsNewKey key s = FindsResource s key None

-- the queues are the same
abbrev pub is_queue : Queue → Queue → Bool
is_queue Granted Granted = true
is_queue Granted Conversion = false
is_queue Granted Waiting = false
is_queue Conversion Granted = false
is_queue Conversion Conversion = true
is_queue Conversion Waiting = false
is_queue Waiting Granted = false
is_queue Waiting Conversion = false
is_queue Waiting Waiting = true

-- the places are the same
abbrev pub is_place : Place → Place → Bool
is_place (Queued a p) (Queued b q) = (a == b) && is_queue p q

-- the locks except this one
abbrev pub without_lock : ℕ → List StoredLock → List StoredLock
without_lock at locks = filter (λ k. not (k.at == at)) locks

-- a change of queues: a function from a place and its locks to the new locks there
abbrev pub QueueChange : Type 0
QueueChange = Place → List StoredLock → List StoredLock

-- a resource with changed queues
abbrev pub resource_with : QueueChange → StoredResource → StoredResource
resource_with change r = record r {
  granted = change (Queued r.at Granted) r.granted;
  converting = change (Queued r.at Conversion) r.converting;
  waiting = change (Queued r.at Waiting) r.waiting;
}

-- the records with changed queues
abbrev pub with_lists : QueueChange → Records → Records
with_lists change s = record s { resources = map (resource_with change) s.resources }

-- a change of queues: the lock leaves its queue
abbrev pub leaving : ℕ → QueueChange
leaving at place locks = without_lock at locks

-- a change of queues: a new lock joins one at the end
abbrev pub joining : Place → StoredLock → QueueChange
joining to lock place locks = if is_place place to then locks ++ lock ∷ [] else locks

-- a change of queues: the lock leaves its queue and joins one at the end
abbrev pub moving : Place → StoredLock → QueueChange
moving to lock place locks = joining to lock place (leaving lock.at place locks)

-- the lock is disarmed
abbrev pub disarmed : StoredLock → StoredLock
disarmed k = record k { row = record k.row { armed = false } }

-- a change of queues: the lock is disarmed and keeps its place
abbrev pub disarming : ℕ → QueueChange
disarming at place locks = map (λ k. if k.at == at then disarmed k else k) locks

-- a change of the resource with this handle
abbrev pub on_resource : ℕ → (StoredResource → StoredResource) → List StoredResource → List StoredResource
on_resource res change resources = map (λ r. if r.at == res then change r else r) resources

-- the resources except this one
abbrev pub without_resource : ℕ → List StoredResource → List StoredResource
without_resource res resources = filter (λ r. not (r.at == res)) resources

-- the resource has no lock
abbrev pub IsIdle : ℕ → Records → Type 0
IsIdle res s = (queue : Queue) → locks_at (Queued res queue) s ≡ []

-- the handle of the first lock, if there is one
abbrev pub first_at : List StoredLock → Option ℕ
first_at [] = None
first_at (k ∷ rest) = Some k.at

-- the handle of the lock after this one, if there is one
abbrev pub at_after : ℕ → List StoredLock → Option ℕ
at_after at [] = None
at_after at (k ∷ rest) = if k.at == at then first_at rest else at_after at rest

-- the rows of the locks
abbrev pub rows_of_locks : List StoredLock → List LockState
rows_of_locks locks = map (λ k. k.row) locks

-- the locks except the asking one
abbrev pub but_asking : Option ℕ → List StoredLock → List StoredLock
but_asking None locks = locks
but_asking (Some except) locks = without_lock except locks

-- the mode fits beside the locks of the resource, except the asking one
abbrev pub fits_beside : Mode → Option ℕ → StoredResource → Bool
fits_beside mode except r = fits mode (rows_of_locks (but_asking except r.granted))
    (rows_of_locks (but_asking except r.converting))

-- the handle of the first resource, if there is one
abbrev pub first_resource_at : List StoredResource → Option ℕ
first_resource_at [] = None
first_resource_at (r ∷ rest) = Some r.at

-- the handle of the resource after this one, if there is one
abbrev pub resource_at_after : ℕ → List StoredResource → Option ℕ
resource_at_after res [] = None
resource_at_after res (r ∷ rest) = if r.at == res then first_resource_at rest else resource_at_after res rest

-- one more lock at the end of a queue
abbrev pub joined_by : Queue → StoredLock → StoredResource → StoredResource
joined_by Granted lock r = record r { granted = r.granted ++ lock ∷ [] }
joined_by Conversion lock r = record r { converting = r.converting ++ lock ∷ [] }
joined_by Waiting lock r = record r { waiting = r.waiting ++ lock ∷ [] }

-- ---- processes

-- the process with this handle, if there is one
abbrev pub process_at : ℕ → List StoredProcess → Option StoredProcess
process_at at processes = find (λ p. p.at == at) processes

-- the process after the process with this handle
abbrev pub process_after : ℕ → List StoredProcess → Option Process
process_after at [] = None
process_after at (p ∷ rest) = if p.at == at then option_map (λ x. x.process)
    (slice_get rest 0) else process_after at rest

-- the process with this handle exists
abbrev pub HasProcess : ℕ → Records → Type 0
HasProcess at s = IsSome (process_at at s.processes)

-- group, quota and privilege of a process
abbrev pub authorization_of : Process → Authorization
authorization_of p = record { group = p.group; quota = p.quota; syslck = p.syslck }

-- the handle is the living process with this ID
abbrev pub IsProcess : ℕ → ℕ → Records → Type 0
IsProcess at pid s = (p : StoredProcess) × (IsIn p s.processes × (p.at ≡ at) × (p.process.pid ≡ pid))

-- the handle of the living process with this ID, or there is no such process
abbrev pub FindsProcess : Records → ℕ → Option ℕ → Type 0
FindsProcess s pid None = (p : StoredProcess) → IsIn p s.processes → ¬ (p.process.pid ≡ pid)
FindsProcess s pid (Some at) = IsProcess at pid s

-- no living process has this ID
abbrev pub IsNewProcess : ℕ → Records → Type 0
IsNewProcess pid s = FindsProcess s pid None

-- a new process, without locks
abbrev pub new_stored_process : ℕ → ℕ → Declaration → StoredProcess
new_stored_process at pid d = record { at = at; process = new_process pid d; due = 0; own = [] }

-- a change of a process; its due ASTs and its locks stay
abbrev pub changed_process : (Process → Process) → StoredProcess → StoredProcess
changed_process change p = record p { process = change p.process }

-- a change of the record with this handle
abbrev pub on_stored : ℕ → (StoredProcess → StoredProcess) → List StoredProcess → List StoredProcess
on_stored at change processes = map (λ p. if p.at == at then change p else p) processes

-- a change of the process with this handle; its due ASTs and its locks stay
abbrev pub on_process : ℕ → (Process → Process) → List StoredProcess → List StoredProcess
on_process at change processes = on_stored at (changed_process change) processes

-- this many more ASTs are due
abbrev pub owed_more : ℕ → StoredProcess → StoredProcess
owed_more count p = record p { due = p.due + count }

-- this many fewer ASTs are due
abbrev pub owed_less : ℕ → StoredProcess → StoredProcess
owed_less count p = record p { due = p.due - count }

-- one due AST is queued, at the end
abbrev pub with_owed_ast : Ast → StoredProcess → StoredProcess
with_owed_ast ast p = record p { process = with_ast ast p.process; due = p.due - 1 }

-- the processes except this one
abbrev pub without_process : ℕ → List StoredProcess → List StoredProcess
without_process at processes = filter (λ p. not (p.at == at)) processes

-- one more sublock of the parent lock, if there is a parent lock
abbrev pub with_sublock : Option ℕ → ℕ → OwnLock → OwnLock
with_sublock None lock own = own
with_sublock (Some parent) lock own =
    if own.at == parent then record own { sublocks = own.sublocks ++ lock ∷ [] } else own

-- a new lock of a process, without sublocks
abbrev pub new_own : ℕ → List OwnLock
new_own lock = record { at = lock; sublocks = []; loose = None } ∷ []

-- the process after a lock with this owner and parent lock was made
abbrev pub process_with_lock : ℕ → Option ℕ → ℕ → StoredProcess → StoredProcess
process_with_lock owner parent lock p = record p {
  own = map (with_sublock parent lock) p.own ++ (if p.at == owner then new_own lock else []);
}

-- the lock without one of its sublocks
abbrev pub without_sublock : ℕ → OwnLock → OwnLock
without_sublock lock own = record own { sublocks = without lock own.sublocks }

-- the process after a lock is gone
abbrev pub process_without_lock : ℕ → StoredProcess → StoredProcess
process_without_lock lock p = record p {
  own = map (without_sublock lock) (filter (λ own. not (own.at == lock)) p.own);
}

-- the records with a new lock at the end of a queue, of its owner's locks and of its parent's sublocks
abbrev pub with_new_lock : ℕ → LockState → ℕ → Option ℕ → Place → Records → Records
with_new_lock at row owner parent to s =
    record (with_lists (joining to (record { at = at; row = row })) s) {
      processes = map (process_with_lock owner parent at) s.processes;
    }

-- the records without a lock, in its queue, its process and its parent's sublocks
abbrev pub without_stored_lock : ℕ → Records → Records
without_stored_lock at s = record s {
  resources = map (resource_with (leaving at)) s.resources;
  processes = map (process_without_lock at) s.processes;
}

-- the lock with this handle is loose, with this row, or is loose no more
abbrev pub with_loose : ℕ → Option LockState → OwnLock → OwnLock
with_loose lock row own = if own.at == lock then record own { loose = row } else own

-- the same change of the locks of a process
abbrev pub process_with_loose : ℕ → Option LockState → StoredProcess → StoredProcess
process_with_loose lock row p = record p { own = map (with_loose lock row) p.own }

-- the records after a lock with this row left its queue
abbrev pub with_lock_unlinked : ℕ → LockState → Records → Records
with_lock_unlinked at row s = record (with_lists (leaving at) s) {
  processes = map (process_with_loose at (Some row)) s.processes;
}

-- the records after a loose lock with this row joined a queue at its end
abbrev pub with_lock_pushed : ℕ → LockState → Place → Records → Records
with_lock_pushed at row to s = record (with_lists (joining to (record { at = at; row = row })) s) {
  processes = map (process_with_loose at None) s.processes;
}

-- the lock has no sublocks
abbrev pub HasNoSublocks : ℕ → Records → Type 0
HasNoSublocks at s = (p : StoredProcess) (own : OwnLock) → IsIn p s.processes → IsIn own p.own
    → own.at ≡ at → own.sublocks ≡ []

-- the handle of the parent lock that the row names; without a handle the row names 0
abbrev pub IsParentOf : Option ℕ → LockState → Records → Type 0
IsParentOf None row s = row.parent ≡ 0
IsParentOf (Some parent) row s = (up : LockState) × (Stores s parent up × (up.lkid ≡ row.parent))

-- the locks of a process
abbrev pub own_at : ℕ → Records → List OwnLock
own_at at s = option_map_or (λ p. p.own) (process_at at s.processes) []

-- the handles of the locks of a process, in the order of making
abbrev pub own_handles_at : ℕ → Records → List ℕ
own_handles_at at s = map (λ own. own.at) (own_at at s)

-- the lock with this handle, if it is among these
abbrev pub own_of_handle : ℕ → List OwnLock → Option OwnLock
own_of_handle at locks = find (λ own. own.at == at) locks

-- the handles of the sublocks of a lock, in the order of making
abbrev pub sublocks_at : ℕ → Records → List ℕ
sublocks_at at s = option_map_or (λ own. own.sublocks) (own_of_handle at (flat_map (λ p. p.own) s.processes)) []

-- the lock is not a sublock
abbrev pub HasNoParent : ℕ → Records → Type 0
HasNoParent at s = (parent : ℕ) → ¬ IsIn at (sublocks_at parent s)

-- how many of the locks are of the process
abbrev pub owned_among : ℕ → List StoredLock → ℕ
owned_among pid locks = count_by (λ k. k.row.pid == pid) locks

-- how many locks of the process are on the resource
abbrev pub owned_on : ℕ → StoredResource → ℕ
owned_on pid r = owned_among pid r.granted + owned_among pid r.converting + owned_among pid r.waiting

-- how many locks the process has
abbrev pub owned_by : ℕ → Records → ℕ
owned_by pid s = sum_by (owned_on pid) s.resources

-- the process has no locks
abbrev pub HasNoLocks : ℕ → Records → Type 0
HasNoLocks at s = own_at at s ≡ []

-- the process without its notices: its status blocks, its pending ASTs, and its due ASTs
abbrev pub but_notices : StoredProcess → StoredProcess
but_notices p = record p { process = record p.process { blocks = []; asts = [] }; due = 0 }

-- of each process only its notices may change
abbrev pub ProcessesStay : Records → Records → Type 0
ProcessesStay old new = map but_notices new.processes ≡ map but_notices old.processes

-- only status blocks and ASTs, pending or due, may change
pub record SameButNotices (old new : Records) : Type 0 where
  pub resources : new.resources ≡ old.resources
  pub processes : ProcessesStay old new
  pub room : new.room ≡ old.room
  pub keys : new.keys ≡ old.keys

-- how many ASTs are due to the living process with this ID; 0 if it does not live
abbrev pub due_of : ℕ → Records → ℕ
due_of pid s = option_map_or (λ p. p.due) (find (λ p. p.process.pid == pid) s.processes) 0

-- the process at this handle is owed at least this many ASTs
pub record IsOwed (at count : ℕ) (s : Records) : Type 0 where
  pub pid : ℕ
  pub process : IsProcess at pid s
  pub due : count ≤ due_of pid s

-- the due ASTs of each process stay
abbrev pub DuesStay : Records → Records → Type 0
DuesStay old new = (pid : ℕ) → due_of pid new ≡ due_of pid old

-- the number of due ASTs changes for this process, and stays for every other
abbrev pub DueChanges : ℕ → (ℕ → ℕ) → Records → Records → Type 0
DueChanges pid change old new =
    (other : ℕ) → due_of other new ≡ (if other == pid then change (due_of other old) else due_of other old)

-- ---- room

-- one more record needs no allocation, and a handle is left
pub record HasSlot (room : Room) : Type 0 where
  pub slot : 0 < room.slots
  pub handle : room.next_handle ≤ LAST_HANDLE

-- one more record with this number needs no allocation, in its slab or its index
pub record HasRoom (number : ℕ) (room : Room) : Type 0 where
  pub slot : HasSlot room
  pub find : 0 < spare_for room.finds number

-- there is room for one more lock with this ID
abbrev pub HasRoomForLock : ℕ → Records → Type 0
HasRoomForLock lkid s = HasRoom lkid s.room.locks

-- there is room for one more resource whose key has this hash
abbrev pub HasRoomForResource : ℕ → Records → Type 0
HasRoomForResource hash s = HasRoom hash s.room.resources

-- a living process of the same node has an ordinal in the same 64 or later ones, so there is room to mark this one
abbrev pub IsBesideOne : ℕ → Records → Type 0
IsBesideOne pid s = (p : StoredProcess)
    × (IsIn p s.processes × (p.process.pid / 65536 ≡ pid / 65536) × (pid / 64 ≤ p.process.pid / 64))

-- there is room for one more process, its status blocks excepted
pub record HasRoomForProcess (pid : ℕ) (s : Records) : Type 0 where
  pub record_room : HasRoom pid s.room.processes
  pub mark : IsBesideOne pid s

-- the room is the same or more
pub record IsNoLess (old new : Room) : Type 0 where
  pub slots : old.slots ≤ new.slots
  pub next_handle : new.next_handle ≡ old.next_handle
  pub finds : KeepsSpares old.finds new.finds

-- one more record uses at most one place
pub record IsTaken (old new : Room) : Type 0 where
  pub slots : old.slots ≤ new.slots + 1
  pub finds : UsesOneSpare old.finds new.finds

-- a removed record gives back its place in the slab; no part of the index has less room
pub record IsGivenBack (old new : Room) : Type 0 where
  pub slots : new.slots ≡ old.slots + 1
  pub next_handle : new.next_handle ≤ LAST_HANDLE
  pub finds : KeepsSpares old.finds new.finds

-- nothing is changed, except that there may be more room
pub record IsUnchanged (old new : Records) : Type 0 where
  pub same : new ≡ record old { room = new.room }
  pub locks : IsNoLess old.room.locks new.room.locks
  pub resources : IsNoLess old.room.resources new.room.resources
  pub processes : IsNoLess old.room.processes new.room.processes

-- the records with other room for locks
abbrev pub with_lock_room : Room → Records → Records
with_lock_room room s = record s { room = record s.room { locks = room } }

-- the records with other room for resources
abbrev pub with_resource_room : Room → Records → Records
with_resource_room room s = record s { room = record s.room { resources = room } }

-- the records with other room for processes
abbrev pub with_process_room : Room → Records → Records
with_process_room room s = record s { room = record s.room { processes = room } }

-- ---- what holds between the calls

-- no two locks have one handle
abbrev pub AreApart : List StoredLock → Type 0
AreApart [] = Unit {0}
AreApart (k ∷ rest) = ((row : LockState) → ¬ IsIn (record { at = k.at; row = row }) rest) × AreApart rest

-- the relation holds between each item and every earlier one
abbrev pub EachTwo : {A : Type 0} → (A → A → Type 0) → List A → Type 0
EachTwo R [] = Unit {0}
EachTwo {A} R (first ∷ rest) = ((other : A) → IsIn other rest → R other first) × EachTwo R rest

-- no two resources have one handle
abbrev pub AreResourcesApart : List StoredResource → Type 0
AreResourcesApart = EachTwo (λ (other r : StoredResource). ¬ (other.at ≡ r.at))

-- no two processes have one handle or one ID
abbrev pub AreProcessesApart : List StoredProcess → Type 0
AreProcessesApart =
    EachTwo (λ (other p : StoredProcess). ¬ (other.at ≡ p.at) × ¬ (other.process.pid ≡ p.process.pid))

-- no two locks of a process have one handle
abbrev pub AreOwnApart : List OwnLock → Type 0
AreOwnApart = EachTwo (λ (other own : OwnLock). ¬ (other.at ≡ own.at))

-- the locks of a process are those whose rows name it, and the sublocks of a lock are those whose rows name it as
-- their parent; a loose lock is in no queue
pub record AreOwned (s : Records) : Type 0 where
  pub owned : (at : ℕ) (row : LockState) → HasLock s at row
      → (p : StoredProcess) × (own : OwnLock) × (IsIn p s.processes × (p.process.pid ≡ row.pid) × IsIn own p.own
      × (own.at ≡ at))
  pub owns : (p : StoredProcess) (own : OwnLock) → IsIn p s.processes → IsIn own p.own
      → (row : LockState) × (HasLock s own.at row × (row.pid ≡ p.process.pid))
  pub below : (p : StoredProcess) (own : OwnLock) (at : ℕ) → IsIn p s.processes → IsIn own p.own → IsIn at own.sublocks
      → (up : LockState) × (row : LockState) × (HasLock s own.at up × HasLock s at row × (row.parent ≡ up.lkid))
  pub named : (at : ℕ) (row : LockState) → HasLock s at row → ¬ (row.parent ≡ 0)
      → (p : StoredProcess) × (own : OwnLock) × (up : LockState)
      × (IsIn p s.processes × IsIn own p.own × IsIn at own.sublocks × HasLock s own.at up × (up.lkid ≡ row.parent))
  pub queued : (at : ℕ) (row other : LockState) → Stores s at row → ¬ IsLooseRow s at other

-- what holds in any state: each handle is one record, no lock is at two places, IDs and keys are unique,
-- and the locks of a process are those that name it
pub record IsSound (s : Records) : Type 0 where
  pub resources_apart : AreResourcesApart s.resources
  pub locks_apart : (place : Place) → AreApart (locks_at place s)
  pub one_place : (at : ℕ) (a b : LockState) (p q : Place) → IsIn (record { at = at; row = a }) (locks_at p s)
      → IsIn (record { at = at; row = b }) (locks_at q s) → p ≡ q
  pub lkids_apart : (a b : ℕ) (x y : LockState) → HasLock s a x → HasLock s b y → x.lkid ≡ y.lkid → a ≡ b
  pub keys_apart : (a b : StoredResource) → IsIn a s.resources → IsIn b s.resources → a.key ≡ b.key → a.at ≡ b.at
  pub processes_apart : AreProcessesApart s.processes
  pub owned : AreOwned s
  pub own_apart : (p : StoredProcess) → IsIn p s.processes → AreOwnApart p.own

-- the records before and after a change are sound
pub record AreSound (old new : Records) : Type 0 where
  pub before : IsSound old
  pub after : IsSound new
