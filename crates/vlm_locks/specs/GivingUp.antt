-- Locks of a process that are given up together.
use Rattle.std.specs.Prelude.{◌≡◌, ◌≢◌, ◌≤◌, ◌<◌, ⊤, ℕ, Bool, true, List, [], ◌∷◌, map, if◌then◌else◌}
use Rattle.std.specs.List.{AllByRecursion}
use Rattle.vlm_words.specs.declared.locks.LockState.{LockState}
use Rattle.vlm_words.specs.Dues.{due_to}
use Rattle.vlm_model.specs.Endings.How.{by_abort}
use Rattle.vlm_model.specs.OwnLocks.{is_below}
use Rattle.vlm_words.specs.State.{Resource}
use Rattle.vlm_model.specs.Withdrawals.{processes_after, withdrawn_endings}
use Rattle.vlm_collections.specs.Lists.{IsIn}
use Rattle.vlm_store.specs.Plain.{plain_processes, plain_resources}
use Rattle.vlm_store.specs.Records.{Records, SameButNotices, StoredLock, Stores, due_of}
use Rattle.vlm_store.specs.Total.{lock_total}
use Rattle.vlm_locks.specs.declared.joint_withdrawals.Scope.{Scope}
use Rattle.vlm_locks.specs.declared.joint_withdrawals.Scope.TheVariants.{All, Below}
use Rattle.vlm_locks.specs.declared.touched.Note.{Note}
use Rattle.vlm_locks.specs.Left.{giving_up, is_among, resource_left}
use Rattle.vlm_locks.specs.Owing.{total_weight}
use Rattle.vlm_locks.specs.Rest.{IsAtRest}
use Rattle.vlm_locks.specs.RunningDown.{GrantedWantNothing, SublocksAreOwn}
use Rattle.vlm_locks.specs.Touched.{AreStillNoted, OnlyTouched, Touches}

-- ---- which locks

-- whether the lock is chosen
abbrev pub is_chosen : Scope → List Resource → ℕ → Bool
is_chosen All resources lkid = true
is_chosen (Below top) resources lkid = is_below 15 top resources lkid

-- the numbers rise
abbrev pub Rise : List ℕ → Type 0
Rise [] = ⊤
Rise (lkid ∷ lkids) = AllByRecursion (λ later. lkid < later) lkids × Rise lkids

-- these are the IDs of the chosen locks of a process, in rising order
pub record AreChosen (scope : Scope) (pid : ℕ) (s : Records) (lkids : List ℕ) : Type 0 where
  pub rise : Rise lkids
  pub each : (lkid : ℕ) → IsIn lkid lkids
      → (at : ℕ) × (row : LockState) × (Stores s at row × (row.lkid ≡ lkid) × (row.pid ≡ pid)
      × (is_chosen scope (plain_resources s) lkid ≡ true))
  pub all : (at : ℕ) (row : LockState) → Stores s at row → row.pid ≡ pid
      → is_chosen scope (plain_resources s) row.lkid ≡ true → IsIn row.lkid lkids

-- the lock whose sublocks are given up is a stored lock of the process; its ID is not 0, which a row
-- without a parent names
abbrev pub IsOwnScope : Scope → ℕ → Records → Type 0
IsOwnScope All pid s = ⊤
IsOwnScope (Below top) pid s = (top ≢ 0) × (at : ℕ) × (row : LockState)
    × (Stores s at row × (row.lkid ≡ top) × (row.pid ≡ pid))

-- the sublocks of a chosen lock are chosen too
abbrev pub SublocksGoToo : Scope → Records → Type 0
SublocksGoToo scope s = (at other : ℕ) (row up : LockState) → Stores s at row → Stores s other up → row.parent ≡ up.lkid
    → is_chosen scope (plain_resources s) up.lkid ≡ true → is_chosen scope (plain_resources s) row.lkid ≡ true

-- ---- how they are noted

-- the IDs of noted locks
abbrev pub noted_lkids : List Note → List ℕ
noted_lkids notes = map (λ t. t.number) notes

-- each note has the handle and the ID of a stored lock
abbrev pub AreOfLocks : List Note → Records → Type 0
AreOfLocks notes s = (t : Note) → IsIn t notes → (row : LockState) × (Stores s t.at row × (row.lkid ≡ t.number))

-- ---- ASTs that are owed on the way

-- how many ASTs are due to a process for this lock: 0 if it is one of these
abbrev pub due_but : List ℕ → ℕ → StoredLock → ℕ
due_but lkids pid k = if is_among lkids k.row then 0 else due_to pid k.row

-- each process is owed exactly the ASTs due for its locks except these
abbrev pub IsPaidBut : List ℕ → Records → Type 0
IsPaidBut lkids s = (pid : ℕ) → due_of pid s ≡ total_weight (due_but lkids pid) s

-- ---- how they end and go

-- the requests of these locks have ended, one after the other
abbrev pub RequestsHaveEnded : List ℕ → Bool → Records → Records → Type 0
RequestsHaveEnded lkids invalidates old new =
    plain_processes new
    ≡ processes_after (withdrawn_endings (map (giving_up by_abort by_abort invalidates) lkids) (plain_resources old))
    (plain_processes old)

-- the requests of these locks have ended, and nothing is owed for these locks
pub record HaveEnded (lkids : List ℕ) (invalidates : Bool) (old new : Records) : Type 0 where
  pub statuses : RequestsHaveEnded lkids invalidates old new
  pub only_notices : SameButNotices old new
  pub paid : IsPaidBut lkids new

-- the noted locks can go: they are locks of the process, their requests have ended, their sublocks go too, and there is
-- room to note the resource of each lock
pub record CanGo (pid : ℕ) (touched : Touches) (s : Records) : Type 0 where
  pub rise : Rise (noted_lkids touched.noted)
  pub locks : AreOfLocks touched.noted s
  pub own : (at : ℕ) (row : LockState) → Stores s at row → IsIn row.lkid (noted_lkids touched.noted) → row.pid ≡ pid
  pub closed : (at other : ℕ) (row up : LockState) → Stores s at row → Stores s other up → row.parent ≡ up.lkid
      → IsIn up.lkid (noted_lkids touched.noted) → IsIn row.lkid (noted_lkids touched.noted)
  pub paid : IsPaidBut (noted_lkids touched.noted) s
  pub rest : IsAtRest s
  pub together : SublocksAreOwn s
  pub granted : GrantedWantNothing s
  pub room : lock_total s ≤ touched.room

-- these locks have left their resources, and each resource that changed is noted
pub record HaveLeft (lkids : List ℕ) (invalidates : Bool) (old new : Records) (before after : Touches) : Type 0 where
  pub resources : plain_resources new ≡ map (resource_left (is_among lkids) invalidates) (plain_resources old)
  pub kept : AreStillNoted before.noted after.noted
  pub only_touched : OnlyTouched after.noted old new
  pub same_room : after.room ≡ before.room

-- these locks are gone, and no status block is written
pub record AreGone (lkids : List ℕ) (invalidates : Bool) (old new : Records) (before after : Touches) : Type 0 where
  pub left : HaveLeft lkids invalidates old new before after
  pub statuses : plain_processes new ≡ plain_processes old

-- the chosen locks are given up together: their requests have ended, by rising ID, and they are gone
pub record AreGivenUp (scope : Scope) (invalidates : Bool) (pid : ℕ) (old new : Records)
    (before after : Touches) : Type 0 where
  pub lkids : List ℕ
  pub chosen : AreChosen scope pid old lkids
  pub left : HaveLeft lkids invalidates old new before after
  pub statuses : RequestsHaveEnded lkids invalidates old new
