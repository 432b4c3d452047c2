-- The order of the locks of a process, and of the sublocks of a lock.
use Rattle.std.specs.Prelude.{◌≡◌, ◌<◌, ⊤, None, ℕ, List, [], ◌∷◌, map}
use Rattle.vlm_words.specs.declared.locks.LockState.{LockState}
use Rattle.vlm_collections.specs.Lists.{IsIn}
use Rattle.vlm_store.specs.Records.{OwnLock, Records, StoredProcess, Stores}

-- the first lock has a lower ID than the second
abbrev pub IsOlder : Records → ℕ → ℕ → Type 0
IsOlder s first second = (a b : LockState) → Stores s first a → Stores s second b → a.lkid < b.lkid

-- the locks with these handles are in the order of IDs
abbrev pub StandById : Records → List ℕ → Type 0
StandById s [] = ⊤
StandById s (at ∷ rest) = ((later : ℕ) → IsIn later rest → IsOlder s at later)
    × StandById s rest

-- the handles of the locks of a process
abbrev pub handles_of_own : List OwnLock → List ℕ
handles_of_own locks = map (λ own. own.at) locks

-- the locks of the process are in queues and in the order of IDs; each comes before its sublocks, which are
-- in order too
pub record HasRisingLocks (s : Records) (p : StoredProcess) : Type 0 where
  pub queued : (own : OwnLock) → IsIn own p.own → own.loose ≡ None
  pub own : StandById s (handles_of_own p.own)
  pub sublocks : (own : OwnLock) → IsIn own p.own → StandById s (own.at ∷ own.sublocks)

-- each stored lock has a lower ID than this
abbrev pub IsAboveEachLock : ℕ → Records → Type 0
IsAboveEachLock lkid s = (at : ℕ) (row : LockState) → Stores s at row → row.lkid < lkid
