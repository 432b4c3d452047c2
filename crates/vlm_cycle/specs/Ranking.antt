-- Ranks of processes, and their bounds on a resource.
use Rattle.std.specs.Prelude.{◌≡◌, ◌≢◌, ◌<◌, ◌≤◌, ◌==◌, ℕ, false, List, Option, None, Some, find, slice_get, slice_index_or}
use Rattle.std.specs.Option.{option_map_or}
use Rattle.vlm_words.specs.declared.locks.Request.{Request}
use Rattle.vlm_words.specs.declared.locks.LockState.{LockState}
use Rattle.vlm_words.specs.declared.modes.Mode.{Mode}
use Rattle.vlm_words.specs.declared.resources.Queue.{Queue}
use Rattle.vlm_words.specs.declared.resources.Queue.TheVariants.{Granted, Conversion, Waiting}
use Rattle.vlm_model.specs.Deadlocks.{BlocksThoseBehind, WaitsFor}
use Rattle.vlm_words.specs.Flags.{flag_bits, has_flag, nodlckblk}
use Rattle.vlm_words.specs.Modes.{is_compatible, rank as mode_rank}
use Rattle.vlm_collections.specs.Lists.{IsIn}
use Rattle.vlm_store.specs.Records.{Records}
use Rattle.vlm_queue.specs.Walks.{rows_queued}
use Rattle.vlm_locks.specs.declared.located_locks.LocatedLock.{LocatedLock}
use Rattle.vlm_cycle.specs.declared.blocker_ranks.BlockerRanks.{BlockerRanks}
use Rattle.vlm_cycle.specs.declared.blocker_ranks.HighestRank.{HighestRank}
use Rattle.vlm_cycle.specs.Ranks.{Ranks}
use Rattle.vlm_cycle.specs.Waiting.{OwnsBefore, OwnsBlocker, rows_before, searched}

-- ---- ranks

-- the noted rank of the process with this handle, or 0
abbrev pub rank_at : Ranks → ℕ → ℕ
rank_at ranks process = option_map_or (λ note. note.rank) (slice_get ranks process) 0

-- the rank of the living process with this ID, or 0
unfoldable pub rank_of : Records → Ranks → ℕ → ℕ
rank_of s ranks pid = option_map_or (λ p. rank_at ranks p.at) (find (λ p. p.process.pid == pid) s.processes) 0

-- no request of these rows waits for a process of a higher rank than its own process
abbrev pub FallsOn : Records → Ranks → List LockState → Type 0
FallsOn s ranks rows =
    (row lock : LockState) → IsIn row rows → WaitsFor (searched s) row lock
    → rank_of s ranks lock.pid ≤ rank_of s ranks row.pid

-- no process waits for one of a higher rank
abbrev pub Falls : Records → Ranks → Type 0
Falls s ranks = (row lock : LockState) → WaitsFor (searched s) row lock
    → rank_of s ranks lock.pid ≤ rank_of s ranks row.pid

-- ---- counts

-- a lock of this ID and rank is counted: `most` is above its rank, and so is `rest` if another lock has
-- the highest rank
pub record IsCounted (highest : HighestRank) (lkid rank : ℕ) : Type 0 where
  pub most : rank < highest.most
  pub rest : lkid ≢ highest.lkid → rank < highest.rest

-- nothing is counted
abbrev pub no_peak : HighestRank
no_peak = record { lkid = 0; most = 0; rest = 0 }

-- the bounds for a mode
abbrev pub highest_of : List HighestRank → Mode → HighestRank
highest_of peaks mode = slice_index_or peaks (mode_rank mode) no_peak

-- the held request is counted for a lock of this ID and rank, unless it has NODLCKBLK
abbrev pub CountsHeld : List HighestRank → Option Request → ℕ → ℕ → Type 0
CountsHeld peaks None lkid rank = Unit {0}
CountsHeld peaks (Some held) lkid rank =
    has_flag (flag_bits held.flags) nodlckblk ≡ false → IsCounted (highest_of peaks held.mode) lkid rank

-- the held modes of these locks are counted with the ranks of their owners
abbrev pub CountsHolders : Records → Ranks → List HighestRank → List LockState → Type 0
CountsHolders s ranks peaks rows =
    (row : LockState) → IsIn row rows → CountsHeld peaks row.held row.lkid (rank_of s ranks row.pid)

-- it is above the ranks of the other locks that are counted with a mode
abbrev pub IsAbove : List HighestRank → Mode → ℕ → ℕ → Type 0
IsAbove peaks held lkid top =
    (other rank : ℕ) → other ≢ lkid → IsCounted (highest_of peaks held) other rank → rank < top

-- it is above the ranks of the other locks that are counted with a mode that is not compatible with this one
abbrev pub IsAboveAll : List HighestRank → Mode → ℕ → ℕ → Type 0
IsAboveAll peaks mode lkid top = (held : Mode) → is_compatible mode held ≡ false → IsAbove peaks held lkid top

-- ---- the blocker ranks of a resource

-- the ranks of the owners whose requests block later ones are below the bound for earlier requests
abbrev pub HasPassedAll : Records → Ranks → ℕ → List LockState → Type 0
HasPassedAll s ranks before rows =
    (lkid pid : ℕ) → OwnsBlocker (rows_before lkid rows) pid → rank_of s ranks pid < before

-- the same for the queue before this one, if there is one
abbrev pub HasPassed : Records → Ranks → ℕ → ℕ → Queue → Type 0
HasPassed s ranks before res Granted = Unit {0}
HasPassed s ranks before res Conversion = Unit {0}
HasPassed s ranks before res Waiting = HasPassedAll s ranks before (rows_queued res Conversion s)

-- the blocker ranks of a resource at the head of a queue: all held modes are counted, and the queue before is passed
pub record AreBlockerRanksOf (s : Records) (ranks : Ranks) (blocker_ranks : BlockerRanks) (res : ℕ)
    (queue : Queue) : Type 0 where
  pub granted : CountsHolders s ranks blocker_ranks.held (rows_queued res Granted s)
  pub converting : CountsHolders s ranks blocker_ranks.held (rows_queued res Conversion s)
  pub passed : HasPassed s ranks blocker_ranks.before res queue

-- the blocker ranks of a resource at a lock: the requests before that lock are passed
pub record AreBlockerRanksAt (s : Records) (ranks : Ranks) (blocker_ranks : BlockerRanks)
    (f : LocatedLock) : Type 0 where
  pub granted : CountsHolders s ranks blocker_ranks.held (rows_queued f.res Granted s)
  pub converting : CountsHolders s ranks blocker_ranks.held (rows_queued f.res Conversion s)
  pub passed : (pid : ℕ) → OwnsBefore f.row.lkid f.queue (rows_queued f.res Conversion s)
      (rows_queued f.res Waiting s) pid → rank_of s ranks pid < blocker_ranks.before

-- the blocker ranks pass a queue
pub record PassesQueue (s : Records) (ranks : Ranks) (rows : List LockState) (old new : BlockerRanks) : Type 0 where
  pub held : new.held ≡ old.held
  pub before : old.before ≤ new.before
  pub passed : HasPassedAll s ranks new.before rows

-- the blocker ranks pass one request, whose owner has this rank
pub record PassesOne (row : LockState) (rank : ℕ) (old new : BlockerRanks) : Type 0 where
  pub held : new.held ≡ old.held
  pub before : old.before ≤ new.before
  pub passed : BlocksThoseBehind row.want → rank < new.before
