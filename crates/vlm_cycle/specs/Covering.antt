-- What a search leaves out: an earlier request that it finds waits for it too.
use Rattle.std.specs.Prelude.{◌≡◌, ◌⊎◌, ◌==◌, ◌&&◌, ℕ, Bool, false, not, List, [], ◌∷◌, if◌then◌else◌}
use Rattle.std.specs.List.{list_any}
use Rattle.std.specs.Option.{option_map_or}
use Rattle.vlm_words.specs.declared.locks.LockState.{LockState}
use Rattle.vlm_words.specs.declared.locks.Request.{Request}
use Rattle.vlm_words.specs.declared.modes.Mode.{Mode}
use Rattle.vlm_words.specs.declared.resources.Queue.{Queue}
use Rattle.vlm_words.specs.declared.resources.Queue.TheVariants.{Granted, Conversion, Waiting}
use Rattle.vlm_words.specs.Flags.{flag_bits, has_flag, nodlckblk, nodlckwt}
use Rattle.vlm_words.specs.Modes.{rank as mode_rank}
use Rattle.vlm_store.specs.Records.{Records}
use Rattle.vlm_queue.specs.Walks.{rows_queued}
use Rattle.vlm_locks.specs.declared.located_locks.LocatedLock.{LocatedLock}
use Rattle.vlm_locks.specs.Standing.{IsLocated}
use Rattle.vlm_cycle.specs.Blocking.{Awaits}
use Rattle.vlm_cycle.specs.Waiting.{OwnsBlocker, OwnsHolder, rows_before}

-- the request waits for other locks, and later requests wait for it
abbrev pub request_covers : Request → Bool
request_covers want = not (has_flag (flag_bits want.flags) nodlckwt) && not (has_flag (flag_bits want.flags) nodlckblk)

-- the row has a queued request that covers those before it
abbrev pub covers : LockState → Bool
covers row = option_map_or request_covers row.want false

-- the same, and it wants this mode
abbrev pub covers_for : Mode → LockState → Bool
covers_for mode row =
    option_map_or (λ (want : Request). mode_rank want.mode == mode_rank mode) row.want false && covers row

-- the rows from the last one that covers; all rows if none covers
abbrev pub nearest : List LockState → List LockState
nearest [] = []
nearest (row ∷ rows) = if list_any covers rows then nearest rows else row ∷ rows

-- the rows before the located lock in its queue
abbrev pub rows_ahead : LocatedLock → Records → List LockState
rows_ahead f s = rows_before f.row.lkid (rows_queued f.res f.queue s)

-- the process owns a conversion before the waiting request
abbrev pub OwnsConversion : Queue → List LockState → ℕ → Type 0
OwnsConversion Granted converting pid = ⊥
OwnsConversion Conversion converting pid = ⊥
OwnsConversion Waiting converting pid = OwnsBlocker converting pid

-- the process owns a lock that a search looks at, for a request of this mode in these rows: an earlier request, back to
-- the first that covers; a conversion, if no earlier one covers; a holder, if no earlier one for the mode covers
abbrev pub OwnsNearAmong : ℕ → Mode → Queue → List LockState → List LockState → List LockState → ℕ → Type 0
OwnsNearAmong lkid mode queue rows granted converting pid =
    (OwnsBlocker (nearest (rows_before lkid rows)) pid
    ⊎ ((list_any covers (rows_before lkid rows) ≡ false) × OwnsConversion queue converting pid))
    ⊎ ((list_any (covers_for mode) (rows_before lkid rows) ≡ false)
    × (OwnsHolder lkid mode granted pid ⊎ OwnsHolder lkid mode converting pid))

-- the same for the located lock
abbrev pub OwnsNearKeeper : Records → LocatedLock → Mode → ℕ → Type 0
OwnsNearKeeper s f mode = OwnsNearAmong f.row.lkid mode f.queue (rows_queued f.res f.queue s)
    (rows_queued f.res Granted s) (rows_queued f.res Conversion s)

-- the process owns a lock that a search looks at for the queued request of the located lock, which waits
pub record OwnsNear (s : Records) (f : LocatedLock) (pid : ℕ) : Type 0 where
  pub request : Request
  pub awaits : Awaits f request
  pub near : OwnsNearKeeper s f request.mode pid

-- a search looks at a lock of the other process for a request of the process
pub record IsNearBehind (s : Records) (pid other : ℕ) : Type 0 where
  pub from : LocatedLock
  pub located : IsLocated from s
  pub owner : from.row.pid ≡ pid
  pub near : OwnsNear s from other
