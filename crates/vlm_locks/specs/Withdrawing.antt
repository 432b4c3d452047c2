-- The withdrawal of a lock, and its parts.
use Rattle.std.specs.Prelude.{◌≡◌, ℕ, Bool, true, false, List, [], ◌∷◌, flat_map, map}
use Rattle.vlm_words.specs.declared.locks.LockState.{LockState}
use Rattle.vlm_words.specs.declared.resources.Queue.{Queue}
use Rattle.vlm_words.specs.declared.resources.Queue.TheVariants.{Granted, Conversion, Waiting}
use Rattle.vlm_model.specs.Withdrawals.{is_writer, processes_after, resource_after_withdrawals, withdrawal_endings}
use Rattle.vlm_words.specs.State.{Resource}
use Rattle.vlm_store.specs.Plain.{plain_processes, plain_resources}
use Rattle.vlm_store.specs.Records.{HasResource, Records, StoredProcess, but_notices, process_without_lock}
use Rattle.vlm_locks.specs.declared.located_locks.LocatedLock.{LocatedLock}
use Rattle.vlm_locks.specs.declared.withdrawals.Withdrawal.{Withdrawal}
use Rattle.vlm_locks.specs.Owing.{IsPaid, LosesOne}
use Rattle.vlm_locks.specs.Rest.{IsAtRest, LeavesOthers, OtherLocksStay, OthersStay}
use Rattle.vlm_locks.specs.Withdrawals.{plain_withdrawal}

-- a lock in this queue may write the value block when it goes: it holds PW or EX, granted or converting
abbrev pub may_write : Queue → LockState → Bool
may_write Granted row = is_writer row.held
may_write Conversion row = is_writer row.held
may_write Waiting row = false

-- whether a withdrawn lock in this queue goes: always, unless it is to stay and is granted or converting
abbrev pub goes : Bool → Queue → Bool
goes false queue = true
goes true Granted = false
goes true Conversion = false
goes true Waiting = true

-- a change of only this resource: it does to all resources what the plain machine does, and writes no status block
pub record IsChange (res : ℕ) (change : Resource → Resource) (old new : Records) : Type 0 where
  pub resources : plain_resources new ≡ map change (plain_resources old)
  pub statuses : plain_processes new ≡ plain_processes old
  pub others : OthersStay res old new
  pub there : HasResource res new
  pub rest : IsAtRest new

-- the processes with their own locks, after a withdrawal: a lock that goes leaves its process and its parent's sublocks
abbrev pub owned_after : Bool → ℕ → List StoredProcess → List StoredProcess
owned_after false lock processes = processes
owned_after true lock processes = map (process_without_lock lock) processes

-- a part of a withdrawal is done: the lock's resource is changed, each other lock stays, and the lock leaves its
-- process or stays too
pub record IsPartDone (f : LocatedLock) (change : Resource → Resource) (gone : Bool) (old new : Records) : Type 0 where
  pub made : IsChange f.res change old new
  pub locks : OtherLocksStay f.lock old new
  pub own_locks : new.processes ≡ owned_after gone f.lock old.processes

-- the resources are as the withdrawal leaves them
abbrev pub IsLeftBy : Withdrawal → Records → Records → Type 0
IsLeftBy w old new = plain_resources new ≡ map (resource_after_withdrawals (plain_withdrawal w ∷ []))
    (plain_resources old)

-- the lock is gone, and the value block of its resource is changed as the withdrawal says
pub record HasGivenUp (f : LocatedLock) (w : Withdrawal) (old new : Records) : Type 0 where
  pub resources : IsLeftBy w old new
  pub statuses : plain_processes new ≡ plain_processes old
  pub beside : LeavesOthers f.res f.lock old new
  pub own_locks : new.processes ≡ owned_after true f.lock old.processes
  pub loses : LosesOne (record { at = f.lock; row = f.row }) old new

-- the lock is withdrawn, and its request has ended
pub record HasWithdrawn (f : LocatedLock) (w : Withdrawal) (old new : Records) : Type 0 where
  pub resources : IsLeftBy w old new
  pub statuses : plain_processes new
      ≡ processes_after (flat_map (withdrawal_endings (plain_withdrawal w)) (plain_resources old)) (plain_processes old)
  pub beside : LeavesOthers f.res f.lock old new
  pub own_locks : map but_notices new.processes ≡ map but_notices
      (owned_after (goes w.stays f.queue) f.lock old.processes)
  pub paid : IsPaid new
