-- The conversion of a granted lock.
use Rattle.std.specs.Prelude.{◌≡◌, true, IfSome, List, map}
use Rattle.vlm_words.specs.declared.locks.Request.{Request}
use Rattle.vlm_words.specs.declared.locks.LockState.{LockState}
use Rattle.vlm_words.specs.declared.resources.Queue.{Queue}
use Rattle.vlm_words.specs.declared.resources.Queue.TheVariants.{Granted}
use Rattle.vlm_model.specs.Convert.{ConversionAdmission, conversion_blocks, converts_at_once, resource_after_conversion}
use Rattle.vlm_model.specs.Effects.{Blocks, blocks_after, blocks_with}
use Rattle.vlm_model.specs.Grants.{grant_endings}
use Rattle.vlm_words.specs.Rows.{granted_row}
use Rattle.vlm_words.specs.State.{Process}
use Rattle.vlm_model.specs.StatusBlocks.{processes_after_acceptance}
use Rattle.vlm_records.specs.declared.handles.Place.TheVariants.{Queued}
use Rattle.vlm_store.specs.Plain.{plain_processes, plain_resource, plain_resources}
use Rattle.vlm_store.specs.Records.{Records, StoredResource, moving, resource_at, resource_with}
use Rattle.vlm_locks.specs.declared.located_locks.LocatedLock.{LocatedLock}
use Rattle.vlm_locks.specs.Owing.{IsPaid}
use Rattle.vlm_locks.specs.Rest.{IsReplaced, LeavesOthers, OwnLocksStay}

-- the conversion of the lock on its resource, as the plain machine admits it
abbrev pub admission_on : LocatedLock → Request → StoredResource → ConversionAdmission
admission_on f asked r = record {
  resource = plain_resource r;
  row = f.row;
  request = asked;
  at_once = converts_at_once asked f.row.lkid (plain_resource r);
}

-- the processes after the request is accepted: its status block says that it is pending
abbrev pub processes_converting : LocatedLock → Request → Records → List Process
processes_converting f asked s = processes_after_acceptance f.row.pid asked.block f.row.lkid (plain_processes s)

-- the lock is converted on its resource as in the plain machine, which starts from these processes
pub record IsConverted (f : LocatedLock) (asked : Request) (accepted : List Process) (r : StoredResource)
    (old new : Records) : Type 0 where
  pub resources : plain_resources new
      ≡ map
      (resource_after_conversion asked (admission_on f asked r).at_once f.row.pid f.row.lkid
      (conversion_blocks (admission_on f asked r) accepted).value_block) (plain_resources old)
  pub statuses : plain_processes new ≡ (conversion_blocks (admission_on f asked r) accepted).processes

-- the resource after this lock moves to the end of a queue, with this row
abbrev pub moved_in : LocatedLock → LockState → Queue → StoredResource → StoredResource
moved_in f row queue r = resource_with (moving (Queued f.res queue) (record { at = f.lock; row = row })) r

-- the value block and the processes after the grant of the row
abbrev pub blocks_granted : LockState → StoredResource → List Process → Blocks
blocks_granted row r accepted = blocks_after (grant_endings true row) (blocks_with r.value_block accepted)

-- the request of the lock is granted at once on its resource; these are the processes after it was accepted
pub record IsConvertedAtOnce (f : LocatedLock) (row : LockState) (accepted : List Process) (r : StoredResource)
    (old new : Records) : Type 0 where
  pub replaced : IsReplaced f.res r (record (moved_in f (granted_row row) Granted r)
      { value_block = (blocks_granted row r accepted).value_block }) old new
  pub statuses : plain_processes new ≡ (blocks_granted row r accepted).processes

-- the located lock is converted, the other locks are unchanged, and each process is owed the ASTs due to it
pub record HasConverted (f : LocatedLock) (asked : Request) (old new : Records) : Type 0 where
  pub converted : IfSome (resource_at f.res old.resources)
      (λ r. IsConverted f asked (processes_converting f asked old) r old new)
  pub beside : LeavesOthers f.res f.lock old new
  pub own_locks : OwnLocksStay old new
  pub paid : IsPaid new
