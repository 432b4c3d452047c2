-- The records after the service of one resource.
use Rattle.std.specs.Prelude.{◌≡◌, ◌&&◌, ℕ, Bool, false, List, [], Option, None, Some}
use Rattle.vlm_words.specs.declared.locks.Request.{Request}
use Rattle.vlm_words.specs.declared.resources.Queue.{Queue}
use Rattle.vlm_words.specs.declared.resources.Queue.TheVariants.{Granted, Conversion, Waiting}
use Rattle.vlm_words.specs.declared.resources.ValueBlock.{ValueBlock}
use Rattle.vlm_model.specs.Effects.{Blocks, blocks_after, blocks_with, with_value_block}
use Rattle.vlm_model.specs.Grants.{Service, no_service, service, service_of_conversions, service_of_waiting}
use Rattle.vlm_words.specs.Rows.{is_empty}
use Rattle.vlm_words.specs.State.{Process, Resource}
use Rattle.vlm_model.specs.Sweeps.{blocks_after_service, resource_after_service}
use Rattle.vlm_store.specs.Plain.{plain_processes, plain_resource}
use Rattle.vlm_store.specs.Records.{Records, StoredResource, fits_beside, resource_at}
use Rattle.vlm_locks.specs.Rest.{IsReplaced}
use Rattle.vlm_locks.specs.Staying.{LocksStay}

-- the value block and the processes after the grants of a service, without its blocking ASTs
abbrev pub blocks_granted_from : List Process → Resource → Blocks
blocks_granted_from processes r = blocks_after (service r).endings (blocks_with r.value_block processes)

-- a resource without its queues
abbrev pub but_stored_queues : StoredResource → StoredResource
but_stored_queues r = record r { granted = []; converting = []; waiting = [] }

-- the requests that can be granted on the resource with this handle are granted; the grants write its value block and
-- their status blocks, and queue their completion ASTs; all else stays
pub record HasGranted (res : ℕ) (old new : Records) : Type 0 where
  pub had : StoredResource
  pub left : StoredResource
  pub replaced : IsReplaced res had left old new
  pub stay : LocksStay had left
  pub none_join : LocksStay left had
  pub resource : plain_resource left
      ≡ with_value_block (blocks_granted_from (plain_processes old) (plain_resource had)).value_block
      (service (plain_resource had)).resource
  pub statuses : plain_processes new ≡ (blocks_granted_from (plain_processes old) (plain_resource had)).processes

-- the resource with this handle is served, and then its granted locks are warned; all else stays
pub record IsServed (res : ℕ) (old new : Records) : Type 0 where
  pub had : StoredResource
  pub left : StoredResource
  pub replaced : IsReplaced res had left old new
  pub stay : LocksStay had left
  pub none_join : LocksStay left had
  pub resource : plain_resource left ≡ resource_after_service (plain_processes old) (plain_resource had)
  pub statuses : plain_processes new ≡ (blocks_after_service (plain_processes old) (plain_resource had)).processes

-- ---- the parts of a service

-- no request is queued on the resource
abbrev pub nothing_queued : Resource → Bool
nothing_queued r = is_empty r.converting && is_empty r.waiting

-- the mode that a lock wants fits beside the other locks of the resource
abbrev pub wanted_fits_beside : Option Request → ℕ → StoredResource → Bool
wanted_fits_beside None lock r = false
wanted_fits_beside (Some request) lock r = fits_beside request.mode (Some lock) r

-- the grants from one queue
abbrev pub service_from : Queue → Resource → Service
service_from Granted r = no_service r
service_from Conversion r = service_of_conversions r r.converting
service_from Waiting r = service_of_waiting r r.waiting

-- the resource with this handle changed from the first to the second: only in its queues; elsewhere only the notices of
-- processes may change
pub record IsLeft (res : ℕ) (had left : StoredResource) (old new : Records) : Type 0 where
  pub replaced : IsReplaced res had left old new
  pub now : resource_at res new.resources ≡ Some left
  pub rest : but_stored_queues left ≡ but_stored_queues had

-- a service of this resource is done: its endings took effect on the records and on the value block, which is kept
-- outside the records meanwhile
pub record IsServiceOf (done : Resource → Service) (res : ℕ) (old_block : ValueBlock) (old : Records)
    (new_block : ValueBlock) (new : Records) : Type 0 where
  pub had : StoredResource
  pub left : StoredResource
  pub change : IsLeft res had left old new
  pub stay : LocksStay had left
  pub none_join : LocksStay left had
  pub resource : plain_resource left ≡ (done (plain_resource had)).resource
  pub effect : blocks_with new_block (plain_processes new)
      ≡ blocks_after (done (plain_resource had)).endings (blocks_with old_block (plain_processes old))
