-- The step Convert: another mode of a granted lock.
use Rattle.std.specs.Prelude.{ℕ, Bool, true, false, not, ◌&&◌, ◌||◌, ◌+◌, List, [], ◌∷◌, ◌++◌, map, find, Option, None, Some, if◌then◌else◌}
use Rattle.vlm_words.specs.declared.conditions.Cond.TheVariants.{Badparam, Cvtungrant}
use Rattle.vlm_words.specs.declared.conditions.Cond.{Cond}
use Rattle.vlm_words.specs.declared.locks.Request.{Request}
use Rattle.vlm_words.specs.declared.locks.LockState.{LockState}
use Rattle.vlm_words.specs.declared.modes.Mode.{Mode}
use Rattle.vlm_words.specs.declared.resources.ValueBlock.{ValueBlock}
use Rattle.vlm_words.specs.declared.steps.Conversion.{Conversion}
use Rattle.vlm_words.specs.Modes.{is_queued_legally}
use Rattle.vlm_words.specs.Flags.{flag_bits, has_flag, quecvt}
use Rattle.vlm_words.specs.State.{Process, Resource, State}
use Rattle.vlm_model.specs.StatusBlocks.{processes_after_acceptance}
use Rattle.vlm_model.specs.Endings.{Ending}
use Rattle.vlm_model.specs.Effects.{Blocks, blocks_after, blocks_with, with_value_block}
use Rattle.vlm_words.specs.Rows.{fits, is_empty, is_lock_of, rows_without, wanting_row}
use Rattle.vlm_model.specs.Grants.{grant_endings, resource_after_grant}
use Rattle.vlm_model.specs.Checks.{caller_refusal, lock_refusal, named_lkid, or_else, queue_refusal}
use Rattle.vlm_model.specs.Checks.{request_flags_refusal, request_numbers_refusal, status_block_refusal, which_refusal}

-- granted at once: the mode fits beside all other locks, and with QUECVT no conversion is queued
unfoldable pub converts_at_once : Request → ℕ → Resource → Bool
converts_at_once request lkid r =
    fits request.mode (rows_without lkid r.granted) r.converting
    && (not (has_flag (flag_bits request.flags) quecvt) || is_empty r.converting)

-- an admitted conversion: the granted lock and its resource, the request, and whether it is granted at once
pub record ConversionAdmission : Type 0 where
  pub resource : Resource
  pub row : LockState
  pub request : Request
  pub at_once : Bool

-- the admission of the lock if it is granted on this resource, else the one found later
abbrev pub admission_or : Request → Resource → Option LockState → Option ConversionAdmission
    → Option ConversionAdmission
admission_or request r None later = later
admission_or request r (Some row) later =
    Some (record {
      resource = r;
      row = row;
      request = request;
      at_once = converts_at_once request row.lkid r;
    })

-- the admission of a lock of this process, if it is granted on one of these resources
abbrev pub admission_among : Request → ℕ → ℕ → List Resource → Option ConversionAdmission
admission_among request pid lkid [] = None
admission_among request pid lkid (r ∷ rest) =
    admission_or request r (find (is_lock_of pid lkid) r.granted) (admission_among request pid lkid rest)

-- the named lock
abbrev pub convert_lkid : State → Conversion → ℕ
convert_lkid s c = named_lkid s c.pid c.lock

-- the request, under the next request number
abbrev pub convert_request : State → Conversion → Request
convert_request s c = record {
  number = s.next_request;
  mode = c.mode;
  flags = record { 0 = c.flags };
  block = c.block;
  completion = c.ast;
  blocking = c.bast;
  param = c.param;
}

-- the admission of the conversion, if its lock is granted
unfoldable pub convert_admission : State → Conversion → Option ConversionAdmission
convert_admission s c = admission_among (convert_request s c) c.pid (convert_lkid s c) s.resources

-- QUECVT may go with a conversion from the held mode to this one
abbrev pub is_queued_legally_from : Option Request → Mode → Bool
is_queued_legally_from None mode = false
is_queued_legally_from (Some held) mode = is_queued_legally held.mode mode

-- BADPARAM if QUECVT does not go with the two modes
unfoldable pub pair_refusal : Conversion → LockState → Option Cond
pair_refusal c row =
    if has_flag c.flags quecvt && not (is_queued_legally_from row.held c.mode) then Some Badparam
    else None

-- CVTUNGRANT if the lock waits or converts already, else the refusals by QUECVT, request numbers and NOQUEUE
abbrev pub admission_refusal : State → Conversion → Option ConversionAdmission → Option Cond
admission_refusal s c None = Some Cvtungrant
admission_refusal s c (Some a) =
    or_else (pair_refusal c a.row)
    (or_else (request_numbers_refusal s) (queue_refusal c.flags a.at_once))

-- the checks of a conversion, in their order
unfoldable pub convert_refusal : State → Conversion → Option Cond
convert_refusal s c =
    or_else (caller_refusal s c.pid)
    (or_else (request_flags_refusal c.flags)
    (or_else (status_block_refusal s c.pid c.block)
    (or_else (which_refusal s c.pid c.lock)
    (or_else (lock_refusal s c.pid (convert_lkid s c))
    (admission_refusal s c (convert_admission s c))))))

-- the ending of the conversion, if it is granted at once
abbrev pub conversion_endings : ConversionAdmission → List Ending
conversion_endings a = if a.at_once then grant_endings true (wanting_row a.row a.request) else []

-- the resource's value block and the processes, after that ending
abbrev pub conversion_blocks : ConversionAdmission → List Process → Blocks
conversion_blocks a processes =
    blocks_after (conversion_endings a) (blocks_with a.resource.value_block processes)

-- the resource without a lock that leaves its granted queue
abbrev pub resource_without_granted : ℕ → Resource → Resource
resource_without_granted lkid r = record r { granted = rows_without lkid r.granted }

-- the lock is granted at once, and the value block becomes this one; or it goes to the end of the conversion queue
abbrev pub resource_after_conversion_of : Request → Bool → ℕ → ValueBlock → Resource → Option LockState
    → Resource
resource_after_conversion_of request at_once lkid block r None = r
resource_after_conversion_of request at_once lkid block r (Some row) =
    if at_once
    then with_value_block block
    (resource_after_grant (resource_without_granted lkid r) (wanting_row row request))
    else record (resource_without_granted lkid r) {
      converting = r.converting ++ wanting_row row request ∷ [];
    }

-- the change of a resource; it changes only the resource of the lock
unfoldable pub resource_after_conversion : Request → Bool → ℕ → ℕ → ValueBlock → Resource → Resource
resource_after_conversion request at_once pid lkid block r =
    resource_after_conversion_of request at_once lkid block r (find (is_lock_of pid lkid) r.granted)

-- the blocks after the conversion: its status block is marked pending, then its grant at once is written, if any
unfoldable pub convert_blocks : State → Conversion → ConversionAdmission → Blocks
convert_blocks s c a =
    conversion_blocks a (processes_after_acceptance c.pid c.block (convert_lkid s c) s.processes)

-- the change of a conversion: it writes processes and resources, and uses one request number
unfoldable pub convert_change : State → Conversion → ConversionAdmission → State
convert_change s c a = record s {
  processes = (convert_blocks s c a).processes;
  resources =
      map
      (resource_after_conversion a.request a.at_once c.pid (convert_lkid s c) (convert_blocks s c a).value_block)
      s.resources;
  next_request = s.next_request + 1;
}
