-- The step Enq: a new lock.
use Rattle.std.specs.Prelude.{ℕ, Bool, true, false, not, ◌&&◌, ◌||◌, ◌==◌, ◌+◌, List, [], ◌∷◌, ◌++◌, Option, None, Some, find, unwrap_or, if◌then◌else◌}
use Rattle.std.specs.List.{list_any}
use Rattle.std.specs.Result.{result_err}
use Rattle.vlm_words.specs.declared.conditions.Cond.TheVariants.{Unsupported}
use Rattle.vlm_words.specs.declared.conditions.Cond.{Cond}
use Rattle.vlm_words.specs.declared.locks.Request.{Request}
use Rattle.vlm_words.specs.declared.locks.LockState.{LockState}
use Rattle.vlm_words.specs.declared.modes.Mode.{Mode}
use Rattle.vlm_words.specs.declared.resources.Key.{Key}
use Rattle.vlm_words.specs.declared.resources.Site.{Site}
use Rattle.vlm_words.specs.declared.steps.NewRequest.{NewRequest}
use Rattle.vlm_words.specs.Names.{name_of}
use Rattle.vlm_words.specs.Modes.{rank}
use Rattle.vlm_words.specs.Flags.{expedite, flag_bits, has_flag}
use Rattle.vlm_words.specs.State.{Process, Resource, State}
use Rattle.vlm_model.specs.StatusBlocks.{processes_after_acceptance}
use Rattle.vlm_model.specs.Endings.{Ending}
use Rattle.vlm_model.specs.Effects.{blocks_after, blocks_with}
use Rattle.vlm_words.specs.Rows.{fits, is_empty}
use Rattle.vlm_model.specs.Grants.{grant_endings, resource_after_grant}
use Rattle.vlm_words.specs.Resources.{is_at, new_resource}
use Rattle.vlm_model.specs.Checks.{caller_refusal, numbers_refusal, or_else, queue_refusal, request_flags_refusal, status_block_refusal, which_refusal}
use Rattle.vlm_model.specs.Trees.{enq_site, parent_lkid, site_refusal}
use Rattle.vlm_model.specs.Quotas.{quota_refusal}

-- UNSUPPORTED for EXPEDITE at a mode other than NL
unfoldable pub expedite_refusal : ℕ → Mode → Option Cond
expedite_refusal flags mode =
    if has_flag flags expedite && not (rank mode == 0) then Some Unsupported else None

-- IVBUFLEN if the bytes are not a resource name
unfoldable pub name_refusal : List ℕ → Option Cond
name_refusal bytes = result_err (name_of bytes)

-- the key of the resource
abbrev pub enq_key : State → NewRequest → Key
enq_key s e = (enq_site s e).key

-- the request, under the next request number
abbrev pub enq_request : State → NewRequest → Request
enq_request s e = record {
  number = s.next_request;
  mode = e.mode;
  flags = record { 0 = e.flags };
  block = e.block;
  completion = e.ast;
  blocking = e.bast;
  param = e.param;
}

-- the new row, under the next ID; nothing is granted yet
abbrev pub enq_row : State → NewRequest → LockState
enq_row s e = record {
  lkid = s.next_lkid;
  pid = e.pid;
  parent = parent_lkid s e;
  held = None;
  want = Some (enq_request s e);
  armed = false;
}

-- the mode fits, and nobody is queued
abbrev pub is_free_for : Request → Resource → Bool
is_free_for request r =
    fits request.mode r.granted r.converting && is_empty r.converting && is_empty r.waiting

-- granted at once: it has EXPEDITE, or it fits and nobody is queued
unfoldable pub is_at_once : Request → Resource → Bool
is_at_once request r = has_flag (flag_bits request.flags) expedite || is_free_for request r

-- the lock is granted at once, or goes to the end of the waiting queue
unfoldable pub resource_after_entry : LockState → Bool → Resource → Resource
resource_after_entry row at_once r =
    if at_once then resource_after_grant r row else record r { waiting = r.waiting ++ row ∷ [] }

-- one of the resources has this key
abbrev pub has_resource : Key → List Resource → Bool
has_resource key resources = list_any (is_at key) resources

-- the lock enters the resource at the site; if there is no such resource, a new one at the end
abbrev pub resources_after_entry : ℕ → Site → LockState → Bool → List Resource → List Resource
resources_after_entry serial site row at_once [] =
    resource_after_entry row at_once (new_resource serial site) ∷ []
resources_after_entry serial site row at_once (r ∷ rest) =
    if is_at site.key r then resource_after_entry row at_once r ∷ rest
    else r ∷ resources_after_entry serial site row at_once rest

-- the resource before the lock enters it; if it does not exist yet, a new one
unfoldable pub enq_resource : State → NewRequest → Resource
enq_resource s e =
    unwrap_or (find (is_at (enq_key s e)) s.resources) (new_resource s.next_serial (enq_site s e))

-- the new request is granted at once
abbrev pub enq_at_once : State → NewRequest → Bool
enq_at_once s e = is_at_once (enq_request s e) (enq_resource s e)

-- the ending of the request, if it is granted at once
abbrev pub enq_endings : State → NewRequest → List Ending
enq_endings s e = if enq_at_once s e then grant_endings true (enq_row s e) else []

-- the processes after the request: its status block is marked pending, then its grant at once is written, if any; a
-- new request never writes the value block
abbrev pub enq_processes : State → NewRequest → List Process
enq_processes s e =
    let accepted = processes_after_acceptance e.pid e.block s.next_lkid s.processes
    in (blocks_after (enq_endings s e) (blocks_with (enq_resource s e).value_block accepted)).processes

-- the refusals of the request's arguments, in their order
unfoldable pub enq_form_refusal : State → NewRequest → Option Cond
enq_form_refusal s e =
    or_else (request_flags_refusal e.flags)
    (or_else (status_block_refusal s e.pid e.block)
    (or_else (which_refusal s e.pid e.parent)
    (or_else (name_refusal e.name) (expedite_refusal e.flags e.mode))))

-- the refusals by quota, numbers and NOQUEUE, in their order
unfoldable pub enq_limit_refusal : State → NewRequest → Option Cond
enq_limit_refusal s e =
    or_else (quota_refusal s e.pid)
    (or_else (numbers_refusal s) (queue_refusal e.flags (enq_at_once s e)))

-- the checks of a new request, in their order
unfoldable pub enq_refusal : State → NewRequest → Option Cond
enq_refusal s e =
    or_else (caller_refusal s e.pid)
    (or_else (enq_form_refusal s e)
    (or_else (site_refusal s e.pid e.flags (parent_lkid s e)) (enq_limit_refusal s e)))

-- the change of a new request: the lock enters, its status block is written, and numbers are used
unfoldable pub enq_change : State → NewRequest → State
enq_change s e = record s {
  processes = enq_processes s e;
  resources =
      resources_after_entry s.next_serial (enq_site s e) (enq_row s e) (enq_at_once s e) s.resources;
  next_lkid = s.next_lkid + 1;
  next_request = s.next_request + 1;
  next_serial = if has_resource (enq_key s e) s.resources then s.next_serial else s.next_serial + 1;
}
