-- The checks that several steps share. Each answers a refusal, or nothing.
use Rattle.std.specs.Prelude.{ℕ, Bool, not, ◌&&◌, ◌||◌, ◌^◌, Option, None, Some, is_some, nat_lt, nat_le, List, length, if◌then◌else◌}
use Rattle.std.specs.List.{list_any}
use Rattle.vlm_words.specs.declared.conditions.Cond.TheVariants.{Normal, Synch, Badparam, Departed, Nonexpr, Accvio, Ivlockid, Nolockid, Notqueued}
use Rattle.vlm_words.specs.declared.conditions.Cond.{Cond}
use Rattle.vlm_words.specs.declared.steps.Which.TheVariants.{Id, Block}
use Rattle.vlm_words.specs.declared.steps.Which.{Which}
use Rattle.vlm_words.specs.Flags.{enq_bits, has_flag, is_known, noqueue, syncsts}
use Rattle.vlm_words.specs.State.{Node, Resource, State, node_at, process_of}
use Rattle.vlm_model.specs.StatusBlocks.{status_block_of, status_blocks_of}
use Rattle.vlm_words.specs.Steps.{node_of_pid}
use Rattle.vlm_words.specs.Rows.{is_lock_of}

-- the first check that refuses decides
abbrev pub or_else : Option Cond → Option Cond → Option Cond
or_else None later = later
or_else (Some refusal) later = Some refusal

-- the node is a node of the machine, and it has departed
abbrev pub has_departed : List Node → ℕ → Bool
has_departed nodes node = nat_lt 0 node && (node_at nodes node).departed

-- DEPARTED if the caller's node has departed, NONEXPR if no living process has the ID
unfoldable pub caller_refusal : State → ℕ → Option Cond
caller_refusal s pid =
    if has_departed s.nodes (node_of_pid pid) then Some Departed
    else (if is_some (process_of s.processes pid) then None else Some Nonexpr)

-- BADPARAM for an unknown flag of a request
unfoldable pub request_flags_refusal : ℕ → Option Cond
request_flags_refusal flags = if is_known enq_bits flags then None else Some Badparam

-- ACCVIO if the process has no status block with this number
unfoldable pub status_block_refusal : State → ℕ → ℕ → Option Cond
status_block_refusal s pid block =
    if nat_lt 0 block && nat_le block (length (status_blocks_of s.processes pid)) then None else Some Accvio

-- ACCVIO if the lock is named by a status block that the process does not have
unfoldable pub which_refusal : State → ℕ → Which → Option Cond
which_refusal s pid (Id lkid) = None
which_refusal s pid (Block number) = status_block_refusal s pid number

-- the named ID: given by itself, or by the status block
abbrev pub named_lkid : State → ℕ → Which → ℕ
named_lkid s pid (Id lkid) = lkid
named_lkid s pid (Block number) = (status_block_of s.processes pid number).lkid

-- the resource has this lock of this process, in some queue
abbrev pub holds_lock : ℕ → ℕ → Resource → Bool
holds_lock pid lkid r =
    list_any (is_lock_of pid lkid) r.granted || list_any (is_lock_of pid lkid) r.converting
    || list_any (is_lock_of pid lkid) r.waiting

-- IVLOCKID if the ID is not a lock of the caller
unfoldable pub lock_refusal : State → ℕ → ℕ → Option Cond
lock_refusal s pid lkid = if list_any (holds_lock pid lkid) s.resources then None else Some Ivlockid

-- NOLOCKID if the IDs or the request numbers are used up
unfoldable pub numbers_refusal : State → Option Cond
numbers_refusal s = if nat_lt s.next_lkid (2 ^ 32) && nat_lt s.next_request (2 ^ 64) then None else Some Nolockid

-- NOLOCKID if the request numbers are used up
unfoldable pub request_numbers_refusal : State → Option Cond
request_numbers_refusal s = if nat_lt s.next_request (2 ^ 64) then None else Some Nolockid

-- NOTQUEUED if a request with NOQUEUE cannot be granted at once
abbrev pub queue_refusal : ℕ → Bool → Option Cond
queue_refusal flags at_once = if has_flag flags noqueue && not at_once then Some Notqueued else None

-- what an accepted request answers: SYNCH if it has SYNCSTS and is granted at once, else NORMAL
abbrev pub acceptance : ℕ → Bool → Cond
acceptance flags at_once = if has_flag flags syncsts && at_once then Synch else Normal
