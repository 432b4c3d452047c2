-- What the calls that read write for C.
use Rattle.std.specs.Prelude.{◌≡◌, ℕ, Bool, true, false, length, replicate, slice_get, Option, Some, None, nat_le, find, if◌then◌else◌}
use Rattle.std.specs.Option.{option_map}
use Rattle.vlm_words.specs.declared.blocks.Block.{Block}
use Rattle.vlm_words.specs.declared.resources.Domain.{Domain}
use Rattle.vlm_words.specs.declared.resources.Domain.TheVariants.{Group, System}
use Rattle.vlm_words.specs.declared.resources.Queue.{Queue}
use Rattle.vlm_words.specs.declared.resources.Queue.TheVariants.{Granted, Conversion, Waiting}
use Rattle.vlm_words.specs.Padding.{padded}
use Rattle.vlm_words.specs.State.{Process, State, process_of as living_process}
use Rattle.vlm_model.specs.Quotas.{locks_of}
use Rattle.vlm_model.specs.StatusBlocks.{status_block_at}
use Rattle.vlm_procs.specs.declared.views.ProcessView.{ProcessView}
use Rattle.vlm_procs.specs.Views.{process_view}
use Rattle.vlm_queue.specs.declared.views.ResourceView.{ResourceView}
use Rattle.vlm_queue.specs.declared.views.RowView.{RowView}
use Rattle.vlm_queue.specs.Views.{resource_view, row_shown, rows_in}
use Rattle.vlm_core.specs.declared.locks.LockView.{LockView}
use Rattle.vlm_capi.specs.declared.held.Held.{Held}
use Rattle.vlm_capi.specs.declared.held.Held.TheVariants.{Core as core_held, Hub as hub_held, Port as port_held}
use Rattle.vlm_capi.specs.declared.shown.VlmLksb.{VlmLksb}
use Rattle.vlm_capi.specs.declared.shown.VlmLock.{VlmLock}
use Rattle.vlm_capi.specs.declared.shown.VlmProcess.{VlmProcess}
use Rattle.vlm_capi.specs.declared.shown.VlmResource.{VlmResource}
use Rattle.vlm_words.specs.Resources.{is_at}
use Rattle.vlm_core.specs.Locks.{lock_view}
use Rattle.vlm_core.specs.Readers.{all_locks, all_queued, after_first, has_pid, key_of as core_key}
use Rattle.vlm_capi.specs.declared.resource_keys.ResourceKey.{ResourceKey}
use Rattle.vlm_capi.specs.Copies.{Told, sized}
use Rattle.vlm_capi.specs.StepStructs.{bit}
use Rattle.vlm_capi.specs.Structs.{mode_number}

-- a reader answers what is shown, and the handle holds the same
pub record Tells {A : Type 0} (shown answer : A) (old new : Option Held) : Type 0 where
  pub told : answer ≡ shown
  pub same : new ≡ old

-- what a reader answers of the core, which stays; nothing without a core
abbrev pub Reads : {A : Type 0} → (State → Option A → Type 0) → Option Held → Option A → Option Held → Type 0
Reads Shows (Some (core_held s)) answer after = Shows s answer × (after ≡ Some (core_held s))
Reads Shows (Some (hub_held b)) answer after = (answer ≡ None) × (after ≡ Some (hub_held b))
Reads Shows (Some (port_held p)) answer after = (answer ≡ None) × (after ≡ Some (port_held p))
Reads Shows None answer after = (answer ≡ None) × (after ≡ None)

abbrev pub lksb_of : Block → VlmLksb
lksb_of block = record {
  size = 80;
  status = block.status;
  lkid = block.lkid;
  reserved = 0;
  value = block.value;
  tail = block.tail;
}

-- the status block of this number or that there is none; nothing without a core
unfoldable pub block_there : Option State → ℕ → ℕ → Option (Option Block)
block_there None pid number = None
block_there (Some s) pid number = if nat_le number 255 then Some (status_block_at s.processes pid number) else None

-- the status block of this number
unfoldable pub block_shown : Option State → ℕ → ℕ → Option Block
block_shown None pid number = None
block_shown (Some s) pid number = if nat_le number 255 then status_block_at s.processes pid number else None

-- how many ASTs are pending for a process
abbrev pub pending_shown : Option State → ℕ → Option ℕ
pending_shown None pid = None
pending_shown (Some s) pid = option_map (λ p. length p.asts) (living_process s.processes pid)

abbrev pub process_count_shown : Option State → ℕ
process_count_shown None = 0
process_count_shown (Some s) = length s.processes

-- how many resources there are; each has a lock
abbrev pub count_shown : Option State → ℕ
count_shown None = 0
count_shown (Some s) = length s.resources

-- how many locks there are, waiting ones included
abbrev pub lock_count_shown : Option State → ℕ
lock_count_shown None = 0
lock_count_shown (Some s) = all_locks s.resources

-- how many requests are queued
abbrev pub queued_count_shown : Option State → ℕ
queued_count_shown None = 0
queued_count_shown (Some s) = all_queued s.resources

abbrev pub queue_number : Queue → ℕ
queue_number Granted = 0
queue_number Conversion = 1
queue_number Waiting = 2

abbrev pub lock_of : LockView → VlmLock
lock_of lock = record {
  size = 64;
  lkid = lock.lkid;
  pid = lock.pid;
  held = mode_number lock.held;
  want = mode_number lock.want;
  queue = queue_number lock.queue;
  resource = lock.resource;
  parent = lock.parent;
  block = lock.block;
  reserved = replicate 7 0;
}

-- what C reads of a lock, or after the last one
abbrev pub lock_or_none : Option LockView → VlmLock
lock_or_none (Some lock) = lock_of lock
lock_or_none None = record {
  size = 64;
  lkid = 0;
  pid = 0;
  held = 255;
  want = 255;
  queue = 0;
  resource = 0;
  parent = 0;
  block = 0;
  reserved = replicate 7 0;
}

-- what a walk shows: its first lock, or the next one after a lock
abbrev pub ShowsFrom : Option ℕ → (Option (Option LockView) → Type 0) → (ℕ → Option (Option LockView) → Type 0)
    → Option (Option LockView) → Type 0
ShowsFrom None First Next = First
ShowsFrom (Some after) First Next = Next after

-- the first lock in the queue of the resource with the key, if it has one; nothing if there is no such resource, or if
-- the fields name no key or no queue
abbrev pub ShowsFirstRow : State → Option ResourceKey → Option Queue → Option (Option LockView) → Type 0
ShowsFirstRow s None queue answer = answer ≡ None
ShowsFirstRow s (Some key) None answer = answer ≡ None
ShowsFirstRow s (Some key) (Some queue) answer =
    answer ≡ option_map (λ r. option_map (lock_view r queue) (slice_get (rows_in queue r) 0))
    (find (is_at (core_key key.parent key.domain key.name)) s.resources)

-- a reader answers what the core shows, and a call writes it into a struct of the right size
pub record ReadTold {A Structs : Type 0} (Shows : State → Option A → Type 0) (struct_of : A → Structs)
    (before after : Option Held) (fits : Bool) (old new : Structs) (status : ℕ) : Type 0 where
  pub answer : Option A
  pub reads : Reads Shows before answer after
  pub told : Told (sized fits (option_map struct_of answer)) old new status

-- the lock at a place of a queue
abbrev pub row_in : State → ℕ → Option Queue → ℕ → Option RowView
row_in s resource (Some queue) place = row_shown (slice_get s.resources resource) queue place
row_in s resource None place = None

-- 1 for the system's domain
abbrev pub system_bit : Domain → ℕ
system_bit (Group g) = 0
system_bit System = 1

-- the group of a domain, or 0 for the system's
abbrev pub group_of : Domain → ℕ
group_of (Group g) = g
group_of System = 0

-- what C reads of a process with this many locks
abbrev pub process_of : ProcessView × ℕ → VlmProcess
process_of (p, locks) = record {
  size = 64;
  pid = p.pid;
  node = p.node;
  group = p.group;
  syslck = bit p.syslck;
  quota = p.quota;
  blocks = p.blocks;
  pending = p.pending;
  locks = locks;
  reserved = replicate 4 0;
}

-- the view of a process, and how many locks it has
abbrev pub with_locks : State → Process → ProcessView × ℕ
with_locks s p = (process_view p, locks_of p.pid s.resources)

-- the living process at a place
abbrev pub process_shown : Option State → ℕ → Option (ProcessView × ℕ)
process_shown None place = None
process_shown (Some s) place = option_map (with_locks s) (slice_get s.processes place)

abbrev pub resource_of : ResourceView → VlmResource
resource_of r = record {
  size = 144;
  serial = r.serial;
  parent = r.parent;
  is_system = system_bit r.domain;
  group = group_of r.domain;
  value_valid = bit r.valid;
  tail_valid = bit r.tail_valid;
  name_len = length r.name;
  name = padded 32 r.name;
  value = r.value;
  tail = r.tail;
  reserved = replicate 4 0;
}

-- the resource with the key
abbrev pub found_shown : Option State → Option ResourceKey → Option ResourceView
found_shown None key = None
found_shown (Some s) None = None
found_shown (Some s) (Some key) =
    option_map resource_view (find (is_at (core_key key.parent key.domain key.name)) s.resources)

-- the resource after the one with the key, or the first one at the start of a walk; nothing if no resource has the key
abbrev pub next_resource_shown : Option State → Bool → Option ResourceKey → Option (Option ResourceView)
next_resource_shown None starts key = None
next_resource_shown (Some s) true key = Some (option_map resource_view (slice_get s.resources 0))
next_resource_shown (Some s) false None = None
next_resource_shown (Some s) false (Some key) =
    option_map (λ rest. option_map resource_view (slice_get rest 0))
    (after_first (is_at (core_key key.parent key.domain key.name)) s.resources)

-- the living process after another, or the first one at the start of a walk; nothing if no living process has the
-- ID
abbrev pub next_process_shown : Option State → Bool → ℕ → Option (Option (ProcessView × ℕ))
next_process_shown None starts pid = None
next_process_shown (Some s) true pid = Some (option_map (with_locks s) (slice_get s.processes 0))
next_process_shown (Some s) false pid =
    option_map (λ rest. option_map (with_locks s) (slice_get rest 0)) (after_first (has_pid pid) s.processes)

-- what C reads of a resource, or after the last one
abbrev pub resource_or_none : Option ResourceView → VlmResource
resource_or_none (Some r) = resource_of r
resource_or_none None = record {
  size = 144;
  serial = 0;
  parent = 0;
  is_system = 0;
  group = 0;
  value_valid = 0;
  tail_valid = 0;
  name_len = 0;
  name = replicate 32 0;
  value = replicate 16 0;
  tail = replicate 48 0;
  reserved = replicate 4 0;
}

-- what C reads of a process, or after the last one
abbrev pub process_or_none : Option (ProcessView × ℕ) → VlmProcess
process_or_none (Some p) = process_of p
process_or_none None = record {
  size = 64;
  pid = 0;
  node = 0;
  group = 0;
  syslck = 0;
  quota = 0;
  blocks = 0;
  pending = 0;
  locks = 0;
  reserved = replicate 4 0;
}
