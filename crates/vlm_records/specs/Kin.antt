-- The locks of each process, the sublocks of each lock, and the order of the processes.
use Rattle.std.specs.Prelude.{◌≡◌, ℕ, List, Option, None, Some}
use Rattle.std.specs.Option.{option_map}
use Rattle.slab.specs.Slab.{Slab, get}
use Rattle.vlm_collections.specs.declared.link.Links.{Links}
use Rattle.vlm_collections.specs.declared.lists.LinkedList.{LinkedList}
use Rattle.vlm_collections.specs.Lists.{handles_of}
use Rattle.vlm_words.specs.State.{Process as PlainProcess}
use Rattle.vlm_records.specs.declared.locks.Lock.{Lock}
use Rattle.vlm_records.specs.declared.locks.OfParent.{OfParent}
use Rattle.vlm_records.specs.declared.locks.OfProcess.{OfProcess}
use Rattle.vlm_records.specs.declared.processes.Process.{Process}
use Rattle.vlm_records.specs.Families.{IsFamily}
use Rattle.vlm_records.specs.Shown.{but_kin, but_queued, lkid_of, no_links, no_list}

-- the links of a lock in the list of its process
abbrev pub own_links : Lock → Links
own_links l = l.of_process

-- the links of a lock in the sublocks of its parent lock
abbrev pub below_links : Lock → Links
below_links l = l.of_parent

-- the lock with other links in the list of its process
abbrev pub with_own_links : Lock → Links → Lock
with_own_links l pair = record l { of_process = pair }

-- the lock with other links in the sublocks of its parent lock
abbrev pub with_below_links : Lock → Links → Lock
with_below_links l pair = record l { of_parent = pair }

-- the links of a process in the order of making
abbrev pub process_links : Process → Links
process_links p = p.in_order

-- the process with other links in the order of making
abbrev pub with_process_links : Process → Links → Process
with_process_links p pair = record p { in_order = pair }

-- the owner of the lock in a place of the slab
abbrev pub owner_in : Option Lock → Option ℕ
owner_in None = None
owner_in (Some l) = Some l.owner

-- the parent lock of the lock in a place of the slab
abbrev pub parent_in : Option Lock → Option ℕ
parent_in None = None
parent_in (Some l) = l.parent

-- the locks of the process in a place of the slab
abbrev pub own_in : Option Process → LinkedList OfProcess
own_in None = no_list
own_in (Some p) = p.own

-- the sublocks of the lock in a place of the slab
abbrev pub below_in : Option Lock → LinkedList OfParent
below_in None = no_list
below_in (Some l) = l.sublocks

-- the process without its locks
abbrev pub but_own : Process → Process
but_own p = record p { own = no_list }

-- the process without its links in the order of making
abbrev pub but_order : Process → Process
but_order p = record p { in_order = no_links }

-- the lock without its links in its parent's sublocks, and without its own sublocks
abbrev pub but_below : Lock → Lock
but_below l = record l { of_parent = no_links; sublocks = no_list }

-- what never changes in a lock: its ID, its owner and its parent lock
abbrev pub lasting_part : Lock → Lock
lasting_part l = but_kin (but_queued l)

-- the process as the plain machine has it
abbrev pub plain_process : Process → PlainProcess
plain_process p = record {
  pid = p.pid;
  group = p.authorization.group;
  syslck = p.authorization.syslck;
  quota = p.authorization.quota;
  blocks = p.blocks.items;
  asts = p.asts.pending;
}

-- the ID of a process
abbrev pub pid_of : Process → ℕ
pid_of p = p.pid

-- the list of a process's locks
abbrev pub own_list : Slab Process → ℕ → LinkedList OfProcess
own_list processes at = own_in (get processes at)

-- the list of a lock's sublocks
abbrev pub below_list : Slab Lock → ℕ → LinkedList OfParent
below_list locks at = below_in (get locks at)

-- the handles of a process's locks, in the order of making
abbrev pub own_handles : Slab Process → Slab Lock → ℕ → List ℕ
own_handles processes locks at = handles_of own_links locks (own_list processes at)

-- the handles of a lock's sublocks, in the order of making
abbrev pub below_handles : Slab Lock → ℕ → List ℕ
below_handles locks at = handles_of below_links locks (below_list locks at)

-- each process has exactly the locks that note it, except one lock that was taken out
abbrev pub IsOwned : Slab Process → Slab Lock → Option ℕ → Type 0
IsOwned processes locks out = IsFamily own_links owner_in locks (own_list processes) out

-- each lock has exactly the sublocks that note it, except one lock that was taken out
abbrev pub IsBelow : Slab Lock → Option ℕ → Type 0
IsBelow locks out = IsFamily below_links parent_in locks (below_list locks) out

-- the handle is the lock with this ID; without a handle the ID is 0
abbrev pub NamesParent : Slab Lock → Option ℕ → ℕ → Type 0
NamesParent locks None lkid = lkid ≡ 0
NamesParent locks (Some at) lkid = option_map lkid_of (get locks at) ≡ Some lkid

-- the handle of the lock's owner leads to the process that its row names
abbrev pub OwnerFits : Slab Process → Option Lock → Type 0
OwnerFits processes None = Unit {0}
OwnerFits processes (Some l) = option_map pid_of (get processes l.owner) ≡ Some l.row.pid

-- the handle of the parent lock leads to the lock that its row names
abbrev pub ParentFits : Slab Lock → Option Lock → Type 0
ParentFits locks None = Unit {0}
ParentFits locks (Some l) = NamesParent locks l.parent l.row.parent

-- the handles in each lock lead to the process and the parent lock that its row names
pub record IsNamed (processes : Slab Process) (locks : Slab Lock) : Type 0 where
  pub owners : (at : ℕ) → OwnerFits processes (get locks at)
  pub parents : (at : ℕ) → ParentFits locks (get locks at)

-- the ID of the process with this handle
abbrev pub pid_at : Slab Process → ℕ → Option ℕ
pid_at processes at = option_map pid_of (get processes at)
