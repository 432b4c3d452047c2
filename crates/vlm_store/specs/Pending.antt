-- Marks of living processes and of processes with a pending AST.
use Rattle.std.specs.Prelude.{◌≡◌, ℕ, ◌/◌, ◌≤◌, ◌&&◌, Bool, true, false, List, Option, None, Some}
use Rattle.slab.specs.Slab.{Slab, get}
use Rattle.vlm_collections.specs.Lists.{IsIn}
use Rattle.vlm_records.specs.NodeMarks.{HasRoomFor, is_marked, is_node}
use Rattle.vlm_words.specs.State.{Process as PlainProcess}
use Rattle.vlm_words.specs.Processes.{is_pending_on}
use Rattle.vlm_words.specs.Steps.{is_of_node}
use Rattle.vlm_records.specs.declared.processes.Process.{Process}
use Rattle.vlm_records.specs.Kin.{pid_at}
use Rattle.vlm_records.specs.Pending.{is_waiting}
use Rattle.vlm_store.specs.Records.{StoredProcess}

-- the process exists, is of a node from 1 to 8, and has a pending AST
abbrev pub waits_in : Option Process → Bool
waits_in None = false
waits_in (Some p) = is_waiting p

-- the process exists and is of a node from 1 to 8
abbrev pub is_of_nodes : Option Process → Bool
is_of_nodes None = false
is_of_nodes (Some p) = is_node (p.pid / 65536)

-- exactly the processes that pass the test are marked, and each process has room for a mark
pub record IsMarked (tells : Option Process → Bool) (processes : Slab Process) (marks : List (List Bool)) : Type 0 where
  pub told : (at pid : ℕ) → pid_at processes at ≡ Some pid → is_marked marks pid ≡ tells (get processes at)
  pub room : (at pid : ℕ) → pid_at processes at ≡ Some pid → HasRoomFor marks pid
  pub lives : (pid : ℕ) → is_marked marks pid ≡ true → (at : ℕ) × (pid_at processes at ≡ Some pid)

-- ---- for a caller

-- the process is of this node, 1 to 8, and has a pending AST
abbrev pub waits_on : ℕ → PlainProcess → Bool
waits_on node p = is_node node && is_pending_on node p

-- the process is of this node, 1 to 8
abbrev pub lives_on : ℕ → PlainProcess → Bool
lives_on node p = is_node node && is_of_node node p.pid

-- the least ID of these processes, or there is no such process
abbrev pub IsFirst : (PlainProcess → Bool) → List StoredProcess → Option ℕ → Type 0
IsFirst is_one processes None = (p : StoredProcess) → IsIn p processes → is_one p.process ≡ false
IsFirst is_one processes (Some pid) =
    ((p : StoredProcess) × (IsIn p processes × (p.process.pid ≡ pid) × (is_one p.process ≡ true)))
    × ((p : StoredProcess) → IsIn p processes → is_one p.process ≡ true → pid ≤ p.process.pid)

-- the least ID of the node's processes with a pending AST, or there is no such process
abbrev pub IsFirstPending : ℕ → List StoredProcess → Option ℕ → Type 0
IsFirstPending node = IsFirst (waits_on node)

-- the least ID of the node's living processes, or there is no such process
abbrev pub IsFirstLiving : ℕ → List StoredProcess → Option ℕ → Type 0
IsFirstLiving node = IsFirst (lives_on node)
