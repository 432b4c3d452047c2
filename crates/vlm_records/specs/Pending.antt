-- The mark of a process with a pending AST.
use Rattle.std.specs.Prelude.{◌≡◌, ℕ, ◌/◌, ◌&&◌, Bool, nat_lt, length, List}
use Rattle.vlm_records.specs.NodeMarks.{HasRoomFor, OthersStay, is_marked, is_node}
use Rattle.vlm_records.specs.declared.processes.Process.{Process}

-- the process is of a node from 1 to 8, and has a pending AST
abbrev pub is_waiting : Process → Bool
is_waiting p = is_node (p.pid / 65536) && nat_lt 0 (length p.asts.pending)

-- the process is marked exactly if it is of such a node and has a pending AST, and there is room for its mark
pub record IsToldOf (p : Process) (marks : List (List Bool)) : Type 0 where
  pub told : is_marked marks p.pid ≡ is_waiting p
  pub room : HasRoomFor marks p.pid

-- no other process's mark changes, and no room goes
pub record OtherMarksStay (pid : ℕ) (old new : List (List Bool)) : Type 0 where
  pub marks : OthersStay pid old new
  pub room : (other : ℕ) → HasRoomFor old other → HasRoomFor new other
