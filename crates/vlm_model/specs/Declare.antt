-- The step Declare: a new process.
use Rattle.std.specs.Prelude.{ℕ, Bool, ◌&&◌, ◌+◌, ◌-◌, ◌*◌, not, nat_lt, nat_le, Option, None, Some, List, [], ◌∷◌, ◌++◌, slice_set, if◌then◌else◌}
use Rattle.vlm_words.specs.declared.conditions.Cond.TheVariants.{Badparam, Departed}
use Rattle.vlm_words.specs.declared.conditions.Cond.{Cond}
use Rattle.vlm_words.specs.declared.steps.Declaration.{Declaration}
use Rattle.vlm_words.specs.State.{Node, Process, State, node_at}
use Rattle.vlm_words.specs.Processes.{new_process}
use Rattle.vlm_model.specs.Checks.{has_departed}

-- the number of a node, 1 to 8
abbrev pub is_node : ℕ → Bool
is_node node = nat_le 1 node && nat_le node 8

-- BADPARAM if there is no such node or its ordinals are used up, DEPARTED if the node has departed
unfoldable pub declare_refusal : State → Declaration → Option Cond
declare_refusal s d =
    if not (is_node d.node) then Some Badparam
    else (
    if has_departed s.nodes d.node then Some Departed
    else (if nat_lt (node_at s.nodes d.node).declared 65535 then None else Some Badparam)
    )

-- the ID of the node's next process
abbrev pub next_pid : State → ℕ → ℕ
next_pid s node = node * 65536 + ((node_at s.nodes node).declared + 1)

-- the process that the declaration makes
abbrev pub declared_process : State → Declaration → Process
declared_process s d = new_process (next_pid s d.node) d

-- the node counts one more declared process
abbrev pub nodes_after_declaration : List Node → ℕ → List Node
nodes_after_declaration nodes node =
    slice_set nodes (node - 1) (record (node_at nodes node) { declared = (node_at nodes node).declared + 1 })

-- the process lives, and its node counts one more
unfoldable pub declare_change : State → Declaration → State
declare_change s d = record s {
  nodes = nodes_after_declaration s.nodes d.node;
  processes = s.processes ++ declared_process s d ∷ [];
}
