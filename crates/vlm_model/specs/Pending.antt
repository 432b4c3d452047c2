-- The processes of a node with a pending AST.
use Rattle.std.specs.Prelude.{◌≡◌, ◌<◌, ℕ, true, List, find, All, AllPairs, Option}
use Rattle.std.specs.Option.{option_map}
use Rattle.vlm_model.specs.Declare.{is_node}
use Rattle.vlm_words.specs.State.{Process, State}
use Rattle.vlm_words.specs.Steps.{node_of_pid}
use Rattle.vlm_words.specs.Processes.{is_pending_on}

-- the first process of the node, in the order of making, with a pending AST
abbrev pub first_pending : ℕ → List Process → Option ℕ
first_pending node processes = option_map (λ p. p.pid) (find (is_pending_on node) processes)

-- each living process is of a node from 1 to 8
abbrev pub AreOfNodes : State → Type 0
AreOfNodes s = All (λ p. is_node (node_of_pid p.pid) ≡ true) s.processes

-- each living process is of a node from 1 to 8, and the IDs of a node's processes rise
pub record ProcessesRise (s : State) : Type 0 where
  pub named : AreOfNodes s
  pub rising : AllPairs (λ a b. node_of_pid a.pid ≡ node_of_pid b.pid → a.pid < b.pid) s.processes
