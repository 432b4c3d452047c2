-- The state of the plain machine.
use Rattle.std.specs.Prelude.{ℕ, Bool, false, List, [], Option, ◌==◌, ◌-◌, find, slice_index_or, replicate}
use Rattle.vlm_words.specs.declared.asts.Ast.{Ast}
use Rattle.vlm_words.specs.declared.blocks.Block.{Block}
use Rattle.vlm_words.specs.declared.locks.LockState.{LockState}
use Rattle.vlm_words.specs.declared.resources.Domain.{Domain}
use Rattle.vlm_words.specs.declared.resources.ValueBlock.{ValueBlock}

-- a resource: its place in the tree (the parent's serial or 0, and the levels below its root), its value block, and
-- its three queues
pub record Resource : Type 0 where
  pub serial : ℕ
  pub parent : ℕ
  pub domain : Domain
  pub name : List ℕ
  pub level : ℕ
  pub value_block : ValueBlock
  pub granted : List LockState
  pub converting : List LockState
  pub waiting : List LockState

-- a living process; its ASTs are those that are pending, oldest first
pub record Process : Type 0 where
  pub pid : ℕ
  pub group : ℕ
  pub syslck : Bool
  pub quota : ℕ
  pub blocks : List Block
  pub asts : List Ast

-- a node: how many processes it has declared, ended ones included, and whether it has departed
pub record Node : Type 0 where
  pub declared : ℕ
  pub departed : Bool

-- the machine between two steps: the eight nodes, the living processes in the order of making, the resources by
-- rising serial, and the next numbers
pub record State : Type 0 where
  pub nodes : List Node
  pub processes : List Process
  pub resources : List Resource
  pub next_lkid : ℕ
  pub next_request : ℕ
  pub next_serial : ℕ

-- a node before its first declaration
abbrev pub new_node : Node
new_node = record { declared = 0; departed = false }

-- the state at the start: nothing exists, and each next number is 1
abbrev pub start : State
start = record {
  nodes = replicate 8 new_node;
  processes = [];
  resources = [];
  next_lkid = 1;
  next_request = 1;
  next_serial = 1;
}

-- the node with this number, 1 to 8
abbrev pub node_at : List Node → ℕ → Node
node_at nodes node = slice_index_or nodes (node - 1) new_node

-- the living process with this ID
abbrev pub process_of : List Process → ℕ → Option Process
process_of processes pid = find (λ p. p.pid == pid) processes
