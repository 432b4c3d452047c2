-- How a line of a script for several nodes changes the shares, and what always holds of them.
use Rattle.std.specs.Prelude.{◌≡◌, ℕ, ◌<◌, ◌≤◌, List, [], ◌∷◌, length, None, Some, Result, Err}
use Rattle.vlm_lines.specs.declared.lines.Line.{Line}
use Rattle.vlm_lines.specs.declared.faults.LineFault.{LineFault}
use Rattle.vlm_lines.specs.Lines.{line_read}
use Rattle.vlm_words.specs.declared.steps.Step.{Step}
use Rattle.vlm_words.specs.Steps.{node_of_pid}
use Rattle.vlm_script.specs.Scripts.{Binding, bound_to, of_process}
use Rattle.vlm_script.specs.Shares.{AreListed, Shares, line_shared, node_fault, share_fault, share_line, share_step}
use Rattle.vlm_script.specs.declared.faults.PlayFault.{PlayFault}
use Rattle.vlm_script.specs.declared.faults.PlayFault.TheVariants.{Line as line_fault, Memory as memory_fault, Read, Write, Long}
use Rattle.vlm_script.specs.declared.stops.Stop.{Stop}
use Rattle.vlm_script.specs.declared.stops.Stop.TheVariants.{Fault, Memory}

-- one of this many nodes has the number
pub record IsOneOfNodes (nodes node : ℕ) : Type 0 where
  pub above : 0 < node
  pub within : node ≤ nodes

-- each name is bound to a process of one of the nodes
abbrev pub AreOfNodes : ℕ → List Binding → Type 0
AreOfNodes nodes [] = Unit {0}
AreOfNodes nodes (b ∷ bs) = IsOneOfNodes nodes (node_of_pid b.pid) × AreOfNodes nodes bs

-- each node has its count and its list, names are bound to processes of the nodes, and each list holds steps of its
-- node
pub record IsSharing (names : List Binding) (declared : List ℕ) (lists : List (List Step)) : Type 0 where
  pub counted : length declared ≡ length lists
  pub bound : AreOfNodes (length lists) names
  pub listed : AreListed lists

-- a line without a fault is shared
pub record IsShared (old : Shares) (line : Line) (new : Shares) : Type 0 where
  pub faultless : share_fault (length old.lists) old line ≡ None
  pub becomes : new ≡ share_line old line

-- a step goes to the list of the node of the name's process
pub record IsSharedByName (old : Shares) (name : List ℕ) (step : Step) (new : Shares) : Type 0 where
  pub pid : ℕ
  pub bound : bound_to old.names name ≡ Some pid
  pub becomes : new ≡ share_step old (node_of_pid pid) (of_process pid step)

-- a step goes to the list of a node that exists
pub record IsPut (old : Shares) (node : ℕ) (step : Step) (new : Shares) : Type 0 where
  pub faultless : node_fault (length old.lists) node ≡ None
  pub becomes : new ≡ share_step old node step

-- a node stops the sharing if there is no such node, or because memory is refused
abbrev pub StopsNode : ℕ → ℕ → Stop → Type 0
StopsNode nodes node (Fault fault) = node_fault nodes node ≡ Some fault
StopsNode nodes node Memory = Unit {0}

-- a line stops the sharing by its fault, or because memory is refused
abbrev pub StopsShare : Shares → Line → Stop → Type 0
StopsShare s line (Fault fault) = share_fault (length s.lists) s line ≡ Some fault
StopsShare s line Memory = Unit {0}

-- bytes stop the sharing by their fault, or because memory is refused
abbrev pub StopsShareBytes : Shares → List ℕ → Stop → Type 0
StopsShareBytes s bytes (Fault fault) = line_shared (length s.lists) s (line_read bytes) ≡ Err fault
StopsShareBytes s bytes Memory = Unit {0}

-- lines stop the sharing by their first fault, or because memory is refused
abbrev pub StopsShareLines : {T : Type 0} → Result T (ℕ × LineFault) → PlayFault → Type 0
StopsShareLines shared (line_fault number fault) = shared ≡ Err (number, fault)
StopsShareLines shared memory_fault = Unit {0}
StopsShareLines shared Read = ⊥
StopsShareLines shared Write = ⊥
StopsShareLines shared Long = ⊥
