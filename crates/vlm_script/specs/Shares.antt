-- A script for several nodes: the steps of each node's list, and which fault is the first.
use Rattle.std.specs.Prelude.{◌≡◌, ℕ, ◌+◌, ◌-◌, ◌*◌, ◌<◌, Bool, true, false, ◌&&◌, nat_le, nat_lt, List, [], ◌∷◌, ◌++◌}
use Rattle.std.specs.Prelude.{length, replicate, slice_index, slice_index_or, slice_set, Option, None, Some, Result, Ok}
use Rattle.std.specs.Prelude.{Err, IsOkAnd, if◌then◌else◌}
use Rattle.std.specs.List.{All}
use Rattle.vlm_lines.specs.declared.lines.Line.TheVariants.{Empty, Declare, Set, Enq, Cvt, Deq, End, Leave, Search, Ast, Block, Tail, Show, Tails}
use Rattle.vlm_lines.specs.declared.lines.Line.{Line}
use Rattle.vlm_lines.specs.declared.faults.LineFault.TheVariants.{UnknownCommand, NumberOutOfRange}
use Rattle.vlm_lines.specs.declared.faults.LineFault.{LineFault}
use Rattle.vlm_lines.specs.Lines.{line_read, lines_of, unnamed_process}
use Rattle.vlm_words.specs.declared.steps.Declaration.{Declaration}
use Rattle.vlm_words.specs.declared.steps.Step.TheVariants.{Declare as declare_step, SetValue as set_step}
use Rattle.vlm_words.specs.declared.steps.Step.TheVariants.{Enq as enq_step, Convert as convert_step, Deq as deq_step}
use Rattle.vlm_words.specs.declared.steps.Step.TheVariants.{Rundown, Leave as leave_step, Search as search_step, Take}
use Rattle.vlm_words.specs.declared.steps.Step.{Step}
use Rattle.vlm_words.specs.Steps.{node_of, node_of_pid}
use Rattle.vlm_script.specs.Scripts.{Binding, bound_to, of_process, unknown_fault, used_fault}
use Rattle.vlm_script.specs.declared.faults.PlayFault.{PlayFault}
use Rattle.vlm_script.specs.declared.faults.PlayFault.TheVariants.{Line as line_fault, Memory, Read, Write, Long}

-- the shares of the lines so far: the bound names, the number of declare lines of each node, and its steps, node 1
-- first
pub record Shares : Type 0 where
  pub names : List Binding
  pub declared : List ℕ
  pub lists : List (List Step)

-- there are as many lists as before
abbrev pub ListsStay : Shares → Shares → Type 0
ListsStay old new = length new.lists ≡ length old.lists

-- before the first line
abbrev pub no_shares : ℕ → Shares
no_shares nodes = record { names = []; declared = replicate nodes 0; lists = replicate nodes [] }

-- there is a node of this number
abbrev pub has_node : ℕ → ℕ → Bool
has_node nodes node = nat_le 1 node && nat_le node nodes

-- how many declare lines the node has so far
abbrev pub declared_by : Shares → ℕ → ℕ
declared_by s node = slice_index s.declared (node - 1)

-- the node may have one more declare line: 65,535 at most
abbrev pub can_declare : ℕ → Shares → ℕ → Bool
can_declare nodes s node = has_node nodes node && nat_lt (declared_by s node) 65535

-- a declare line names a node that may have one more, and a name that is not bound
abbrev pub declare_fault : ℕ → Shares → List ℕ → ℕ → Option LineFault
declare_fault nodes s name node =
    if can_declare nodes s node then used_fault (bound_to s.names name) else Some NumberOutOfRange

-- a leave or search line names a node that exists
abbrev pub node_fault : ℕ → ℕ → Option LineFault
node_fault nodes node = if has_node nodes node then None else Some NumberOutOfRange

-- the fault of sharing a line out: of its node, of its name, or that no list can have it
abbrev pub share_fault : ℕ → Shares → Line → Option LineFault
share_fault nodes s Empty = None
share_fault nodes s (Declare name declaration) = declare_fault nodes s name declaration.node
share_fault nodes s (Set name setting) = unknown_fault (bound_to s.names name)
share_fault nodes s (Enq name request) = unknown_fault (bound_to s.names name)
share_fault nodes s (Cvt name conversion) = unknown_fault (bound_to s.names name)
share_fault nodes s (Deq name dequeue) = unknown_fault (bound_to s.names name)
share_fault nodes s (End name) = unknown_fault (bound_to s.names name)
share_fault nodes s (Leave node) = node_fault nodes node
share_fault nodes s (Search node) = node_fault nodes node
share_fault nodes s (Ast name) = Some UnknownCommand
share_fault nodes s (Block name number) = Some UnknownCommand
share_fault nodes s (Tail name number) = Some UnknownCommand
share_fault nodes s Show = Some UnknownCommand
share_fault nodes s Tails = Some UnknownCommand

-- the step is appended to the node's list
unfoldable pub with_step : List (List Step) → ℕ → Step → List (List Step)
with_step lists node step =
    slice_set lists (node - 1) (slice_index_or lists (node - 1) [] ++ step ∷ [])

-- the process of a node's next declare line
abbrev pub next_process : Shares → ℕ → ℕ
next_process s node = node * 65536 + (declared_by s node + 1)

-- a declare line binds its name to the node's next process, and is a step of the node
unfoldable pub share_declaration : Shares → List ℕ → Declaration → Shares
share_declaration s name declaration = record {
  names = s.names ++ record { name = name; pid = next_process s declaration.node } ∷ [];
  declared = slice_set s.declared (declaration.node - 1) (declared_by s declaration.node + 1);
  lists = with_step s.lists declaration.node (declare_step declaration);
}

-- a step goes to the list of this node
abbrev pub share_step : Shares → ℕ → Step → Shares
share_step s node step = record s { lists = with_step s.lists node step }

-- a step of the process of a name goes to the list of the process's node
abbrev pub share_named : Shares → Option ℕ → Step → Shares
share_named s None step = s
share_named s (Some pid) step = share_step s (node_of_pid pid) (of_process pid step)

-- a line without a fault is shared
abbrev pub share_line : Shares → Line → Shares
share_line s Empty = s
share_line s (Declare name declaration) = share_declaration s name declaration
share_line s (Set name setting) = share_named s (bound_to s.names name) (set_step setting)
share_line s (Enq name request) = share_named s (bound_to s.names name) (enq_step request)
share_line s (Cvt name conversion) = share_named s (bound_to s.names name) (convert_step conversion)
share_line s (Deq name dequeue) = share_named s (bound_to s.names name) (deq_step dequeue)
share_line s (End name) = share_named s (bound_to s.names name) (Rundown unnamed_process)
share_line s (Leave node) = share_step s node (leave_step node)
share_line s (Search node) = share_step s node (search_step node)
share_line s (Ast name) = s
share_line s (Block name number) = s
share_line s (Tail name number) = s
share_line s Show = s
share_line s Tails = s

-- the shares after the line, unless it has a fault
abbrev pub unless_fault : Option LineFault → Shares → Result Shares LineFault
unless_fault None s = Ok s
unless_fault (Some fault) s = Err fault

-- the shares after a line, or its fault: of its bytes, or of sharing it out
abbrev pub line_shared : ℕ → Shares → Result Line LineFault → Result Shares LineFault
line_shared nodes s (Err fault) = Err fault
line_shared nodes s (Ok line) = unless_fault (share_fault nodes s line) (share_line s line)

-- the shares after a line and the lines that follow it, or the line's fault
abbrev pub then_shares : {T : Type 0} → Result Shares LineFault → ℕ → (Shares → Result T (ℕ × LineFault))
    → Result T (ℕ × LineFault)
then_shares (Ok s) number rest = rest s
then_shares (Err fault) number rest = Err (number, fault)

-- the shares of the lines after the first `count`, in order, or the first fault with its line's number from 1
abbrev pub shared_out : ℕ → Shares → ℕ → List (List ℕ) → Result Shares (ℕ × LineFault)
shared_out nodes s count [] = Ok s
shared_out nodes s count (bytes ∷ lines) =
    then_shares (line_shared nodes s (line_read bytes)) (count + 1) (λ more. shared_out nodes more (count + 1) lines)

-- the step takes an AST
abbrev pub is_taking : Step → Bool
is_taking (Take pid) = true
is_taking (declare_step declaration) = false
is_taking (set_step setting) = false
is_taking (enq_step request) = false
is_taking (convert_step conversion) = false
is_taking (deq_step dequeue) = false
is_taking (Rundown pid) = false
is_taking (leave_step node) = false
is_taking (search_step node) = false

-- the step may be in the list of this node: it is a step of the node, and takes no AST
pub record IsListed (node : ℕ) (step : Step) : Type 0 where
  pub of_node : node_of step ≡ node
  pub untaken : is_taking step ≡ false

-- each list has only steps of its node, node 1 first
abbrev pub AreListed : List (List Step) → Type 0
AreListed lists = (k : ℕ) → k < length lists → All (IsListed (k + 1)) (slice_index_or lists k [])

-- why a script gives no lists: its first line with a fault, refused memory, a failed read, or too many bytes
abbrev pub StopsShares : {T : Type 0} → List ℕ → Result T (ℕ × LineFault) → PlayFault → Type 0
StopsShares input shared (line_fault number fault) = shared ≡ Err (number, fault)
StopsShares input shared Memory = Unit {0}
StopsShares input shared Read = Unit {0}
StopsShares input shared Write = ⊥
StopsShares input shared Long = 16777216 < length input

-- these are the lists of a script for this many nodes
abbrev pub AreListsOf : ℕ → List ℕ → List (List Step) → Type 0
AreListsOf nodes input lists = IsOkAnd (shared_out nodes (no_shares nodes) 0 (lines_of input)) (λ s. s.lists ≡ lists)

-- why a script for this many nodes gives no lists
abbrev pub StopsListsOf : ℕ → List ℕ → PlayFault → Type 0
StopsListsOf nodes input = StopsShares input (shared_out nodes (no_shares nodes) 0 (lines_of input))
