-- A script for several nodes: its steps in the script's order, each with its line's number.
use Rattle.std.specs.Prelude.{◌≡◌, ℕ, ◌+◌, List, [], ◌∷◌, ◌++◌, Option, None, Some, Result, Ok, Err}
use Rattle.vlm_lines.specs.declared.lines.Line.TheVariants.{Empty, Declare, Set, Enq, Cvt, Deq, End, Leave, Search, Ast, Block, Tail, Show, Tails}
use Rattle.vlm_lines.specs.declared.lines.Line.{Line}
use Rattle.vlm_lines.specs.declared.faults.LineFault.{LineFault}
use Rattle.vlm_lines.specs.Lines.{line_read, lines_of, unnamed_process}
use Rattle.vlm_words.specs.declared.steps.Step.TheVariants.{Declare as declare_step, SetValue as set_step}
use Rattle.vlm_words.specs.declared.steps.Step.TheVariants.{Enq as enq_step, Convert as convert_step, Deq as deq_step}
use Rattle.vlm_words.specs.declared.steps.Step.TheVariants.{Rundown, Leave as leave_step, Search as search_step}
use Rattle.vlm_words.specs.declared.steps.Step.{Step}
use Rattle.vlm_words.specs.Steps.{node_of}
use Rattle.vlm_script.specs.Scripts.{bound_to, of_process}
use Rattle.vlm_script.specs.Shares.{IsListed, Shares, StopsShares, line_shared, no_shares, then_shares}
use Rattle.vlm_script.specs.Sharing.{IsOneOfNodes}
use Rattle.vlm_script.specs.declared.faults.PlayFault.{PlayFault}
use Rattle.vlm_script.specs.declared.steps.ScriptStep.{ScriptStep}

-- the step, made by the process of the name
abbrev pub named_step : Option ℕ → Step → Option Step
named_step None step = None
named_step (Some pid) step = Some (of_process pid step)

-- the step of a line without a fault
abbrev pub line_step : Shares → Line → Option Step
line_step s Empty = None
line_step s (Declare name declaration) = Some (declare_step declaration)
line_step s (Set name setting) = named_step (bound_to s.names name) (set_step setting)
line_step s (Enq name request) = named_step (bound_to s.names name) (enq_step request)
line_step s (Cvt name conversion) = named_step (bound_to s.names name) (convert_step conversion)
line_step s (Deq name dequeue) = named_step (bound_to s.names name) (deq_step dequeue)
line_step s (End name) = named_step (bound_to s.names name) (Rundown unnamed_process)
line_step s (Leave node) = Some (leave_step node)
line_step s (Search node) = Some (search_step node)
line_step s (Ast name) = None
line_step s (Block name number) = None
line_step s (Tail name number) = None
line_step s Show = None
line_step s Tails = None

-- the step of a line, or its fault
abbrev pub read_step : Shares → Result Line LineFault → Option Step
read_step s (Err fault) = None
read_step s (Ok line) = line_step s line

-- a line's step, if it has one, with the line's number
abbrev pub numbered : ℕ → Option Step → List ScriptStep
numbered number None = []
numbered number (Some step) = record { line = number; step = step } ∷ []

-- these steps and the steps of the lines that follow, unless one of the lines has a fault
abbrev pub in_front : List ScriptStep → Result (List ScriptStep) (ℕ × LineFault)
    → Result (List ScriptStep) (ℕ × LineFault)
in_front steps (Ok more) = Ok (steps ++ more)
in_front steps (Err fault) = Err fault

-- the steps of the lines after the first `count`, in order, or the first fault with its line's number from 1
abbrev pub steps_out : ℕ → Shares → ℕ → List (List ℕ) → Result (List ScriptStep) (ℕ × LineFault)
steps_out nodes s count [] = Ok []
steps_out nodes s count (bytes ∷ lines) =
    then_shares (line_shared nodes s (line_read bytes)) (count + 1)
    (λ more. in_front (numbered (count + 1) (read_step s (line_read bytes))) (steps_out nodes more (count + 1) lines))

-- the step may be posted by its node: it takes no AST, and its node is one of this many nodes
pub record IsPostable (nodes : ℕ) (step : Step) : Type 0 where
  pub listed : IsListed (node_of step) step
  pub of_nodes : IsOneOfNodes nodes (node_of step)

-- these are the steps of a script for this many nodes
abbrev pub AreStepsOf : ℕ → List ℕ → List ScriptStep → Type 0
AreStepsOf nodes input steps = steps_out nodes (no_shares nodes) 0 (lines_of input) ≡ Ok steps

-- why a script for this many nodes gives no steps
abbrev pub StopsStepsOf : ℕ → List ℕ → PlayFault → Type 0
StopsStepsOf nodes input = StopsShares input (steps_out nodes (no_shares nodes) 0 (lines_of input))
