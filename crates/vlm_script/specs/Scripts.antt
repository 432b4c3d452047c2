-- The run of a script: what each line prints, and which fault is the first.
use Rattle.std.specs.Prelude.{◌≡◌, ℕ, ◌+◌, List, [], ◌∷◌, ◌++◌, codes, take, drop, find, Option, None, Some, Result, Ok, Err}
use Rattle.std.specs.Option.{option_map}
use Rattle.vlm_lines.specs.declared.lines.Line.TheVariants.{Empty, Declare, Set, Enq, Cvt, Deq, End, Leave, Search, Ast, Block, Tail, Show, Tails}
use Rattle.vlm_lines.specs.declared.lines.Line.{Line}
use Rattle.vlm_lines.specs.declared.faults.LineFault.TheVariants.{UnknownName, NameUsed}
use Rattle.vlm_lines.specs.declared.faults.LineFault.{LineFault}
use Rattle.vlm_words.specs.declared.steps.Answer.TheVariants.{Process as process_answer, Lock, Victim, Taken, Plain}
use Rattle.vlm_words.specs.declared.steps.Answer.{Answer}
use Rattle.vlm_words.specs.declared.steps.Declaration.{Declaration}
use Rattle.vlm_words.specs.declared.steps.Step.TheVariants.{Declare as declare_step, SetValue as set_step}
use Rattle.vlm_words.specs.declared.steps.Step.TheVariants.{Enq as enq_step, Convert as convert_step, Deq as deq_step}
use Rattle.vlm_words.specs.declared.steps.Step.TheVariants.{Rundown, Leave as leave_step, Search as search_step, Take}
use Rattle.vlm_words.specs.declared.steps.Step.{Step}
use Rattle.vlm_words.specs.State.{State, start}
use Rattle.vlm_model.specs.StatusBlocks.{status_block_at}
use Rattle.vlm_model.specs.Stepped.{Outcome}
use Rattle.vlm_lines.specs.Lines.{is_text, line_read, lines_of, unnamed_process}
use Rattle.vlm_lines.specs.Texts.{answer_line, node_line, status_block_line, status_tail_line}
use Rattle.vlm_script.specs.Texts.{resources_text, tails_text}

-- a name of the script, and its process
pub record Binding : Type 0 where
  pub name : List ℕ
  pub pid : ℕ

-- a session: the bound names, and the machine
pub record Session : Type 0 where
  pub names : List Binding
  pub state : State

-- no name is bound, and the machine is at its start
abbrev pub opening : Session
opening = record { names = []; state = start }

-- the process of a name, if the name is bound
abbrev pub bound_to : List Binding → List ℕ → Option ℕ
bound_to names name = option_map (λ b. b.pid) (find (λ b. is_text b.name name) names)

-- the fault of a line's name: it is bound already, or not yet
abbrev pub used_fault : Option ℕ → Option LineFault
used_fault None = None
used_fault (Some pid) = Some NameUsed

abbrev pub unknown_fault : Option ℕ → Option LineFault
unknown_fault None = Some UnknownName
unknown_fault (Some pid) = None

abbrev pub name_fault : List Binding → Line → Option LineFault
name_fault names Empty = None
name_fault names (Declare name declaration) = used_fault (bound_to names name)
name_fault names (Set name setting) = unknown_fault (bound_to names name)
name_fault names (Enq name request) = unknown_fault (bound_to names name)
name_fault names (Cvt name conversion) = unknown_fault (bound_to names name)
name_fault names (Deq name dequeue) = unknown_fault (bound_to names name)
name_fault names (End name) = unknown_fault (bound_to names name)
name_fault names (Leave node) = None
name_fault names (Search node) = None
name_fault names (Ast name) = unknown_fault (bound_to names name)
name_fault names (Block name number) = unknown_fault (bound_to names name)
name_fault names (Tail name number) = unknown_fault (bound_to names name)
name_fault names Show = None
name_fault names Tails = None

-- the step, made by this process; a step of a node stays as it is
abbrev pub of_process : ℕ → Step → Step
of_process pid (declare_step declaration) = declare_step declaration
of_process pid (set_step setting) = set_step (record setting { pid = pid })
of_process pid (enq_step request) = enq_step (record request { pid = pid })
of_process pid (convert_step conversion) = convert_step (record conversion { pid = pid })
of_process pid (deq_step dequeue) = deq_step (record dequeue { pid = pid })
of_process pid (Rundown none) = Rundown pid
of_process pid (leave_step node) = leave_step node
of_process pid (search_step node) = search_step node
of_process pid (Take none) = Take pid

-- a name is bound if its process is declared
abbrev pub bound_by : List Binding → List ℕ → Answer → List Binding
bound_by names name (process_answer pid) = names ++ record { name = name; pid = pid } ∷ []
bound_by names name (Lock cond lkid) = names
bound_by names name (Victim victim) = names
bound_by names name (Taken ast) = names
bound_by names name (Plain cond) = names

-- a declare line makes its step, prints the answer, and binds the name
pub record Declares (old : Session) (name : List ℕ) (declaration : Declaration) (text : List ℕ)
    (new : Session) : Type 0 where
  pub answer : Answer
  pub outcome : Outcome old.state (declare_step declaration) new.state answer
  pub names : new.names ≡ bound_by old.names name answer
  pub printed : text ≡ answer_line name answer

-- any other line with a name makes a step of its process, and prints the answer
pub record Makes (old : Session) (name : List ℕ) (step : Step) (text : List ℕ) (new : Session) : Type 0 where
  pub pid : ℕ
  pub bound : bound_to old.names name ≡ Some pid
  pub answer : Answer
  pub outcome : Outcome old.state (of_process pid step) new.state answer
  pub names : new.names ≡ old.names
  pub printed : text ≡ answer_line name answer

-- a line of a node makes its step, and prints the answer in this form
pub record Steps (old : Session) (step : Step) (as_line : Answer → List ℕ) (text : List ℕ)
    (new : Session) : Type 0 where
  pub answer : Answer
  pub outcome : Outcome old.state step new.state answer
  pub names : new.names ≡ old.names
  pub printed : text ≡ as_line answer

-- a line that only prints about a process changes nothing
pub record Shows (old : Session) (name : List ℕ) (shown : ℕ → List ℕ) (text : List ℕ) (new : Session) : Type 0 where
  pub pid : ℕ
  pub bound : bound_to old.names name ≡ Some pid
  pub same : new ≡ old
  pub printed : text ≡ shown pid

-- a line that only prints this text changes nothing
pub record Prints (old : Session) (shown text : List ℕ) (new : Session) : Type 0 where
  pub same : new ≡ old
  pub printed : text ≡ shown

-- the session after a line without a fault, and the line's text
abbrev pub Runs : Session → Line → List ℕ → Session → Type 0
Runs old Empty text new = Prints old [] text new
Runs old (Declare name declaration) text new = Declares old name declaration text new
Runs old (Set name setting) text new = Makes old name (set_step setting) text new
Runs old (Enq name request) text new = Makes old name (enq_step request) text new
Runs old (Cvt name conversion) text new = Makes old name (convert_step conversion) text new
Runs old (Deq name dequeue) text new = Makes old name (deq_step dequeue) text new
Runs old (End name) text new = Makes old name (Rundown unnamed_process) text new
Runs old (Leave node) text new = Steps old (leave_step node) (node_line node) text new
Runs old (Search node) text new = Steps old (search_step node) (answer_line (codes "search")) text new
Runs old (Ast name) text new = Makes old name (Take unnamed_process) text new
Runs old (Block name number) text new =
    Shows old name (λ pid. status_block_line name number (status_block_at old.state.processes pid number)) text new
Runs old (Tail name number) text new =
    Shows old name (λ pid. status_tail_line name number (status_block_at old.state.processes pid number)) text new
Runs old Show text new = Prints old (resources_text old.state.resources) text new
Runs old Tails text new = Prints old (tails_text old.state.resources) text new

-- the fault of a line in a session: of its bytes, or of its name
abbrev pub fault_among : List Binding → Result Line LineFault → Option LineFault
fault_among names (Err fault) = Some fault
fault_among names (Ok line) = name_fault names line

abbrev pub fault_of : List Binding → List ℕ → Option LineFault
fault_of names bytes = fault_among names (line_read bytes)

-- the lines run in order from a new session, without a fault, and print this text
pub data Played : List (List ℕ) → List ℕ → Session → Type 0 where
  opened : Played [] [] opening
  more : {lines : List (List ℕ)} {text : List ℕ} {old : Session} (bytes : List ℕ) (line : Line)
      (printed : List ℕ) {new : Session}
      → Played lines text old → line_read bytes ≡ Ok line → name_fault old.names line ≡ None → Runs old line printed new
      → Played (lines ++ bytes ∷ []) (text ++ printed) new

-- a text that some legal run of the first lines prints
abbrev pub IsTextOfFirst : ℕ → List ℕ → List ℕ → Type 0
IsTextOfFirst count input text = (last : Session) × Played (take count (lines_of input)) text last

-- a text that some legal run of the whole script prints: no line has a fault
abbrev pub IsText : List ℕ → List ℕ → Type 0
IsText input text = (last : Session) × Played (lines_of input) text last

-- the line of this number, from 1, is the first with a fault, and the lines before it print the text
pub record HasFault (input : List ℕ) (number : ℕ) (fault : LineFault) (text : List ℕ) : Type 0 where
  pub before : ℕ
  pub counted : number ≡ before + 1
  pub last : Session
  pub played : Played (take before (lines_of input)) text last
  pub line : List ℕ
  pub rest : List (List ℕ)
  pub here : drop before (lines_of input) ≡ line ∷ rest
  pub faulty : fault_of last.names line ≡ Some fault
