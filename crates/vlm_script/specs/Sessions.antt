-- The lines of a script in a session of the program.
use Rattle.std.specs.Prelude.{◌≡◌, ℕ, List, ◌++◌, None, Some, Ok}
use Rattle.vlm_lines.specs.declared.lines.Line.{Line}
use Rattle.vlm_lines.specs.Lines.{line_read}
use Rattle.vlm_words.specs.declared.steps.Step.{Step}
use Rattle.vlm_script.specs.Scripts.{Session, Binding, Makes, Runs, bound_to, name_fault, fault_of, unknown_fault}
use Rattle.vlm_script.specs.declared.faults.PlayFault.{PlayFault}
use Rattle.vlm_script.specs.declared.faults.PlayFault.TheVariants.{Line as line_fault, Memory as memory_fault}
use Rattle.vlm_script.specs.declared.stops.Stop.{Stop}
use Rattle.vlm_script.specs.declared.stops.Stop.TheVariants.{Fault, Memory}

-- a line without a fault has run, and its text is appended to the text before it
pub record IsRun (old : Session) (line : Line) (new : Session) (before after : List ℕ)
    : Type 0 where
  pub text : List ℕ
  pub faultless : name_fault old.names line ≡ None
  pub runs : Runs old line text new
  pub printed : after ≡ before ++ text

-- a step is made by the process of the name, and its answer is appended to the text before it
pub record RunsStep (old : Session) (name : List ℕ) (step : Step) (new : Session) (before after : List ℕ) : Type 0 where
  pub text : List ℕ
  pub faultless : unknown_fault (bound_to old.names name) ≡ None
  pub makes : Makes old name step text new
  pub printed : after ≡ before ++ text

-- the bytes of a line are read, and the line has run
pub record IsPrinted (old : Session) (bytes : List ℕ) (new : Session) (before after : List ℕ)
    : Type 0 where
  pub line : Line
  pub read : line_read bytes ≡ Ok line
  pub run : IsRun old line new before after

-- a line stops the run by its name's fault, or because memory is refused
abbrev pub StopsLine : List Binding → Line → Stop → Type 0
StopsLine names line (Fault fault) = name_fault names line ≡ Some fault
StopsLine names line Memory = Unit {0}

-- a name stops the run if it is not bound, or because memory is refused
abbrev pub StopsName : List Binding → List ℕ → Stop → Type 0
StopsName names name (Fault fault) = unknown_fault (bound_to names name) ≡ Some fault
StopsName names name Memory = Unit {0}

-- bytes stop the run by their fault, or because memory is refused
abbrev pub StopsBytes : List Binding → List ℕ → Stop → Type 0
StopsBytes names bytes (Fault fault) = fault_of names bytes ≡ Some fault
StopsBytes names bytes Memory = Unit {0}

-- the fault of the whole run, which the line of this number stops
abbrev pub stopped_at : ℕ → Stop → PlayFault
stopped_at number (Fault fault) = line_fault number fault
stopped_at number Memory = memory_fault
