-- The result of a script during which a resource is watched, and its printed text.
use Rattle.std.specs.Prelude.{◌≡◌, ◌==◌, ◌+◌, ◌⊎◌, ℕ, List, [], ◌∷◌, ◌++◌, Option, Result, Ok, Err, IfSome, if◌then◌else◌, length, take}
use Rattle.vlm_words.specs.declared.steps.Step.{Step}
use Rattle.vlm_words.specs.State.{State, start}
use Rattle.vlm_journal.specs.declared.entries.Entry.{Entry}
use Rattle.vlm_journal.specs.Journals.{JournalFrom}
use Rattle.vlm_ports.specs.Hubs.{HubTakesAlone}
use Rattle.vlm_ports.specs.declared.watch.rows.RootKey.{RootKey}
use Rattle.vlm_ports.specs.declared.watch.rows.Row.{Row}
use Rattle.vlm_ports.specs.Rows.{row_of}
use Rattle.vlm_lines.specs.declared.faults.LineFault.{LineFault}
use Rattle.vlm_lines.specs.Lines.{lines_of}
use Rattle.vlm_script.specs.declared.faults.PlayFault.{PlayFault}
use Rattle.vlm_script.specs.declared.faults.PlayFault.TheVariants.{Line, Memory, Read, Write, Long}
use Rattle.vlm_script.specs.declared.printed.rows.WatchedRow.{WatchedRow}
use Rattle.vlm_script.specs.declared.steps.ScriptStep.{ScriptStep}
use Rattle.vlm_script.specs.Plays.{PassesPart, Wrote}
use Rattle.vlm_script.specs.Shares.{StopsShares, no_shares}
use Rattle.vlm_script.specs.Steps.{steps_out}
use Rattle.vlm_script.specs.Texts.{watch_line}
use Rattle.vlm.specs.declared.monitor.ends.WatchFault.{WatchFault}
use Rattle.vlm.specs.declared.monitor.ends.WatchFault.TheVariants.{NoAnswer, NoSeat, Play}

-- the steps of a script for eight nodes, or its first fault
abbrev pub steps_of : List ℕ → Result (List ScriptStep) (ℕ × LineFault)
steps_of input = steps_out 8 (no_shares 8) 0 (lines_of input)

-- the lines of the first steps, in order, as far as there are rows
abbrev pub watch_text : List ScriptStep → List WatchedRow → List ℕ
watch_text [] rows = []
watch_text (step ∷ steps) [] = []
watch_text (step ∷ steps) (row ∷ rows) = watch_line step.line row ++ watch_text steps rows

-- the printed part of a row: all of it except the number of entries
abbrev pub printed_row : Row → WatchedRow
printed_row row = record {
  held = row.held;
  conversions = row.conversions;
  waiters = row.waiters;
  value = row.value;
  valid = row.valid;
}

-- the printed part of the root resource under the key in a state
abbrev pub row_at : State → RootKey → WatchedRow
row_at state key = printed_row (row_of (record { entries = []; state = state; base = 0; room = 0 }) key)

-- the steps that nodes asked for, in order
abbrev pub steps_asked : List Entry → List Step
steps_asked [] = []
steps_asked (entry ∷ entries) =
    if entry.sender == 0 then steps_asked entries else entry.step ∷ steps_asked entries

-- a hub goes from one state to another: the nodes ask only for this step, and the hub itself only takes ASTs
pub record Makes (step : Step) (old new : State) : Type 0 where
  pub entries : List Entry
  pub legal : JournalFrom old entries new
  pub asked : steps_asked entries ≡ step ∷ []
  pub takes : HubTakesAlone entries

-- a hub has made these steps and no others, from the start of the machine to this state, and these are the rows of the
-- resource under the key: one for each step, in the state to which the step led
pub data AreSeen (key : RootKey) : List ScriptStep → List WatchedRow → State → Type 0 where
  none_seen : AreSeen key [] [] start
  next_seen : {steps : List ScriptStep} {rows : List WatchedRow} {old : State} → AreSeen key steps rows old
      → (step : ScriptStep) (new : State) → Makes step.step old new
      → AreSeen key (steps ++ step ∷ []) (rows ++ row_at new key ∷ []) new

-- the lines of the steps in order, without this many last ones: each with the row of the watched resource in the state
-- to which its step led
pub record AreWatched (key : RootKey) (steps : List ScriptStep) (left : ℕ) (text : List ℕ) : Type 0 where
  pub rows : List WatchedRow
  pub state : State
  pub count : length rows + left ≡ length steps
  pub seen : AreSeen key (take (length rows) steps) rows state
  pub printed : text ≡ watch_text steps rows

-- the text of a script during which a resource is watched: the lines of its steps, without this many last ones
pub record IsWatchText (key : RootKey) (script : Option (List ℕ)) (left : ℕ) (text : List ℕ) : Type 0 where
  pub steps : List ScriptStep
  pub read : IfSome script (λ input. steps_of input ≡ Ok steps)
  pub watched : AreWatched key steps left text

-- the reasons that end a watch before the last step
abbrev pub EndsSteps : WatchFault → Type 0
EndsSteps (Play Memory) = Unit {0}
EndsSteps NoSeat = Unit {0}
EndsSteps NoAnswer = Unit {0}
EndsSteps (Play (Line number fault)) = ⊥
EndsSteps (Play Read) = ⊥
EndsSteps (Play Write) = ⊥
EndsSteps (Play Long) = ⊥

-- the text of the steps that were made: all of them, or those before the watch ended
abbrev pub EndsWatched : RootKey → List ScriptStep → Result (Unit {0}) WatchFault → List ℕ → Type 0
EndsWatched key steps (Ok done) text = AreWatched key steps 0 text
EndsWatched key steps (Err fault) text = EndsSteps fault × ((left : ℕ) × AreWatched key steps left text)

-- nothing was written: this fault came before any step
abbrev pub StopsWatch : Option (List ℕ) → PlayFault → Option (List ℕ) → Option (List ℕ) → Type 0
StopsWatch script fault old new =
    IfSome script (λ input. StopsShares input (steps_of input) fault) × (new ≡ old)

-- the lines of some first steps were written
abbrev pub PrintsFirst : RootKey → Option (List ℕ) → Option (List ℕ) → Option (List ℕ) → Type 0
PrintsFirst key script old new = (left : ℕ) × Wrote old new (IsWatchText key script left)

-- the standard output of a watch: the lines of all steps; the lines of the first steps if the watch ends early; only a
-- part of these if a write fails; nothing if the script has a fault or is not read
abbrev pub PrintsWatch : RootKey → Option (List ℕ) → Result (Unit {0}) WatchFault
    → Option (List ℕ) → Option (List ℕ) → Type 0
PrintsWatch key script (Ok done) old new = Wrote old new (IsWatchText key script 0)
PrintsWatch key script (Err NoSeat) old new = PrintsFirst key script old new
PrintsWatch key script (Err NoAnswer) old new = PrintsFirst key script old new
PrintsWatch key script (Err (Play Memory)) old new = (new ≡ old) ⊎ PrintsFirst key script old new
PrintsWatch key script (Err (Play Write)) old new =
    (left : ℕ) × (text : List ℕ) × IsWatchText key script left text × PassesPart old new text
PrintsWatch key script (Err (Play (Line number fault))) old new =
    StopsWatch script (Line number fault) old new
PrintsWatch key script (Err (Play Read)) old new = StopsWatch script Read old new
PrintsWatch key script (Err (Play Long)) old new = StopsWatch script Long old new
