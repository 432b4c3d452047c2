-- The result of a script's run, and the bytes that it has read and written.
use Rattle.std.specs.Prelude.{◌≡◌, ◌<◌, ◌≤◌, ℕ, List, [], ◌++◌, length, take, ◌⊎◌, Option, Result, Ok, Err}
use Rattle.std.specs.Io.KnownBytes.{Appends, Consumes, IsAtEnd}
use Rattle.vlm_script.specs.Scripts.{IsText, IsTextOfFirst, HasFault}
use Rattle.vlm_script.specs.declared.faults.PlayFault.{PlayFault}
use Rattle.vlm_script.specs.declared.faults.PlayFault.TheVariants.{Line, Memory, Read, Write, Long}

-- the written bytes begin the text of the first lines, and some of it is missing
pub record IsPartOfText (input written : List ℕ) : Type 0 where
  pub count : ℕ
  pub rest : List ℕ
  pub missing : 0 < length rest
  pub text : IsTextOfFirst count input (written ++ rest)

-- a fault of the program, and the bytes written before it
abbrev pub StopsAt : List ℕ → PlayFault → List ℕ → Type 0
StopsAt input (Line number fault) written = HasFault input number fault written
StopsAt input Memory written = (count : ℕ) × IsTextOfFirst count input written
StopsAt input Read written = written ≡ []
StopsAt input Write written = IsPartOfText input written
StopsAt input Long written = (written ≡ []) × (16777216 < length input)

-- the whole script has run and its text is written, or a fault stopped it
abbrev pub Plays : List ℕ → Result (Unit {0}) PlayFault → List ℕ → Type 0
Plays input (Ok done) written = IsText input written
Plays input (Err fault) written = StopsAt input fault written

-- some bytes were appended, and this holds of them
abbrev pub Wrote : Option (List ℕ) → Option (List ℕ) → (List ℕ → Type 0) → Type 0
Wrote old new P = (written : List ℕ) × Appends old new written × P written

-- a first part of the waiting bytes is written, and the others still wait
pub record Passes (old new : Option (List ℕ)) (waiting left : List ℕ) : Type 0 where
  pub part : List ℕ
  pub wrote : Appends old new part
  pub split : waiting ≡ part ++ left

-- a first part of the waiting bytes is written, and not the whole
abbrev pub PassesPart : Option (List ℕ) → Option (List ℕ) → List ℕ → Type 0
PassesPart old new waiting = (n : ℕ) × (n < length waiting) × Appends old new (take n waiting)

-- some bytes were read, at most this many
abbrev pub ConsumesAtMost : ℕ → Option (List ℕ) → Option (List ℕ) → Type 0
ConsumesAtMost most old new = (bytes : List ℕ) × (length bytes ≤ most) × Consumes old new bytes

-- a script within the limit is read to its end
pub record ReadsScript (old new : Option (List ℕ)) : Type 0 where
  pub within : ConsumesAtMost 16777216 old new
  pub end : IsAtEnd new

-- reading comes first: a run that ends so has read the whole script, or has written nothing
abbrev pub ReadsFirst : Result (Unit {0}) PlayFault → (WholeRead NoneWritten : Type 0) → Type 0
ReadsFirst (Ok done) WholeRead NoneWritten = WholeRead
ReadsFirst (Err (Line number fault)) WholeRead NoneWritten = WholeRead
ReadsFirst (Err Memory) WholeRead NoneWritten = WholeRead ⊎ NoneWritten
ReadsFirst (Err Read) WholeRead NoneWritten = NoneWritten
ReadsFirst (Err Write) WholeRead NoneWritten = WholeRead
ReadsFirst (Err Long) WholeRead NoneWritten = NoneWritten

-- a fault that can end a run after the script is read
abbrev pub EndsLines : PlayFault → Type 0
EndsLines (Line number fault) = Unit {0}
EndsLines Memory = Unit {0}
EndsLines Read = ⊥
EndsLines Write = Unit {0}
EndsLines Long = ⊥
