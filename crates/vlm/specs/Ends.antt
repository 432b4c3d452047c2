-- The end of a call of the program: its exit status, and the bytes that it has read and written.
use Rattle.std.specs.Prelude.{◌≡◌, ◌≢◌, ◌≤◌, ℕ, List, [], ◌∷◌, ◌⊎◌, Option, None, Some, Result, Ok, Err, IfSome, codes}
use Rattle.std.specs.Io.KnownBytes.{Appends}
use Rattle.clap.specs.Words.{Text}
use Rattle.clap.specs.declared.error.kind.ErrorKind.{ErrorKind}
use Rattle.clap.specs.declared.error.kind.ErrorKind.TheVariants.{OutOfMemory}
use Rattle.vlm.specs.declared.monitor.ends.WatchFault.{WatchFault}
use Rattle.vlm.specs.declared.monitor.ends.WatchFault.TheVariants.{NoAnswer, NoSeat, Play}
use Rattle.vlm_words.specs.declared.resources.Domain.{Domain}
use Rattle.vlm_words.specs.declared.resources.Domain.TheVariants.{System}
use Rattle.vlm_ports.specs.declared.watch.rows.RootKey.{RootKey}
use Rattle.vlm.specs.declared.arguments.Subject.{Subject}
use Rattle.vlm.specs.Clusters.{PrintsCluster}
use Rattle.vlm.specs.Watches.{PrintsWatch}
use Rattle.vlm.specs.Words.{AreClusterWords, AreWatchWords, AskForCluster, AskForPlay, AskForWatch, IsErrorOf, IsHelp, name_given, word_errors}
use Rattle.vlm_script.specs.declared.faults.PlayFault.{PlayFault}
use Rattle.vlm_script.specs.declared.faults.PlayFault.TheVariants.{Line, Memory, Read, Write, Long}
use Rattle.vlm_script.specs.Faults.{fault_line}
use Rattle.vlm_script.specs.Plays.{PassesPart, Plays, ConsumesAtMost, ReadsFirst, ReadsScript, Wrote}

-- the bytes of the two writers, of the text and of the faults, if they are known
pub record Output : Type 0 where
  pub printed : Option (List ℕ)
  pub faults : Option (List ℕ)

-- the output with these two
abbrev pub output_of : Option (List ℕ) → Option (List ℕ) → Output
output_of printed faults = record { printed = printed; faults = faults }

-- the end of a call: its input before and after, its output before and after, and its exit status
abbrev pub EndOfCall : Type 1
EndOfCall = Option (List ℕ) → Option (List ℕ) → Output → Output → ℕ → Type 0

-- the exit status of a run: 0 if it is done, 1 for a line with a fault, 3 for any other fault
abbrev pub status_of : Result (Unit {0}) PlayFault → ℕ
status_of (Ok done) = 0
status_of (Err (Line number fault)) = 1
status_of (Err Memory) = 3
status_of (Err Read) = 3
status_of (Err Write) = 3
status_of (Err Long) = 3

-- this line is printed, or only a first part of it if a write fails
abbrev pub PrintsLine : List ℕ → Option (List ℕ) → Option (List ℕ) → Type 0
PrintsLine line old new = Appends old new line ⊎ PassesPart old new line

-- a fault's line is printed, or only a first part of it if a write fails
abbrev pub PrintsFault : PlayFault → Option (List ℕ) → Option (List ℕ) → Type 0
PrintsFault fault old new = PrintsLine (fault_line fault) old new

-- the text of a run's end on standard error: nothing, or its fault
abbrev pub PrintsEnd : Result (Unit {0}) PlayFault → Option (List ℕ) → Option (List ℕ) → Type 0
PrintsEnd (Ok done) old new = new ≡ old
PrintsEnd (Err fault) old new = PrintsFault fault old new

-- a script was run: the status and the line on standard error are those of its end
pub record RunsScript (script left : Option (List ℕ)) (old new : Output) (status : ℕ) : Type 0 where
  pub end : Result (Unit {0}) PlayFault
  pub played : IfSome script (λ input. Wrote old.printed new.printed (Plays input end))
  pub reads : ConsumesAtMost 16777217 script left
  pub first : ReadsFirst end (ReadsScript script left) (new.printed ≡ old.printed)
  pub ended : status ≡ status_of end
  pub faults : PrintsEnd end old.faults new.faults

-- the line that there are no random bytes
abbrev pub random_bytes_line : List ℕ
random_bytes_line = codes "no random bytes\n"

-- that line is printed, or only a first part of it if a write fails
abbrev pub PrintsNoRandomBytes : Option (List ℕ) → Option (List ℕ) → Type 0
PrintsNoRandomBytes old new = PrintsLine random_bytes_line old new

-- the system gave no random bytes
pub record WantsRandomBytes (old new : Output) (status : ℕ) : Type 0 where
  pub printed : new.printed ≡ old.printed
  pub faults : PrintsNoRandomBytes old.faults new.faults
  pub ended : status ≡ 3

-- the call ended in this way; or the system gave no random bytes, and nothing was read
abbrev pub OrWantsRandomBytes : EndOfCall → EndOfCall
OrWantsRandomBytes runs script left old new status =
    runs script left old new status ⊎ ((left ≡ script) × WantsRandomBytes old new status)

-- a script was run, or the system gave no random bytes, and nothing was read
abbrev pub StartsRun : EndOfCall
StartsRun script left old new status = OrWantsRandomBytes RunsScript script left old new status

-- a script was served by this many nodes: the status and the line on standard error are those of its end
pub record RunsCluster (nodes : ℕ) (script left : Option (List ℕ)) (old new : Output) (status : ℕ)
    : Type 0 where
  pub end : Result (Unit {0}) PlayFault
  pub printed : PrintsCluster nodes script end old.printed new.printed
  pub reads : ConsumesAtMost 16777217 script left
  pub ended : status ≡ status_of end
  pub faults : PrintsEnd end old.faults new.faults

-- a script was served by this many nodes; or the system gave no random bytes, and nothing was read
abbrev pub StartsCluster : ℕ → EndOfCall
StartsCluster nodes script left old new status =
    OrWantsRandomBytes (RunsCluster nodes) script left old new status

-- the line that says why a watch ended
abbrev pub watch_fault_line : WatchFault → List ℕ
watch_fault_line (Play fault) = fault_line fault
watch_fault_line NoSeat = codes "no seat\n"
watch_fault_line NoAnswer = codes "no answer\n"

-- the exit status of a watch: the status of a run with the same fault, else 3
abbrev pub watch_status_of : Result (Unit {0}) WatchFault → ℕ
watch_status_of (Ok done) = 0
watch_status_of (Err (Play fault)) = status_of (Err fault)
watch_status_of (Err NoSeat) = 3
watch_status_of (Err NoAnswer) = 3

-- the text of a watch's end on standard error: nothing, or its line
abbrev pub PrintsWatchEnd : Result (Unit {0}) WatchFault → Option (List ℕ) → Option (List ℕ) → Type 0
PrintsWatchEnd (Ok done) old new = new ≡ old
PrintsWatchEnd (Err fault) old new = PrintsLine (watch_fault_line fault) old new

-- the resource under the key was watched while a script ran: the status and the line on standard error are of its end
pub record RunsWatch (key : RootKey) (script left : Option (List ℕ)) (old new : Output) (status : ℕ) : Type 0 where
  pub end : Result (Unit {0}) WatchFault
  pub printed : PrintsWatch key script end old.printed new.printed
  pub reads : ConsumesAtMost 16777217 script left
  pub ended : status ≡ watch_status_of end
  pub faults : PrintsWatchEnd end old.faults new.faults

-- no resource can have the name in the words
pub record RefusesName (old new : Output) (status : ℕ) : Type 0 where
  pub printed : new.printed ≡ old.printed
  pub faults : PrintsLine (codes "wrong name\n") old.faults new.faults
  pub ended : status ≡ 2

-- the resource under the key was watched while a script ran, or the system gave no random bytes and nothing was read
abbrev pub StartsNamedWatch : RootKey → EndOfCall
StartsNamedWatch key script left old new status =
    OrWantsRandomBytes (RunsWatch key) script left old new status

-- the resource of this name in this domain was to be watched, or no resource has the name that was given, and nothing
-- was read
abbrev pub StartsWatch : Domain → Option (List ℕ) → EndOfCall
StartsWatch domain None script left old new status = (left ≡ script) × RefusesName old new status
StartsWatch domain (Some name) script left old new status =
    StartsNamedWatch (record { domain = domain; name = name }) script left old new status

-- the words start a cluster or a watch if they name it, else a run
abbrev pub StartsTask : List Text → EndOfCall
StartsTask words script left old new status =
    (AskForPlay words × StartsRun script left old new status)
    ⊎ ((nodes : ℕ) × AskForCluster words nodes × StartsCluster nodes script left old new status)
    ⊎ ((subject : Subject) × AskForWatch words subject
    × StartsWatch subject.domain subject.name script left old new status)

-- the help that was asked for is on standard output
pub record GivesHelp (help : List ℕ) (old new : Output) (status : ℕ) : Type 0 where
  pub printed : Appends old.printed new.printed help
  pub faults : new.faults ≡ old.faults
  pub ended : status ≡ 0

-- the words are refused, and some text about them is on standard error
pub record RefusesWords (old new : Output) (status : ℕ) : Type 0 where
  pub text : List ℕ
  pub printed : new.printed ≡ old.printed
  pub faults : Appends old.faults new.faults text
  pub ended : status ≡ 2

-- memory was refused while the words were read
pub record WantsMemory (old new : Output) (status : ℕ) : Type 0 where
  pub printed : new.printed ≡ old.printed
  pub faults : PrintsFault Memory old.faults new.faults
  pub ended : status ≡ 3

-- a write of the help failed, and only a first part of it is on standard output
pub record FailsHelp (help : List ℕ) (old new : Output) (status : ℕ) : Type 0 where
  pub printed : PassesPart old.printed new.printed help
  pub faults : PrintsFault Write old.faults new.faults
  pub ended : status ≡ 3

-- the end of a call whose words have an error of this kind; help is never refused
abbrev pub EndsByError : ErrorKind → Output → Output → ℕ → Type 0
EndsByError kind old new status =
    WantsMemory old new status
    ⊎ (IsHelp kind × (help : List ℕ) × (GivesHelp help old new status ⊎ FailsHelp help old new status))
    ⊎ ((kind ≢ OutOfMemory) × (IsHelp kind → ⊥) × RefusesWords old new status)

-- the words have no error, and their task was started; or they have an error, and nothing was read
abbrev pub EndsByWords : List Text → EndOfCall
EndsByWords words script left old new status =
    ((word_errors words ≡ []) × StartsTask words script left old new status)
    ⊎ ((left ≡ script)
    × ((kind : ErrorKind) × IsErrorOf words kind × EndsByError kind old new status))

-- the call ended in this way; or memory ran out before, and nothing was read
abbrev pub OrWantsMemory : EndOfCall → EndOfCall
OrWantsMemory starts script left old new status =
    starts script left old new status ⊎ ((left ≡ script) × WantsMemory old new status)

-- a run was started, or memory ran out before
abbrev pub RunsOrWantsMemory : EndOfCall
RunsOrWantsMemory script left old new status = OrWantsMemory StartsRun script left old new status

-- a cluster of this many nodes was started, or memory ran out before
abbrev pub ClustersOrWantsMemory : ℕ → EndOfCall
ClustersOrWantsMemory nodes script left old new status =
    OrWantsMemory (StartsCluster nodes) script left old new status

-- a watch of the resource of this name in the system's domain was started, or memory ran out before
abbrev pub WatchesOrWantsMemory : Option (List ℕ) → EndOfCall
WatchesOrWantsMemory name script left old new status =
    OrWantsMemory (StartsWatch System name) script left old new status

-- the program ends as its words ask: `NAME play` runs the script, `NAME cluster --nodes N` serves it by N nodes,
-- `NAME cluster` by two, and `NAME watch --name=RES` watches the resource of the name RES, if a resource can have that
-- name
pub record EndsAsAsked (words : List Text) (script left : Option (List ℕ)) (old new : Output)
    (status : ℕ) : Type 0 where
  pub ends : EndsByWords words script left old new status
  pub play : (name : List ℕ) → words ≡ name ∷ codes "play" ∷ [] → RunsOrWantsMemory script left old new status
  pub cluster : (name : List ℕ) (nodes : ℕ) → 1 ≤ nodes → nodes ≤ 8
      → AreClusterWords name nodes words → ClustersOrWantsMemory nodes script left old new status
  pub watch : (name res : List ℕ) → AreWatchWords name res words
      → WatchesOrWantsMemory (name_given res) script left old new status
