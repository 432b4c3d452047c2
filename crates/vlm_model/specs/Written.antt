-- The law that a step writes only the status blocks that are named.
use Rattle.std.specs.Prelude.{◌≡◌, ◌<◌, ◌+◌, ◌/◌, ◌==◌, ◌&&◌, not, filter, ◌⊎◌, ◌++◌, ℕ, Bool, true, false, List, []}
use Rattle.std.specs.Prelude.{◌∷◌, map, length, replicate, slice_index_or, Any, Option, None, Some, unwrap_or}
use Rattle.std.specs.Prelude.{if◌then◌else◌}
use Rattle.vlm_words.specs.declared.blocks.Block.{Block}
use Rattle.vlm_words.specs.declared.conditions.Cond.TheVariants.{Normal, Abort, Cancel, Deadlock, Valnotvalid, Widenotvalid}
use Rattle.vlm_words.specs.declared.locks.LockState.{LockState}
use Rattle.vlm_words.specs.declared.modes.Act.TheVariants.{Nothing, Return, Write}
use Rattle.vlm_words.specs.declared.steps.Answer.TheVariants.{Lock, Plain, Process as process_answer}
use Rattle.vlm_words.specs.declared.steps.Answer.{Answer}
use Rattle.vlm_words.specs.declared.steps.Declaration.{Declaration}
use Rattle.vlm_words.specs.declared.steps.Step.TheVariants.{Declare, SetValue, Enq, Convert, Rundown, Leave}
use Rattle.vlm_words.specs.declared.steps.Step.{Step}
use Rattle.vlm_words.specs.Conditions.{condition_number}
use Rattle.vlm_words.specs.Flags.{flag_bits, has_flag, wide}
use Rattle.vlm_words.specs.State.{Process, State, process_of}
use Rattle.vlm_model.specs.Endings.{Ending, How}
use Rattle.vlm_model.specs.Endings.How.{by_abort, by_cancel, by_deadlock, by_grant, by_rundown}
use Rattle.vlm_model.specs.Stepped.{stepped}

-- a new status block
abbrev pub blank_block : Block
blank_block = record { status = 0; lkid = 0; value = replicate 16 0; tail = replicate 48 0 }

-- the process that a declaration asks for
abbrev pub process_asked_for : ℕ → Declaration → Process
process_asked_for pid d = record {
  pid = pid;
  group = d.group;
  syslck = d.syslck;
  quota = d.quota;
  blocks = replicate d.blocks blank_block;
  asts = [];
}

-- the process without its status blocks and ASTs
abbrev pub without_notices : Process → Process
without_notices p = record p { blocks = []; asts = [] }

-- an accepted declaration adds its process at the end, a rundown removes its process, a departure those of its node;
-- otherwise processes change only in status blocks and ASTs
abbrev pub ProcessesAfter : Step → Answer → List Process → List Process → Type 0
ProcessesAfter (Declare d) (process_answer pid) before after =
    after ≡ before ++ process_asked_for pid d ∷ []
ProcessesAfter (Rundown pid) (Plain Normal) before after =
    map without_notices after ≡ map without_notices (filter (λ p. not (p.pid == pid)) before)
ProcessesAfter (Leave node) (Plain Normal) before after =
    map without_notices after ≡ map without_notices (filter (λ p. not (p.pid / 65536 == node)) before)
ProcessesAfter step answer before after = map without_notices after ≡ map without_notices before

-- the step names this status block of this process
abbrev pub names_block : Step → ℕ → ℕ → Bool
names_block (SetValue v) pid number = (v.pid == pid) && (v.block == number)
names_block (Enq e) pid number = (e.pid == pid) && (e.block == number)
names_block (Convert c) pid number = (c.pid == pid) && (c.block == number)
names_block step pid number = false

-- what the step itself makes of a block that it names: the set value, or pending for the answered lock; a refused
-- step changes nothing
abbrev pub block_named : Step → Answer → Block → Block
block_named (SetValue v) (Plain Normal) block =
    record block { value = v.value; tail = unwrap_or v.tail block.tail }
block_named (Enq e) (Lock cond lkid) block = record block { status = 0; lkid = lkid }
block_named (Convert c) (Lock cond lkid) block = record block { status = 0; lkid = lkid }
block_named step answer block = block

-- the ending is of a request of this process that named this block
abbrev pub is_end_for : ℕ → ℕ → Ending → Bool
is_end_for pid number ending = (ending.pid == pid) && (ending.request.block == number)

-- the later of two endings, if there is one
abbrev pub later_end : Option Ending → Option Ending → Option Ending
later_end None earlier = earlier
later_end (Some ending) earlier = Some ending

-- the last ending for the status block
abbrev pub last_end : ℕ → ℕ → List Ending → Option Ending
last_end pid number [] = None
last_end pid number (ending ∷ endings) =
    later_end (last_end pid number endings) (if is_end_for pid number ending then Some ending else None)

-- the status that an ending leaves; a rundown leaves no status, since its process is gone
abbrev pub TellsHow : How → ℕ → Type 0
TellsHow (by_grant Return) status =
    (status ≡ condition_number Normal) ⊎ (status ≡ condition_number Valnotvalid)
    ⊎ (status ≡ condition_number Widenotvalid)
TellsHow (by_grant Nothing) status = status ≡ condition_number Normal
TellsHow (by_grant Write) status = status ≡ condition_number Normal
TellsHow by_abort status = status ≡ condition_number Abort
TellsHow by_cancel status = status ≡ condition_number Cancel
TellsHow by_deadlock status = status ≡ condition_number Deadlock
TellsHow by_rundown status = ⊥

-- the status is of the last ending for the block; without one it stays
abbrev pub TellsLast : Option Ending → ℕ → ℕ → Type 0
TellsLast None before after = after ≡ before
TellsLast (Some ending) before after = TellsHow ending.how after

-- some grant returns the value block to this status block
abbrev pub IsReturnedTo : ℕ → ℕ → List Ending → Type 0
IsReturnedTo pid number endings =
    Any (λ ending. (ending.pid ≡ pid) × (ending.request.block ≡ number) × (ending.how ≡ by_grant Return)) endings

-- some grant returns the value block with its tail to this status block
abbrev pub IsReturnedWideTo : ℕ → ℕ → List Ending → Type 0
IsReturnedWideTo pid number endings =
    Any (λ ending. (ending.pid ≡ pid) × (ending.request.block ≡ number) × (ending.how ≡ by_grant Return)
    × (has_flag (flag_bits ending.request.flags) wide ≡ true)) endings

-- endings change the status of a block, its value part only by a return, its tail only by a wide return, and never
-- its lock
pub record IsLeftByEnds (pid number : ℕ) (endings : List Ending) (before after : Block) : Type 0 where
  pub status : TellsLast (last_end pid number endings) before.status after.status
  pub lkid : after.lkid ≡ before.lkid
  pub value : (IsReturnedTo pid number endings → ⊥) → after.value ≡ before.value
  pub tail : (IsReturnedWideTo pid number endings → ⊥) → after.tail ≡ before.tail

-- the blocks of a process after a step: first what the step makes of a named block, then what the endings make of it;
-- block 1 is at index 0
pub record BlocksAfter (step : Step) (answer : Answer) (endings : List Ending) (pid : ℕ)
    (before after : List Block) : Type 0 where
  pub many : length after ≡ length before
  pub each : (k : ℕ) → k < length before
      → IsLeftByEnds pid (k + 1) endings
      (if names_block step pid (k + 1) then block_named step answer (slice_index_or before k blank_block)
      else slice_index_or before k blank_block)
      (slice_index_or after k blank_block)

-- a step writes the status blocks that it names, and the blocks of the requests that end in it, and no other
pub record WritesNamedBlocks (old : State) (step : Step) (choice : Option LockState) : Type 0 where
  pub processes :
      ProcessesAfter step (stepped old step choice).answer old.processes (stepped old step choice).state.processes
  pub blocks : (pid : ℕ) (before after : Process) → process_of old.processes pid ≡ Some before
      → process_of (stepped old step choice).state.processes pid ≡ Some after
      → BlocksAfter step (stepped old step choice).answer
      (stepped old step choice).endings pid before.blocks after.blocks
