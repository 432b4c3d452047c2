-- The law that a grant returns the value block.
use Rattle.std.specs.Prelude.{◌≡◌, ◌<◌, ◌+◌, ◌&&◌, ◌⊎◌, ◌++◌, ℕ, Bool, true, false, List, [], ◌∷◌, length}
use Rattle.std.specs.Prelude.{slice_index_or, nat_le, All, Any, Option, None, Some, ⊤, if◌then◌else◌}
use Rattle.vlm_words.specs.declared.conditions.Cond.{Cond}
use Rattle.vlm_words.specs.declared.conditions.Cond.TheVariants.{Normal, Valnotvalid, Widenotvalid}
use Rattle.vlm_words.specs.declared.locks.Request.{Request}
use Rattle.vlm_words.specs.declared.locks.LockState.{LockState}
use Rattle.vlm_words.specs.declared.modes.Act.TheVariants.{Nothing, Return, Write}
use Rattle.vlm_words.specs.declared.modes.Act.{Act}
use Rattle.vlm_words.specs.declared.modes.Mode.TheVariants.{Pw, Ex}
use Rattle.vlm_words.specs.declared.modes.Mode.{Mode}
use Rattle.vlm_words.specs.declared.resources.ValueBlock.{ValueBlock}
use Rattle.vlm_words.specs.declared.steps.Step.{Step}
use Rattle.vlm_words.specs.Conditions.{condition_number}
use Rattle.vlm_words.specs.Modes.{rank}
use Rattle.vlm_words.specs.Flags.{flag_bits, has_flag, valblk, wide}
use Rattle.vlm_words.specs.State.{Process, Resource, State, process_of}
use Rattle.vlm_model.specs.Endings.{Ending, How}
use Rattle.vlm_model.specs.Endings.How.{by_grant}
use Rattle.vlm_model.specs.Laws.{IsGrant}
use Rattle.vlm_model.specs.Written.{blank_block, is_end_for, last_end, later_end}
use Rattle.vlm_model.specs.Stepped.{stepped}

-- what VALBLK does on a conversion: from PW to another mode than EX, and from EX, it writes; else it returns, unless
-- the wanted mode is weaker than the held one
abbrev pub conversion_act : Mode → Mode → Act
conversion_act Pw Ex = Return
conversion_act Pw want = Write
conversion_act Ex want = Write
conversion_act held want = if nat_le (rank held) (rank want) then Return else Nothing

-- what a grant does with the value block, by what its lock held: nothing without VALBLK; a new request returns it
abbrev pub act_asked_for : Option Request → Request → Act
act_asked_for None request = if has_flag (flag_bits request.flags) valblk then Return else Nothing
act_asked_for (Some held) request =
    if has_flag (flag_bits request.flags) valblk then conversion_act held.mode request.mode else Nothing

-- what the lock held before the step; a new lock held nothing
abbrev pub HeldBefore : State → ℕ → Option Request → Type 0
HeldBefore s lkid held =
    ((lkid ≡ s.next_lkid) × (held ≡ None))
    ⊎ Any (λ r. Any (λ row. (row.lkid ≡ lkid) × (row.held ≡ held)) (r.granted ++ r.converting ++ r.waiting)) s.resources

-- the grant does with the value block what its request and the mode held before ask for
pub record ActsAsAskedFor (s : State) (ending : Ending) : Type 0 where
  pub held : Option Request
  pub before : HeldBefore s ending.lkid held
  pub acts : ending.how ≡ by_grant (act_asked_for held ending.request)

-- the grant returns the value block
abbrev pub is_return : How → Bool
is_return (by_grant Return) = true
is_return how = false

-- the grant returns the value block with its tail
abbrev pub is_wide_return : Ending → Bool
is_wide_return ending = is_return ending.how && has_flag (flag_bits ending.request.flags) wide

-- the last ending of this kind for the status block
abbrev pub last_of_kind : (Ending → Bool) → ℕ → ℕ → List Ending → Option Ending
last_of_kind is_one pid number [] = None
last_of_kind is_one pid number (ending ∷ endings) =
    later_end (last_of_kind is_one pid number endings)
    (if is_end_for pid number ending && is_one ending then Some ending else None)

-- the last grant that returns the value block to the status block
abbrev pub last_return : ℕ → ℕ → List Ending → Option Ending
last_return = last_of_kind (λ ending. is_return ending.how)

-- the last grant that also returns the tail to the status block
abbrev pub last_wide_return : ℕ → ℕ → List Ending → Option Ending
last_wide_return = last_of_kind is_wide_return

-- the lock of the granted request is granted on the resource, and holds the request
abbrev pub HoldsGranted : Ending → Resource → Type 0
HoldsGranted ending r =
    Any (λ row. (row.lkid ≡ ending.lkid) × (row.pid ≡ ending.pid) × (row.held ≡ Some ending.request)) r.granted

-- the value block is that of the resource of the granted lock
abbrev pub IsItsValue : State → Ending → ValueBlock → Type 0
IsItsValue s ending block = Any (λ r. HoldsGranted ending r × (block ≡ r.value_block)) s.resources

-- the value part is the value of the last returned value block, if there was one
abbrev pub TellsValue : State → Option Ending → List ℕ → Type 0
TellsValue s None value = ⊤
TellsValue s (Some ending) value = (block : ValueBlock) × IsItsValue s ending block × (value ≡ block.value)

-- the tail is the tail of the last value block that was returned wide, if there was one
abbrev pub TellsTail : State → Option Ending → List ℕ → Type 0
TellsTail s None tail = ⊤
TellsTail s (Some ending) tail = (block : ValueBlock) × IsItsValue s ending block × (tail ≡ block.tail)

-- the status of a return, by WIDE and the marks of value and tail
abbrev pub told_by_marks : Bool → Bool → Bool → Cond
told_by_marks _ false _ = Valnotvalid
told_by_marks true true false = Widenotvalid
told_by_marks true true true = Normal
told_by_marks false true _ = Normal

-- if the last ending returned the value block, the status tells its marks
abbrev pub TellsMark : State → Option Ending → ℕ → Type 0
TellsMark s None status = ⊤
TellsMark s (Some ending) status = ending.how ≡ by_grant Return
    → (block : ValueBlock) × IsItsValue s ending block
    × (status ≡ condition_number
    (told_by_marks (has_flag (flag_bits ending.request.flags) wide) block.valid block.tail_valid))

-- each grant does what its request asks for, and a status block gets the value block as it is after the step
pub record GrantsReturnValues (old : State) (step : Step) (choice : Option LockState) : Type 0 where
  pub acts :
      All (λ ending. IsGrant ending.how → ActsAsAskedFor old ending) (stepped old step choice).endings
  pub values : (pid k : ℕ) (p : Process) → process_of (stepped old step choice).state.processes pid ≡ Some p
      → k < length p.blocks
      → TellsValue (stepped old step choice).state (last_return pid (k + 1) (stepped old step choice).endings)
      (slice_index_or p.blocks k blank_block).value
  pub tails : (pid k : ℕ) (p : Process) → process_of (stepped old step choice).state.processes pid ≡ Some p
      → k < length p.blocks
      → TellsTail (stepped old step choice).state (last_wide_return pid (k + 1) (stepped old step choice).endings)
      (slice_index_or p.blocks k blank_block).tail
  pub marks : (pid k : ℕ) (p : Process) → process_of (stepped old step choice).state.processes pid ≡ Some p
      → k < length p.blocks
      → TellsMark (stepped old step choice).state (last_end pid (k + 1) (stepped old step choice).endings)
      (slice_index_or p.blocks k blank_block).status
