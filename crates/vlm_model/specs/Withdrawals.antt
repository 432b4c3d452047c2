-- Withdrawals of locks, in three phases: all requests end, then the value blocks are written, then the locks go or
-- stay.
use Rattle.std.specs.Prelude.{ℕ, Bool, false, ◌&&◌, ◌||◌, ◌==◌, List, [], ◌∷◌, ◌++◌, map, flat_map, Option, None, Some, if◌then◌else◌}
use Rattle.std.specs.List.{list_any}
use Rattle.vlm_words.specs.declared.locks.Request.{Request}
use Rattle.vlm_words.specs.declared.locks.LockState.{LockState}
use Rattle.vlm_words.specs.declared.resources.ValueBlock.{ValueBlock}
use Rattle.vlm_words.specs.Modes.{is_writing}
use Rattle.vlm_words.specs.ValueBlocks.{invalid_value_block, new_value_block, written_value_block}
use Rattle.vlm_words.specs.State.{Process, Resource, State}
use Rattle.vlm_model.specs.Endings.{Ending, How, row_endings}
use Rattle.vlm_model.specs.Effects.{blocks_after, blocks_with}
use Rattle.vlm_words.specs.Rows.{rows_of, rows_without}

-- a withdrawal: how the lock's request ends if it waits or converts, whether a converting lock stays, and what a lock
-- that holds PW or EX writes to the value block: a value with or without a tail, and whether it marks the value block
-- invalid
pub record Withdrawal : Type 0 where
  pub lkid : ℕ
  pub waiting : How
  pub converting : How
  pub stays : Bool
  pub value : Option (List ℕ)
  pub tail : Option (List ℕ)
  pub invalidates : Bool

-- ---- the requests end

-- the request of this lock ends, if the lock is in this queue
abbrev pub queue_endings : How → ℕ → List LockState → List Ending
queue_endings how lkid rows = flat_map (row_endings how false) (rows_of lkid rows)

-- the request of the lock ends, if it is queued on this resource
abbrev pub withdrawal_endings : Withdrawal → Resource → List Ending
withdrawal_endings w r =
    queue_endings w.converting w.lkid r.converting ++ queue_endings w.waiting w.lkid r.waiting

-- the requests of these locks end, lock by lock
abbrev pub withdrawn_endings : List Withdrawal → List Resource → List Ending
withdrawn_endings withdrawals resources =
    flat_map (λ w. flat_map (withdrawal_endings w) resources) withdrawals

-- the processes after endings that do not touch a value block
abbrev pub processes_after : List Ending → List Process → List Process
processes_after endings processes =
    (blocks_after endings (blocks_with new_value_block processes)).processes

-- ---- the value blocks

-- what is held is PW or EX, so it may write the value block
abbrev pub is_writer : Option Request → Bool
is_writer None = false
is_writer (Some held) = is_writing held.mode

-- the lock is among the rows, and holds PW or EX
abbrev pub has_writer : ℕ → List LockState → Bool
has_writer lkid rows = list_any (λ row. (row.lkid == lkid) && is_writer row.held) rows

-- a given value is written, with or without a tail
abbrev pub value_block_after_gift : Option (List ℕ) → Option (List ℕ) → ValueBlock → ValueBlock
value_block_after_gift None tail block = block
value_block_after_gift (Some value) tail block = written_value_block value tail block

-- a given value is written, then the value block may be marked invalid
abbrev pub value_block_after_writer : Withdrawal → ValueBlock → ValueBlock
value_block_after_writer w block =
    if w.invalidates then invalid_value_block (value_block_after_gift w.value w.tail block)
    else value_block_after_gift w.value w.tail block

-- the lock holds PW or EX on the resource, granted or converting
abbrev pub is_held_by_writer : ℕ → Resource → Bool
is_held_by_writer lkid r = has_writer lkid r.granted || has_writer lkid r.converting

-- the resource after the lock's write; only a lock that holds PW or EX writes
abbrev pub resource_after_writer : Withdrawal → Resource → Resource
resource_after_writer w r =
    if is_held_by_writer w.lkid r then record r { value_block = value_block_after_writer w r.value_block }
    else r

-- ---- the locks go or stay

-- the resource without this lock
unfoldable pub resource_without : ℕ → Resource → Resource
resource_without lkid r = record r {
  granted = rows_without lkid r.granted;
  converting = rows_without lkid r.converting;
  waiting = rows_without lkid r.waiting;
}

-- the row wants nothing, holds what it held, and is armed as before
abbrev pub row_after_cancel : LockState → LockState
row_after_cancel row = record row { want = None }

-- a converting lock goes to the end of the granted queue; a waiting lock goes
unfoldable pub resource_after_cancel : ℕ → Resource → Resource
resource_after_cancel lkid r = record r {
  granted = r.granted ++ map row_after_cancel (rows_of lkid r.converting);
  converting = rows_without lkid r.converting;
  waiting = rows_without lkid r.waiting;
}

-- the lock goes, or its request is cancelled
abbrev pub resource_after_going : Withdrawal → Resource → Resource
resource_after_going w r =
    if w.stays then resource_after_cancel w.lkid r else resource_without w.lkid r

-- ---- all of them

-- one change for each withdrawal, in order
abbrev pub resource_after_each : (Withdrawal → Resource → Resource) → List Withdrawal → Resource → Resource
resource_after_each change [] r = r
resource_after_each change (w ∷ withdrawals) r = resource_after_each change withdrawals (change w r)

-- the resource after all withdrawals: first every write, then every lock goes or stays
abbrev pub resource_after_withdrawals : List Withdrawal → Resource → Resource
resource_after_withdrawals withdrawals r =
    resource_after_each resource_after_going withdrawals
    (resource_after_each resource_after_writer withdrawals r)

-- the state after all withdrawals: the requests of these locks end, and the locks go or stay
abbrev pub state_after_withdrawals : List Withdrawal → State → State
state_after_withdrawals withdrawals s = record s {
  processes = processes_after (withdrawn_endings withdrawals s.resources) s.processes;
  resources = map (resource_after_withdrawals withdrawals) s.resources;
}
