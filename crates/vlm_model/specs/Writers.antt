-- The law that only writers change value blocks.
use Rattle.std.specs.Prelude.{◌≡◌, ◌≢◌, ◌⊎◌, ◌-◌, ◌/◌, ◌++◌, ℕ, Bool, true, false, List, replicate, slice_index_or, All, Any, Option, None, Some}
use Rattle.vlm_words.specs.declared.blocks.Block.{Block}
use Rattle.vlm_words.specs.declared.locks.Request.{Request}
use Rattle.vlm_words.specs.declared.locks.LockState.{LockState}
use Rattle.vlm_words.specs.declared.modes.Mode.TheVariants.{Pw, Ex}
use Rattle.vlm_words.specs.declared.modes.Mode.{Mode}
use Rattle.vlm_words.specs.declared.resources.ValueBlock.{ValueBlock}
use Rattle.vlm_words.specs.declared.steps.Step.TheVariants.{Convert, Deq, Rundown, Leave}
use Rattle.vlm_words.specs.declared.steps.Step.{Step}
use Rattle.vlm_words.specs.Flags.{cancel, has_flag, invvalblk, valblk, wide}
use Rattle.vlm_words.specs.State.{Process, Resource, State, process_of}
use Rattle.vlm_model.specs.Checks.{named_lkid}
use Rattle.vlm_model.specs.Dequeue.{dequeued_lkids}
use Rattle.vlm_model.specs.Written.{blank_block}
use Rattle.vlm_model.specs.Stepped.{stepped}

-- what is held is PW or EX
abbrev pub IsWriter : Option Request → Type 0
IsWriter None = ⊥
IsWriter (Some held) = (held.mode ≡ Pw) ⊎ (held.mode ≡ Ex)

-- a conversion from the held mode writes: from PW to another mode than EX, or from EX
abbrev pub WritesFrom : Option Request → Mode → Type 0
WritesFrom None mode = ⊥
WritesFrom (Some held) mode = ((held.mode ≡ Pw) × (mode ≢ Ex)) ⊎ (held.mode ≡ Ex)

-- the lock holds PW or EX on the resource, granted or converting
abbrev pub IsHeldByWriter : Resource → ℕ → Type 0
IsHeldByWriter r lkid = Any (λ row. (row.lkid ≡ lkid) × IsWriter row.held) (r.granted ++ r.converting)

-- some lock of one of these processes holds PW or EX on the resource
abbrev pub HasWriterOf : (ℕ → Type 0) → Resource → Type 0
HasWriterOf IsOne r = Any (λ row. IsOne row.pid × IsWriter row.held) (r.granted ++ r.converting)

-- the step writes the value block: by a conversion with VALBLK, or as a lock that holds PW or EX is given up or its
-- process ends
abbrev pub WritesValue : State → Step → Resource → Type 0
WritesValue s (Convert c) r =
    (has_flag c.flags valblk ≡ true)
    × Any (λ row. (row.lkid ≡ named_lkid s c.pid c.lock) × WritesFrom row.held c.mode) r.granted
WritesValue s (Deq d) r = (has_flag d.flags cancel ≡ false) × Any (IsHeldByWriter r) (dequeued_lkids s d)
WritesValue s (Rundown pid) r = HasWriterOf (λ owner. owner ≡ pid) r
WritesValue s (Leave node) r = HasWriterOf (λ owner. owner / 65536 ≡ node) r
WritesValue s step r = ⊥

-- a write of 64 bytes: all are valid
pub record IsWrittenWide (bytes more : List ℕ) (after : ValueBlock) : Type 0 where
  pub value : after.value ≡ bytes
  pub valid : after.valid ≡ true
  pub tail : after.tail ≡ more
  pub tail_valid : after.tail_valid ≡ true

-- a write of 16 bytes: they are valid, and the tail keeps its bytes and is invalid
pub record IsWrittenShort (bytes : List ℕ) (before after : ValueBlock) : Type 0 where
  pub value : after.value ≡ bytes
  pub valid : after.valid ≡ true
  pub tail : after.tail ≡ before.tail
  pub tail_valid : after.tail_valid ≡ false

-- all 64 bytes are these, and invalid
pub record IsInvalid (bytes more : List ℕ) (after : ValueBlock) : Type 0 where
  pub value : after.value ≡ bytes
  pub valid : after.valid ≡ false
  pub tail : after.tail ≡ more
  pub tail_valid : after.tail_valid ≡ false

-- what a dequeue writes: a given value with or without a tail, or nothing; with INVVALBLK all of it is then invalid
abbrev pub LeavesValue : Option (List ℕ) → Option (List ℕ) → Bool → ValueBlock → ValueBlock → Type 0
LeavesValue (Some value) (Some tail) false before after = IsWrittenWide value tail after
LeavesValue (Some value) (Some tail) true before after = IsInvalid value tail after
LeavesValue (Some value) None false before after = IsWrittenShort value before after
LeavesValue (Some value) None true before after = IsInvalid value before.tail after
LeavesValue None tail false before after = after ≡ before
LeavesValue None tail true before after = IsInvalid before.value before.tail after

-- what a conversion writes: the value part, with WIDE the tail too
abbrev pub IsWrittenFrom : Bool → Block → ValueBlock → ValueBlock → Type 0
IsWrittenFrom true from before after = IsWrittenWide from.value from.tail after
IsWrittenFrom false from before after = IsWrittenShort from.value before after

-- what a writing step makes of the value block
abbrev pub IsWrittenValue : State → Step → ValueBlock → ValueBlock → Type 0
IsWrittenValue s (Convert c) before after = (p : Process) → process_of s.processes c.pid ≡ Some p
    → IsWrittenFrom (has_flag c.flags wide) (slice_index_or p.blocks (c.block - 1) blank_block) before after
IsWrittenValue s (Deq d) before after = LeavesValue d.value d.tail (has_flag d.flags invvalblk) before after
IsWrittenValue s (Rundown pid) before after = LeavesValue None None true before after
IsWrittenValue s (Leave node) before after = LeavesValue None None true before after
IsWrittenValue s step before after = ⊥

-- the resource existed, and its value block is as the step writes it, or unchanged
pub record HasItsValue (s : State) (step : Step) (before after : Resource) : Type 0 where
  pub serial : after.serial ≡ before.serial
  pub written :
      WritesValue s step before → IsWrittenValue s step before.value_block after.value_block
  pub kept : (WritesValue s step before → ⊥) → after.value_block ≡ before.value_block

-- the resource is new, and its value block is zeros, all valid
pub record HasNewValue (s : State) (after : Resource) : Type 0 where
  pub made : All (λ before. before.serial ≢ after.serial) s.resources
  pub zeros : after.value_block.value ≡ replicate 16 0
  pub valid : after.value_block.valid ≡ true
  pub tail_zeros : after.value_block.tail ≡ replicate 48 0
  pub tail_valid : after.value_block.tail_valid ≡ true

-- only a step whose own lock holds PW or EX changes a value block
abbrev pub OnlyWritersChangeValues : State → Step → Option LockState → Type 0
OnlyWritersChangeValues old step choice =
    All (λ after. Any (λ before. HasItsValue old step before after) old.resources ⊎ HasNewValue old after)
    (stepped old step choice).state.resources
