-- The value block of a resource.
use Rattle.std.specs.Prelude.{ℕ, Bool, true, false, not, ◌&&◌, List, replicate, Option, None, Some, is_some, unwrap_or, if◌then◌else◌}
use Rattle.vlm_words.specs.declared.blocks.Block.{Block}
use Rattle.vlm_words.specs.declared.conditions.Cond.TheVariants.{Normal, Valnotvalid, Widenotvalid}
use Rattle.vlm_words.specs.declared.conditions.Cond.{Cond}
use Rattle.vlm_words.specs.declared.resources.ValueBlock.{ValueBlock}

-- a new value block: zeros, all valid
abbrev pub new_value_block : ValueBlock
new_value_block = record { value = replicate 16 0; valid = true; tail = replicate 48 0; tail_valid = true }

-- the status of a return: VALNOTVALID if the value is invalid, else WIDENOTVALID for a wide return if the tail is
-- invalid
abbrev pub return_status : Bool → ValueBlock → Cond
return_status wide returned =
    if not returned.valid then Valnotvalid
    else (if wide && not returned.tail_valid then Widenotvalid else Normal)

-- a write: the value is valid, and so is a given tail; without one the tail keeps its bytes and is invalid
abbrev pub written_value_block : List ℕ → Option (List ℕ) → ValueBlock → ValueBlock
written_value_block value tail old = record {
  value = value;
  valid = true;
  tail = unwrap_or tail old.tail;
  tail_valid = is_some tail;
}

-- a write from a status block: its value part, with wide its tail too
abbrev pub value_block_written_from : Bool → Block → ValueBlock → ValueBlock
value_block_written_from wide from old =
    written_value_block from.value (if wide then Some from.tail else None) old

-- the value block with value and tail marked invalid
abbrev pub invalid_value_block : ValueBlock → ValueBlock
invalid_value_block block = record block { valid = false; tail_valid = false }
