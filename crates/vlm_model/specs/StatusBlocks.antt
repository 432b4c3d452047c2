-- The status blocks of processes.
use Rattle.std.specs.Prelude.{ℕ, Bool, List, [], map, ◌==◌, ◌-◌, nat_lt, Option, None, unwrap_or, slice_get, slice_index_or, if◌then◌else◌}
use Rattle.std.specs.Option.{option_map_or}
use Rattle.vlm_words.specs.declared.blocks.Block.{Block}
use Rattle.vlm_words.specs.declared.conditions.Cond.{Cond}
use Rattle.vlm_words.specs.declared.resources.ValueBlock.{ValueBlock}
use Rattle.vlm_words.specs.Conditions.{condition_number}
use Rattle.vlm_words.specs.ValueBlocks.{return_status}
use Rattle.vlm_words.specs.State.{Process, process_of}
use Rattle.vlm_words.specs.Processes.{new_status_block, process_with_block}

-- the status blocks of a process; block n is at index n - 1
abbrev pub status_blocks_of : List Process → ℕ → List Block
status_blocks_of processes pid = option_map_or (λ p. p.blocks) (process_of processes pid) []

-- block n of the process, if the process and the block exist
unfoldable pub status_block_at : List Process → ℕ → ℕ → Option Block
status_block_at processes pid n = if nat_lt 0 n then slice_get (status_blocks_of processes pid) (n - 1) else None

-- block n of the process; a new block if it does not exist
abbrev pub status_block_of : List Process → ℕ → ℕ → Block
status_block_of processes pid n =
    if nat_lt 0 n then slice_index_or (status_blocks_of processes pid) (n - 1) new_status_block else new_status_block

-- block n is written, if the process has this ID
unfoldable pub process_after_write : ℕ → ℕ → Block → Process → Process
process_after_write pid n block p = if p.pid == pid then process_with_block n block p else p

-- block n of this process is written, and no other process changes
abbrev pub processes_after_write : ℕ → ℕ → Block → List Process → List Process
processes_after_write pid n block processes = map (process_after_write pid n block) processes

-- a request was accepted: its block is pending for this lock, and keeps value part and tail
unfoldable pub processes_after_acceptance : ℕ → ℕ → ℕ → List Process → List Process
processes_after_acceptance pid n lkid processes =
    processes_after_write pid n (record (status_block_of processes pid n) { status = 0; lkid = lkid }) processes

-- the block with this value part, and with this tail if one is given
abbrev pub block_after_setting : List ℕ → Option (List ℕ) → Block → Block
block_after_setting value tail block = record block { value = value; tail = unwrap_or tail block.tail }

-- the value part of a block is set, and its tail if one is given
unfoldable pub processes_after_setting : ℕ → ℕ → List ℕ → Option (List ℕ) → List Process → List Process
processes_after_setting pid n value tail processes =
    processes_after_write pid n (block_after_setting value tail (status_block_of processes pid n)) processes

-- a request ended: its block gets the status, and keeps lock, value part and tail
unfoldable pub processes_after_status : ℕ → ℕ → Cond → List Process → List Process
processes_after_status pid n cond processes =
    processes_after_write pid n (record (status_block_of processes pid n) { status = condition_number cond })
    processes

-- the block after a return: the value, with wide the tail too, and the status by the marks; the lock stays
abbrev pub block_after_return : Bool → ValueBlock → Block → Block
block_after_return wide returned block = record block {
  status = condition_number (return_status wide returned);
  value = returned.value;
  tail = if wide then returned.tail else block.tail;
}

-- the value block is returned to the status block of an ended request
unfoldable pub processes_after_return : ℕ → ℕ → Bool → ValueBlock → List Process → List Process
processes_after_return pid n wide returned processes =
    processes_after_write pid n (block_after_return wide returned (status_block_of processes pid n)) processes
