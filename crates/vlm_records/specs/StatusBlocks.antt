-- Changes of a status block in its place.
use Rattle.std.specs.Prelude.{ℕ, ◌-◌, List, nat_lt, slice_index_or, if◌then◌else◌}
use Rattle.vlm_words.specs.declared.blocks.Block.{Block}
use Rattle.vlm_words.specs.State.{Process}
use Rattle.vlm_words.specs.Processes.{new_status_block, process_with_block}

-- block n, numbered from 1; a new block if it does not exist
abbrev pub block_or_new : ℕ → List Block → Block
block_or_new n blocks = if nat_lt 0 n then slice_index_or blocks (n - 1) new_status_block else new_status_block

-- the process with its block n changed, if it has one
abbrev pub with_changed_block : ℕ → (Block → Block) → Process → Process
with_changed_block n change p = process_with_block n (change (block_or_new n p.blocks)) p

-- the block with this status; the rest stays
abbrev pub with_status : ℕ → Block → Block
with_status status block = record block { status = status }

-- the block with this status and this lock; value part and tail stay
abbrev pub requested : ℕ → ℕ → Block → Block
requested status lkid block = record block { status = status; lkid = lkid }
