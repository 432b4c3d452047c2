-- The effects of endings: status blocks, the resource's value block, completion ASTs.
use Rattle.std.specs.Prelude.{Bool, List, [], ◌∷◌, Option, None, Some}
use Rattle.vlm_words.specs.declared.conditions.Cond.TheVariants.{Normal}
use Rattle.vlm_words.specs.declared.conditions.Cond.{Cond}
use Rattle.vlm_words.specs.declared.modes.Act.TheVariants.{Nothing, Return, Write}
use Rattle.vlm_words.specs.declared.modes.Act.{Act}
use Rattle.vlm_words.specs.declared.resources.ValueBlock.{ValueBlock}
use Rattle.vlm_words.specs.declared.locks.Request.{Request}
use Rattle.vlm_words.specs.Flags.{flag_bits, has_flag, wide}
use Rattle.vlm_words.specs.ValueBlocks.{value_block_written_from}
use Rattle.vlm_words.specs.State.{Process, Resource}
use Rattle.vlm_model.specs.StatusBlocks.{processes_after_return, processes_after_status, status_block_of}
use Rattle.vlm_model.specs.Endings.{Ending, How, ending_status}
use Rattle.vlm_model.specs.Asts.{Queued, completions, processes_after_asts}
use Rattle.vlm_model.specs.Endings.How.{by_abort, by_cancel, by_deadlock, by_grant, by_rundown}

-- what endings on one resource change: its value block, and the status blocks and ASTs of processes
pub record Blocks : Type 0 where
  pub value_block : ValueBlock
  pub processes : List Process

-- a value block and these processes
abbrev pub blocks_with : ValueBlock → List Process → Blocks
blocks_with value_block processes = record { value_block = value_block; processes = processes }

-- the resource with this value block
abbrev pub with_value_block : ValueBlock → Resource → Resource
with_value_block value_block r = record r { value_block = value_block }

-- an ending writes this status to its status block; without a status it writes nothing
abbrev pub blocks_after_status : Ending → Option Cond → Blocks → Blocks
blocks_after_status ending None b = b
blocks_after_status ending (Some cond) b =
    record b { processes = processes_after_status ending.pid ending.request.block cond b.processes }

-- the request has WIDE: it is for all 64 bytes
abbrev pub is_wide : Request → Bool
is_wide request = has_flag (flag_bits request.flags) wide

-- a grant returns the value block to its status block, valid or not, with WIDE the tail too
unfoldable pub blocks_after_return : Ending → Blocks → Blocks
blocks_after_return ending b =
    record b {
      processes = processes_after_return ending.pid ending.request.block
          (is_wide ending.request) b.value_block b.processes;
    }

-- a grant writes the value block from its status block
unfoldable pub blocks_after_writing : Ending → Blocks → Blocks
blocks_after_writing ending b = record {
  value_block =
      value_block_written_from (is_wide ending.request)
      (status_block_of b.processes ending.pid ending.request.block) b.value_block;
  processes = processes_after_status ending.pid ending.request.block Normal b.processes;
}

-- a grant, by what it does with the value block
abbrev pub blocks_after_grant : Act → Ending → Blocks → Blocks
blocks_after_grant Nothing ending b = blocks_after_status ending (Some Normal) b
blocks_after_grant Return ending b = blocks_after_return ending b
blocks_after_grant Write ending b = blocks_after_writing ending b

-- an ending; only a grant touches the value block
abbrev pub blocks_after_end : How → Ending → Blocks → Blocks
blocks_after_end (by_grant act) ending b = blocks_after_grant act ending b
blocks_after_end by_abort ending b = blocks_after_status ending (ending_status by_abort) b
blocks_after_end by_cancel ending b = blocks_after_status ending (ending_status by_cancel) b
blocks_after_end by_deadlock ending b = blocks_after_status ending (ending_status by_deadlock) b
blocks_after_end by_rundown ending b = blocks_after_status ending (ending_status by_rundown) b

-- ASTs are queued, and no block changes
abbrev pub blocks_after_asts : List Queued → Blocks → Blocks
blocks_after_asts queued b = record b { processes = processes_after_asts queued b.processes }

-- a request ends, and its completion AST is queued
abbrev pub blocks_after_ending : Ending → Blocks → Blocks
blocks_after_ending ending b =
    blocks_after_asts (completions ending) (blocks_after_end ending.how ending b)

-- several requests of one resource end, in order
abbrev pub blocks_after : List Ending → Blocks → Blocks
blocks_after [] b = b
blocks_after (ending ∷ endings) b = blocks_after endings (blocks_after_ending ending b)
