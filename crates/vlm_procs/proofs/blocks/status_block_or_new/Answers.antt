use Rattle.std.proofs.Common.{◌∙◌, ap}
use Rattle.std.specs.Prelude.{unwrap_or}
use Rattle.vlm_words.specs.declared.blocks.Block.{Block}
use Rattle.vlm_procs.proofs.WrittenProcesses.{block_or_new}
use Rattle.vlm_store.specs.Plain.{plain_processes}
use Rattle.vlm_procs.proofs.blocks.status_block_or_new.Goals as goal

pub returns : goal.returns
returns c pid is =
    c.unwrap_or.ensures ∙ ap (λ (block : Block). unwrap_or c.status_block.result block) c.new.ensures
    ∙ block_or_new c.status_block.result (plain_processes c.args.store.now) pid c.args.number (c.status_block.ensures pid is)
