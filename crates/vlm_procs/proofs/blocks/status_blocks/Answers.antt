use Rattle.std.proofs.Common.{◌∙◌}
use Rattle.vlm_procs.proofs.WrittenProcesses.{blocks_are}
use Rattle.vlm_procs.proofs.blocks.status_blocks.Goals as goal

pub returns : goal.returns
returns c pid is =
    c.deref.ensures.value
    ∙ blocks_are c.args.store.now c.args.at pid c.process_record.result.now.blocks.items c.process_record.ensures.sound is c.process_record.ensures.blocks
