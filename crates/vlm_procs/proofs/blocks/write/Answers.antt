use Rattle.std.proofs.Common.{refl}
use Rattle.vlm_words.specs.Processes.{process_with_block}
use Rattle.vlm_store.specs.Records.{changed_process}
use Rattle.vlm_store.proofs.Dues.{dues-on_stored}
use Rattle.vlm_procs.proofs.WrittenProcesses.{notices_alone, written_blocks}
use Rattle.vlm_procs.proofs.blocks.write.Goals as goal

pub returns-clause-written : goal.returns-clause-written
returns-clause-written c pid is =
    rw c.set_status_block.ensures.written
    (written_blocks c.args.store.now c.args.at pid c.args.number c.args.block c.set_status_block.ensures.sound is)

pub returns-clause-dues : goal.returns-clause-dues
returns-clause-dues c =
    rw c.set_status_block.ensures.written
    (dues-on_stored c.args.at (changed_process (process_with_block c.args.number c.args.block)) (λ x. refl) (λ x. refl) c.args.store.now)

pub returns-clause-only_notices : goal.returns-clause-only_notices
returns-clause-only_notices c =
    rw c.set_status_block.ensures.written
    (notices_alone c.args.store.now c.args.at (changed_process (process_with_block c.args.number c.args.block))
    (λ p. refl))
