use Rattle.std.proofs.Common.{refl}
use Rattle.vlm_words.specs.Conditions.{condition_number}
use Rattle.vlm_model.specs.StatusBlocks.{processes_after_status}
use Rattle.vlm_records.specs.StatusBlocks.{with_status, with_changed_block}
use Rattle.vlm_store.specs.Records.{changed_process}
use Rattle.vlm_store.proofs.Dues.{dues-on_stored}
use Rattle.vlm_procs.proofs.WrittenProcesses.{changed_block, notices_alone}
use Rattle.vlm_procs.proofs.blocks.end.Goals as goal

pub returns-clause-written : goal.returns-clause-written
unfolding processes_after_status
returns-clause-written c pid is =
    rw (c.set_status.ensures.written, c.number.ensures)
    (changed_block c.args.store.now c.args.at pid c.args.number
    (with_status (condition_number c.args.cond)) c.set_status.ensures.sound is)

pub returns-clause-dues : goal.returns-clause-dues
returns-clause-dues c =
    rw c.set_status.ensures.written
    (dues-on_stored c.args.at (changed_process (with_changed_block c.args.number (with_status c.number.result))) (λ x. refl) (λ x. refl) c.args.store.now)

pub returns-clause-only_notices : goal.returns-clause-only_notices
returns-clause-only_notices c =
    rw c.set_status.ensures.written
    (notices_alone c.args.store.now c.args.at
    (changed_process (with_changed_block c.args.number (with_status c.number.result))) (λ p. refl))
