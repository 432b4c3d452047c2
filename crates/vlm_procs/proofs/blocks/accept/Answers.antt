use Rattle.std.proofs.Common.{refl}
use Rattle.vlm_model.specs.StatusBlocks.{processes_after_acceptance}
use Rattle.vlm_records.specs.StatusBlocks.{requested, with_changed_block}
use Rattle.vlm_store.specs.Records.{changed_process}
use Rattle.vlm_store.proofs.Dues.{dues-on_stored}
use Rattle.vlm_procs.proofs.WrittenProcesses.{changed_block, notices_alone}
use Rattle.vlm_procs.proofs.blocks.accept.Goals as goal

pub returns-clause-written : goal.returns-clause-written
unfolding processes_after_acceptance
returns-clause-written c pid is =
    rw c.set_request.ensures.written
    (changed_block c.args.store.now c.args.at pid c.args.number
    (requested 0 c.args.lkid) c.set_request.ensures.sound is)

pub returns-clause-dues : goal.returns-clause-dues
returns-clause-dues c =
    rw c.set_request.ensures.written
    (dues-on_stored c.args.at (changed_process (with_changed_block c.args.number (requested 0 c.args.lkid))) (λ x. refl) (λ x. refl) c.args.store.now)

pub returns-clause-only_notices : goal.returns-clause-only_notices
returns-clause-only_notices c =
    rw c.set_request.ensures.written
    (notices_alone c.args.store.now c.args.at
    (changed_process (with_changed_block c.args.number (requested 0 c.args.lkid))) (λ p. refl))
