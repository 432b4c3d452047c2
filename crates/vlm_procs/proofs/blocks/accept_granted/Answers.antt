use Rattle.std.proofs.Common.{refl, ◌∙◌}
use Rattle.vlm_words.specs.declared.conditions.Cond.TheVariants.{Normal}
use Rattle.vlm_words.specs.Conditions.{condition_number}
use Rattle.vlm_model.specs.StatusBlocks.{processes_after_acceptance, processes_after_status}
use Rattle.vlm_records.specs.StatusBlocks.{requested, with_changed_block, with_status}
use Rattle.vlm_store.specs.Records.{changed_process}
use Rattle.vlm_store.proofs.Dues.{dues-on_stored}
use Rattle.vlm_procs.proofs.WrittenTwice.{written_at_once}
use Rattle.vlm_procs.proofs.WrittenProcesses.{changed_block, notices_alone}
use Rattle.vlm_procs.proofs.blocks.accept_granted.Goals as goal

-- the one write is that of the acceptance, and then that of the status
pub returns-clause-written : goal.returns-clause-written
unfolding processes_after_acceptance processes_after_status
returns-clause-written c pid is =
    let s = c.args.store.now in
    let sound = c.set_request.ensures.sound in
    rw (c.set_request.ensures.written, c.number.ensures)
    (changed_block s c.args.at pid c.args.number (requested (condition_number Normal) c.args.lkid) sound is
    ∙ written_at_once s c.args.at pid c.args.number (with_status (condition_number Normal)) (requested 0 c.args.lkid) sound is)

pub returns-clause-dues : goal.returns-clause-dues
returns-clause-dues c =
    rw c.set_request.ensures.written
    (dues-on_stored c.args.at
    (changed_process (with_changed_block c.args.number (requested c.number.result c.args.lkid))) (λ x. refl)
    (λ x. refl) c.args.store.now)

pub returns-clause-only_notices : goal.returns-clause-only_notices
returns-clause-only_notices c =
    rw c.set_request.ensures.written
    (notices_alone c.args.store.now c.args.at
    (changed_process (with_changed_block c.args.number (requested c.number.result c.args.lkid))) (λ p. refl))
