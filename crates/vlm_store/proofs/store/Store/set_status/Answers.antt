use Rattle.std.proofs.Common.{ap}
use Rattle.vlm_words.specs.State.{Process as PlainProcess}
use Rattle.vlm_records.specs.StatusBlocks.{with_changed_block, with_status}
use Rattle.vlm_store.specs.Records.{changed_process}
use Rattle.vlm_store.proofs.LivingProcesses.{is_sound, process_there}
use Rattle.vlm_store.proofs.ProcessRewritten.{changed_face, rewritten_kept, rewritten_shown}
use Rattle.vlm_store.proofs.store.Store.set_status.Goals as goal

pub index_mut-requires : goal.index_mut-requires
index_mut-requires c = rw c.slot.ensures (process_there c.self.inside c.self.invariant c.args.at (rw (← c.self.view_is) at c.requires))

pub invariant_of-self : goal.invariant_of-self
invariant_of-self c =
    let put = c.set_status.ensures in
    rw c.slot.ensures
    (rewritten_kept c.self.inside c.self.invariant c.args.at c.index_mut.result.now c.set_status.new.self (rw c.slot.ensures at c.index_mut.ensures.value)
    put.own put.order (ap (λ (p : PlainProcess). p.pid) put.plain) (ap (λ (p : PlainProcess). p.asts) put.plain))

pub returns-clause-written : goal.returns-clause-written
returns-clause-written c =
    let put = c.set_status.ensures in
    rw (← c.self.view_is, c.slot.ensures)
    (rewritten_shown c.self.inside c.self.invariant c.args.at c.index_mut.result.now c.set_status.new.self (rw c.slot.ensures at c.index_mut.ensures.value)
    put.own put.order (ap (λ (p : PlainProcess). p.pid) put.plain) (changed_process (with_changed_block c.args.number (with_status c.args.status)))
    (changed_face (with_changed_block c.args.number (with_status c.args.status)) c.index_mut.result.now c.set_status.new.self put.plain put.due c.args.at))

pub returns-clause-sound : goal.returns-clause-sound
returns-clause-sound c = rw (← c.self.view_is) (is_sound c.self.inside c.self.invariant)
