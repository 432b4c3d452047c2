use Rattle.std.proofs.Common.{ap}
use Rattle.vlm_words.specs.State.{Process as PlainProcess}
use Rattle.vlm_words.specs.Processes.{process_with_block}
use Rattle.vlm_store.specs.Records.{changed_process}
use Rattle.vlm_store.proofs.LivingProcesses.{is_sound, process_there}
use Rattle.vlm_store.proofs.ProcessRewritten.{changed_face, rewritten_kept, rewritten_shown}
use Rattle.vlm_store.proofs.store.Store.set_status_block.Goals as goal

pub index_mut-requires : goal.index_mut-requires
index_mut-requires c = rw c.slot.ensures (process_there c.self.inside c.self.invariant c.args.at (rw (← c.self.view_is) at c.requires))

pub invariant_of-self : goal.invariant_of-self
invariant_of-self c =
    let put = c.put_status_block.ensures in
    rw c.slot.ensures
    (rewritten_kept c.self.inside c.self.invariant c.args.at c.index_mut.result.now c.put_status_block.new.self (rw c.slot.ensures at c.index_mut.ensures.value)
    put.own put.order (ap (λ (p : PlainProcess). p.pid) put.plain) (ap (λ (p : PlainProcess). p.asts) put.plain))

pub returns-clause-written : goal.returns-clause-written
returns-clause-written c =
    let put = c.put_status_block.ensures in
    rw (← c.self.view_is, c.slot.ensures)
    (rewritten_shown c.self.inside c.self.invariant c.args.at c.index_mut.result.now c.put_status_block.new.self
    (rw c.slot.ensures at c.index_mut.ensures.value)
    put.own put.order (ap (λ (p : PlainProcess). p.pid) put.plain) (changed_process (process_with_block c.args.number c.args.block))
    (changed_face (process_with_block c.args.number c.args.block) c.index_mut.result.now c.put_status_block.new.self put.plain put.due c.args.at))

pub returns-clause-sound : goal.returns-clause-sound
returns-clause-sound c = rw (← c.self.view_is) (is_sound c.self.inside c.self.invariant)
