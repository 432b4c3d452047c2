use Rattle.std.proofs.Common.{◌<◌, ap, subst}
use Rattle.vlm_records.specs.Kin.{process_links}
use Rattle.vlm_records.specs.declared.processes.Process.{Process}
use Rattle.vlm_store.specs.Holdings.{faced, process_face, process_face_in}
use Rattle.vlm_store.specs.Records.{with_owed_ast}
use Rattle.vlm_store.proofs.LivingProcesses.{is_sound, process_is, process_there}
use Rattle.vlm_store.proofs.MarkedProcesses.{told_of}
use Rattle.vlm_store.proofs.ProcessRewritten.{rewritten_shown, written_kept}
use Rattle.vlm_store.specs.Kept.{records_shown}
use Rattle.vlm_store.proofs.Dues.{owed_there}
use Rattle.vlm_store.proofs.store.Store.queue_ast.Goals as goal

pub index_mut-requires : goal.index_mut-requires
index_mut-requires c = rw c.slot.ensures (process_there c.self.inside c.self.invariant c.args.at (rw (← c.self.view_is) at c.requires.there))

pub queue_ast-requires-clause-told : goal.queue_ast-requires-clause-told
queue_ast-requires-clause-told c =
    told_of c.self.inside.processes c.self.inside.pending c.args.at c.index_mut.result.now
    (rw c.slot.ensures at c.index_mut.ensures.value) c.self.invariant.marked

pub queue_ast-requires-clause-owed : goal.queue_ast-requires-clause-owed
queue_ast-requires-clause-owed c =
    let there = rw (← c.self.view_is) at c.requires.there in
    let owed = rw (process_is c.self.inside c.self.invariant c.args.at there) at
    (owed_there c.args.at 1 (records_shown c.self.inside) (is_sound c.self.inside c.self.invariant)
    (rw (← c.self.view_is) at c.requires.owed)) in
    subst (λ slot. 0 < (process_face_in slot).due) (rw c.slot.ensures at c.index_mut.ensures.value) owed

pub invariant_of-self : goal.invariant_of-self
invariant_of-self c =
    let queued = c.queue_ast.ensures.queued in
    rw c.slot.ensures
    (written_kept c.self.inside c.self.invariant c.args.at c.index_mut.result.now c.queue_ast.new.self (rw c.slot.ensures at c.index_mut.ensures.value)
    (ap (λ (p : Process). p.own) queued) (ap process_links queued) (ap (λ (p : Process). p.pid) queued)
    c.queue_ast.new.pending c.queue_ast.ensures.told c.queue_ast.ensures.others)

pub returns-clause-queued : goal.returns-clause-queued
returns-clause-queued c =
    let queued = c.queue_ast.ensures.queued in
    rw (← c.self.view_is, c.slot.ensures)
    (rewritten_shown c.self.inside c.self.invariant c.args.at c.index_mut.result.now c.queue_ast.new.self (rw c.slot.ensures at c.index_mut.ensures.value)
    (ap (λ (p : Process). p.own) queued) (ap process_links queued) (ap (λ (p : Process). p.pid) queued)
    (with_owed_ast c.args.ast) (λ locks. ap (λ (p : Process). faced c.args.at (process_face p) locks) queued))

pub returns-clause-sound : goal.returns-clause-sound
returns-clause-sound c = rw (← c.self.view_is) (is_sound c.self.inside c.self.invariant)
