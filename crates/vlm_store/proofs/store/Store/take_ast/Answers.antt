use Rattle.std.proofs.Common.{◌∙◌, List, sym, ap}
use Rattle.vlm_words.specs.declared.asts.Ast.{Ast}
use Rattle.vlm_words.specs.Processes.{oldest, without_oldest_ast}
use Rattle.vlm_records.specs.declared.processes.Process.{Process}
use Rattle.vlm_records.specs.Kin.{plain_process, process_links}
use Rattle.vlm_store.specs.Holdings.{process_face_in}
use Rattle.vlm_store.specs.Records.{changed_process}
use Rattle.vlm_store.proofs.LivingProcesses.{is_sound, process_is, process_there}
use Rattle.vlm_store.proofs.MarkedProcesses.{told_of}
use Rattle.vlm_store.proofs.ProcessRewritten.{changed_face, rewritten_shown, written_kept}
use Rattle.vlm_store.proofs.store.Store.take_ast.Goals as goal

pub index_mut-requires : goal.index_mut-requires
index_mut-requires c = rw c.slot.ensures (process_there c.self.inside c.self.invariant c.args.at (rw (← c.self.view_is) at c.requires))

pub take_ast-requires : goal.take_ast-requires
take_ast-requires c =
    told_of c.self.inside.processes c.self.inside.pending c.args.at c.index_mut.result.now
    (rw c.slot.ensures at c.index_mut.ensures.value) c.self.invariant.marked

pub invariant_of-self : goal.invariant_of-self
invariant_of-self c =
    let rest = c.take_ast.ensures.rest in
    rw c.slot.ensures
    (written_kept c.self.inside c.self.invariant c.args.at c.index_mut.result.now c.take_ast.new.self (rw c.slot.ensures at c.index_mut.ensures.value)
    (ap (λ (p : Process). p.own) rest) (ap process_links rest) (ap (λ (p : Process). p.pid) rest)
    c.take_ast.new.pending c.take_ast.ensures.told c.take_ast.ensures.others)

pub returns-clause-taken : goal.returns-clause-taken
returns-clause-taken c =
    rw (← c.self.view_is, process_is c.self.inside c.self.invariant c.args.at (rw (← c.self.view_is) at c.requires))
    (c.take_ast.ensures.taken ∙ sym (ap (λ slot. oldest (process_face_in slot).plain.asts) (rw c.slot.ensures at c.index_mut.ensures.value)))

pub returns-clause-left : goal.returns-clause-left
returns-clause-left c =
    let was = c.index_mut.result.now in
    let now = c.take_ast.new.self in
    let rest = c.take_ast.ensures.rest in
    rw (← c.self.view_is, c.slot.ensures)
    (rewritten_shown c.self.inside c.self.invariant c.args.at was now (rw c.slot.ensures at c.index_mut.ensures.value)
    (ap (λ (p : Process). p.own) rest) (ap process_links rest) (ap (λ (p : Process). p.pid) rest)
    (changed_process without_oldest_ast)
    (changed_face without_oldest_ast was now
    (ap plain_process rest ∙ ap (λ (asts : List Ast). record (plain_process was) { asts = asts }) c.take_ast.ensures.left) c.take_ast.ensures.due c.args.at))

pub returns-clause-sound : goal.returns-clause-sound
returns-clause-sound c = rw (← c.self.view_is) (is_sound c.self.inside c.self.invariant)
