use Rattle.std.proofs.Common.{Some, sym, ap, ◌∙◌}
use Rattle.std.specs.Option.{option_map}
use Rattle.slab.specs.Slab.{get}
use Rattle.vlm_collections.specs.Lists.{handles_of}
use Rattle.vlm_collections.proofs.Walks.{handle_after-in}
use Rattle.vlm_records.specs.Kin.{process_links}
use Rattle.vlm_store.specs.Holdings.{holding, process_face_in}
use Rattle.vlm_store.specs.Store.{records_of}
use Rattle.vlm_store.proofs.LivingProcesses.{process_listed}
use Rattle.vlm_store.proofs.Members.{process_after-is}
use Rattle.vlm_store.proofs.store.Store.next_process.Goals as goal

pub next-requires : goal.next-requires
next-requires c =
    rw c.slot.ensures
    (record {
      linked = c.self.invariant.processes_linked;
      listed = process_listed c.self.inside c.self.invariant c.args.at (rw (← c.self.view_is) at c.requires);
    })

pub returns-in_err-next : goal.returns-in_err-next
unfolding records_of
returns-in_err-next c =
    let s = c.self.inside in
    rw (← c.self.view_is, c.from_residual.ensures)
    (sym (process_after-is (holding s.processes s.queues.locks s.process_order) c.args.at
    ∙ ap (option_map (λ k. (process_face_in (get s.processes k)).plain)) (sym (rw c.slot.ensures at c.next.ensures)
    ∙ c.in_err-next.was)))

pub index-requires : goal.index-requires
index-requires c =
    let s = c.self.inside in
    c.self.invariant.processes_linked.present c.in_ok-next.next
    (handle_after-in c.args.at (handles_of process_links s.processes s.process_order) c.in_ok-next.next (rw c.slot.ensures at c.in_ok-next.ensures))

pub returns : goal.returns
unfolding records_of
returns c =
    let s = c.self.inside in
    rw (← c.self.view_is)
    (sym (process_after-is (holding s.processes s.queues.locks s.process_order) c.args.at
    ∙ ap (option_map (λ k. (process_face_in (get s.processes k)).plain)) (sym (rw c.slot.ensures at c.next.ensures) ∙ c.in_ok-next.was)
    ∙ ap (λ slot. Some (process_face_in slot).plain) c.index.ensures))
