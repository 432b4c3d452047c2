use Rattle.std.proofs.Common.{Some, sym, ap, ◌∙◌}
use Rattle.std.specs.Option.{option_map}
use Rattle.slab.specs.Slab.{get}
use Rattle.vlm_collections.specs.Lists.{handles_of}
use Rattle.vlm_collections.proofs.Walks.{handle_index-in}
use Rattle.vlm_records.specs.Kin.{process_links}
use Rattle.vlm_store.specs.Holdings.{holding, process_face_in}
use Rattle.vlm_store.specs.Store.{records_of}
use Rattle.vlm_store.proofs.Members.{process_at-index}
use Rattle.vlm_store.proofs.store.Store.nth_process.Goals as goal

pub returns-in_err-at : goal.returns-in_err-at
unfolding records_of
returns-in_err-at c =
    let s = c.self.inside in
    rw (← c.self.view_is, c.from_residual.ensures)
    (sym (process_at-index (holding s.processes s.queues.locks s.process_order) c.args.index
    ∙ ap (option_map (λ at. (process_face_in (get s.processes at)).plain)) (sym c.nth.ensures ∙ c.in_err-at.was)))

pub index-requires : goal.index-requires
index-requires c =
    let s = c.self.inside in
    c.self.invariant.processes_linked.present c.in_ok-at.at
    (handle_index-in c.args.index (handles_of process_links s.processes s.process_order) c.in_ok-at.at
    (sym c.nth.ensures ∙ c.in_ok-at.was))

pub returns : goal.returns
unfolding records_of
returns c =
    let s = c.self.inside in
    rw (← c.self.view_is)
    (sym (process_at-index (holding s.processes s.queues.locks s.process_order) c.args.index
    ∙ ap (option_map (λ at. (process_face_in (get s.processes at)).plain)) (sym c.nth.ensures ∙ c.in_ok-at.was)
    ∙ ap (λ slot. Some (process_face_in slot).plain) c.index.ensures))
