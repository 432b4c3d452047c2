use Rattle.vlm_store.proofs.LivingProcesses.{is_sound}
use Rattle.std.proofs.Common.{◌∙◌, ap, subst, sym}
use Rattle.vlm_collections.specs.Lists.{IsLinked, first_handle}
use Rattle.vlm_collections.proofs.Walks.{first_handle-in}
use Rattle.vlm_records.specs.Armed.{armed_links, armed_list_handles, armed_list_in}
use Rattle.vlm_store.specs.Records.{first_at}
use Rattle.vlm_records.specs.Shown.{rows}
use Rattle.vlm_store.proofs.ArmedSeen.{armed_listed, armed_shown, resource_is_there}
use Rattle.vlm_store.proofs.Layouts.{under_handle-first}
use Rattle.vlm_store.proofs.store.Store.first_armed.Goals as goal

pub index-requires : goal.index-requires
index-requires c = rw c.slot.ensures (resource_is_there c.self.inside c.self.invariant c.args.res (rw (← c.self.view_is) at c.requires))

pub first_armed-requires : goal.first_armed-requires
first_armed-requires c =
    subst (IsLinked (armed_links c.args.which) c.self.inside.queues.locks) (ap (armed_list_in c.args.which) (rw c.slot.ensures at c.index.ensures))
    ((c.self.invariant.armed c.args.which).linked c.args.res)

pub of-requires : goal.of-requires
of-requires c =
    let s = c.self.inside in
    let listed = armed_listed s c.self.invariant c.args.res
    (rw (← c.self.view_is) at c.requires) c.args.which c.index.result.now (rw c.slot.ensures at c.index.ensures) in
    ((c.self.invariant.armed c.args.which).linked c.args.res).within c.in_ok-at.at
    (first_handle-in (armed_list_handles c.args.which s.queues c.args.res) c.in_ok-at.at (c.in_ok-at.ensures
    ∙ ap first_handle listed))

pub returns-clause-first : goal.returns-clause-first
returns-clause-first c =
    let s = c.self.inside in
    let has = rw (← c.self.view_is) at c.requires in
    let listed = armed_listed s c.self.invariant c.args.res has c.args.which c.index.result.now (rw c.slot.ensures at c.index.ensures) in
    rw (← c.self.view_is, c.of.ensures)
    (c.in_ok-at.ensures ∙ ap first_handle listed
    ∙ sym (ap first_at (armed_shown s c.self.invariant c.args.res has c.args.which)
    ∙ under_handle-first (rows s.queues) (armed_list_handles c.args.which s.queues c.args.res)))

pub returns-in_err-at-clause-first : goal.returns-in_err-at-clause-first
returns-in_err-at-clause-first c =
    let s = c.self.inside in
    let has = rw (← c.self.view_is) at c.requires in
    let listed = armed_listed s c.self.invariant c.args.res has c.args.which c.index.result.now (rw c.slot.ensures at c.index.ensures) in
    rw (← c.self.view_is)
    (c.from_residual.ensures ∙ c.in_err-at.ensures ∙ ap first_handle listed
    ∙ sym (ap first_at (armed_shown s c.self.invariant c.args.res has c.args.which)
    ∙ under_handle-first (rows s.queues) (armed_list_handles c.args.which s.queues c.args.res)))

pub returns-clause-sound : goal.returns-clause-sound
returns-clause-sound c = rw (← c.self.view_is) (is_sound c.self.inside c.self.invariant)

pub returns-in_err-at-clause-sound : goal.returns-in_err-at-clause-sound
returns-in_err-at-clause-sound c = rw (← c.self.view_is) (is_sound c.self.inside c.self.invariant)
