use Rattle.std.proofs.Common.{◌∙◌, ap, subst, sym}
use Rattle.vlm_collections.specs.Lists.{Lists, handle_after}
use Rattle.vlm_collections.proofs.Walks.{handle_after-in}
use Rattle.vlm_records.specs.Armed.{armed_links, armed_list_handles, armed_list_in}
use Rattle.vlm_store.specs.Records.{at_after}
use Rattle.vlm_records.specs.Shown.{rows}
use Rattle.vlm_store.proofs.ArmedSeen.{armed_at_listed, armed_listed, armed_shown, resource_is_there}
use Rattle.vlm_store.proofs.Layouts.{under_handle-after}
use Rattle.vlm_store.proofs.store.Store.next_armed.Goals as goal

pub index-resource-requires : goal.index-resource-requires
index-resource-requires c = rw c.slot.ensures (resource_is_there c.self.inside c.self.invariant c.args.res (rw (← c.self.view_is) at c.requires.there))

pub next_armed-requires : goal.next_armed-requires
next_armed-requires c =
    let s = c.self.inside in
    let has = rw (← c.self.view_is) at c.requires.there in
    rw c.slot-2.ensures
    (subst (λ l. Lists (armed_links c.args.which) s.queues.locks l c.args.lock)
    (ap (armed_list_in c.args.which) (rw c.slot.ensures at c.index-resource.ensures))
    (record {
      linked = (c.self.invariant.armed c.args.which).linked c.args.res;
      listed = armed_at_listed s c.self.invariant c.args.res has c.args.which c.args.lock (rw (← c.self.view_is) at c.requires.armed);
    }))

pub of-requires : goal.of-requires
of-requires c =
    let s = c.self.inside in
    let listed = armed_listed s c.self.invariant c.args.res
    (rw (← c.self.view_is) at c.requires.there) c.args.which c.index-resource.result.now
    (rw c.slot.ensures at c.index-resource.ensures) in
    let is = rw c.slot-2.ensures at c.in_ok-at.ensures in
    ((c.self.invariant.armed c.args.which).linked c.args.res).within c.in_ok-at.at
    (handle_after-in c.args.lock (armed_list_handles c.args.which s.queues c.args.res) c.in_ok-at.at (is ∙ ap (handle_after c.args.lock) listed))

pub returns : goal.returns
returns c =
    let s = c.self.inside in
    let has = rw (← c.self.view_is) at c.requires.there in
    let listed = armed_listed s c.self.invariant c.args.res has c.args.which c.index-resource.result.now (rw c.slot.ensures at c.index-resource.ensures) in
    rw (← c.self.view_is, c.of.ensures)
    ((rw c.slot-2.ensures at c.in_ok-at.ensures) ∙ ap (handle_after c.args.lock) listed
    ∙ sym (ap (at_after c.args.lock) (armed_shown s c.self.invariant c.args.res has c.args.which)
    ∙ under_handle-after (rows s.queues) c.args.lock (armed_list_handles c.args.which s.queues c.args.res)))

pub returns-in_err-at : goal.returns-in_err-at
returns-in_err-at c =
    let s = c.self.inside in
    let has = rw (← c.self.view_is) at c.requires.there in
    let listed = armed_listed s c.self.invariant c.args.res has c.args.which c.index-resource.result.now (rw c.slot.ensures at c.index-resource.ensures) in
    rw (← c.self.view_is)
    (c.from_residual.ensures ∙ (rw c.slot-2.ensures at c.in_err-at.ensures) ∙ ap (handle_after c.args.lock) listed
    ∙ sym (ap (at_after c.args.lock) (armed_shown s c.self.invariant c.args.res has c.args.which)
    ∙ under_handle-after (rows s.queues) c.args.lock (armed_list_handles c.args.which s.queues c.args.res)))
