use Rattle.std.proofs.Common.{◌∙◌, ap, sym}
use Rattle.vlm_collections.specs.Lists.{last_handle}
use Rattle.vlm_collections.proofs.Walks.{last_handle-in}
use Rattle.vlm_records.specs.Kin.{own_handles}
use Rattle.vlm_store.proofs.LivingProcesses.{process_there}
use Rattle.vlm_store.proofs.Siblings.{own_handles_is, own_listed}
use Rattle.vlm_store.proofs.store.Store.last_own.Goals as goal

pub index-requires : goal.index-requires
index-requires c = rw c.slot.ensures (process_there c.self.inside c.self.invariant c.args.process (rw (← c.self.view_is) at c.requires))

pub of-requires : goal.of-requires
of-requires c =
    let s = c.self.inside in
    let listed = own_listed s c.self.invariant c.args.process c.index.result.now (rw c.slot.ensures at c.index.ensures) in
    (c.self.invariant.owned.linked c.args.process).within c.in_ok-at.at
    (last_handle-in (own_handles s.processes s.queues.locks c.args.process) c.in_ok-at.at (c.in_ok-at.ensures ∙ ap last_handle listed))

pub returns : goal.returns
returns c =
    let s = c.self.inside in
    let listed = own_listed s c.self.invariant c.args.process c.index.result.now (rw c.slot.ensures at c.index.ensures) in
    let seen = own_handles_is s c.self.invariant c.args.process (rw (← c.self.view_is) at c.requires) in
    rw (← c.self.view_is, c.of.ensures) (c.in_ok-at.ensures ∙ ap last_handle (listed ∙ sym seen))

pub returns-in_err-at : goal.returns-in_err-at
returns-in_err-at c =
    let s = c.self.inside in
    let listed = own_listed s c.self.invariant c.args.process c.index.result.now (rw c.slot.ensures at c.index.ensures) in
    let seen = own_handles_is s c.self.invariant c.args.process (rw (← c.self.view_is) at c.requires) in
    rw (← c.self.view_is) (c.from_residual.ensures ∙ c.in_err-at.ensures ∙ ap last_handle (listed ∙ sym seen))
