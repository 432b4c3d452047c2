use Rattle.std.proofs.Common.{◌∙◌, ap, sym, subst}
use Rattle.std.proofs.lemmas.Option.{none-some}
use Rattle.vlm_collections.specs.Lists.{Lists, handle_before}
use Rattle.vlm_collections.proofs.Walks.{handle_before-in}
use Rattle.vlm_records.specs.Kin.{own_handles, own_in, own_links, owner_in}
use Rattle.vlm_store.proofs.LivingProcesses.{lock_there}
use Rattle.vlm_store.proofs.Siblings.{own_listed, own_of_lock}
use Rattle.vlm_store.proofs.store.Store.previous_own.Goals as goal

pub index-requires : goal.index-requires
index-requires c =
    let stored = rw (← c.self.view_is) at c.requires in
    rw c.slot.ensures (lock_there c.self.inside c.self.invariant c.args.lock stored.0 stored.1).0

pub previous-requires : goal.previous-requires
previous-requires c =
    let s = c.self.inside in
    let owner = c.index.result.now.owner in
    rw c.slot-3.ensures
    (subst (λ l. Lists own_links s.queues.locks l c.args.lock) (ap own_in (rw c.slot-2.ensures at c.index-2.ensures))
    (record {
      linked = c.self.invariant.owned.linked owner;
      listed = c.self.invariant.owned.stands owner c.args.lock (λ e. none-some c.args.lock (sym e)) (ap owner_in (rw c.slot.ensures at c.index.ensures));
    }))

pub of-requires : goal.of-requires
of-requires c =
    let s = c.self.inside in
    let owner = c.index.result.now.owner in
    let listed = own_listed s c.self.invariant owner c.index-2.result.now (rw c.slot-2.ensures at c.index-2.ensures) in
    (c.self.invariant.owned.linked owner).within c.in_ok-at.at
    (handle_before-in c.args.lock (own_handles s.processes s.queues.locks owner) c.in_ok-at.at
    ((rw c.slot-3.ensures at c.in_ok-at.ensures) ∙ ap (handle_before c.args.lock) listed))

pub returns : goal.returns
returns c process found =
    let s = c.self.inside in
    let owner = c.index.result.now.owner in
    let listed = own_listed s c.self.invariant owner c.index-2.result.now (rw c.slot-2.ensures at c.index-2.ensures) in
    let seen = own_of_lock s c.self.invariant c.args.lock owner process (ap owner_in (rw c.slot.ensures at c.index.ensures)) (rw (← c.self.view_is) at found) in
    rw (← c.self.view_is, c.of.ensures) ((rw c.slot-3.ensures at c.in_ok-at.ensures) ∙ ap (handle_before c.args.lock) (listed ∙ seen))

pub returns-in_err-at : goal.returns-in_err-at
returns-in_err-at c process found =
    let s = c.self.inside in
    let owner = c.index.result.now.owner in
    let listed = own_listed s c.self.invariant owner c.index-2.result.now (rw c.slot-2.ensures at c.index-2.ensures) in
    let seen = own_of_lock s c.self.invariant c.args.lock owner process (ap owner_in (rw c.slot.ensures at c.index.ensures)) (rw (← c.self.view_is) at found) in
    rw (← c.self.view_is) (c.from_residual.ensures ∙ (rw c.slot-3.ensures at c.in_err-at.ensures) ∙ ap (handle_before c.args.lock) (listed ∙ seen))
