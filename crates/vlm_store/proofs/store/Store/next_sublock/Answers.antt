use Rattle.std.proofs.Common.{◌∙◌, ap, sym, subst}
use Rattle.std.proofs.lemmas.Option.{none-some}
use Rattle.vlm_collections.specs.Lists.{Lists, handle_after}
use Rattle.vlm_collections.proofs.Walks.{handle_after-in}
use Rattle.vlm_records.specs.Kin.{below_handles, below_in, below_links, parent_in}
use Rattle.vlm_store.proofs.LivingProcesses.{lock_there}
use Rattle.vlm_store.proofs.Siblings.{below_listed, below_of_lock, seen_below, unseen_below}
use Rattle.vlm_store.proofs.store.Store.next_sublock.Goals as goal

pub index-requires : goal.index-requires
index-requires c =
    let stored = rw (← c.self.view_is) at c.requires in
    rw c.slot.ensures (lock_there c.self.inside c.self.invariant c.args.lock stored.0 stored.1).0

pub returns-in_default-clause-after : goal.returns-in_default-clause-after
returns-in_default-clause-after c parent found =
    absurd (unseen_below c.self.inside c.self.invariant c.args.lock parent
    (ap parent_in (rw c.slot.ensures at c.index.ensures) ∙ sym c.get.ensures
    ∙ c.in_default.is) (rw (← c.self.view_is) at found))

pub next-requires : goal.next-requires
next-requires c =
    let s = c.self.inside in
    let notes = ap parent_in (rw c.slot.ensures at c.index.ensures) ∙ sym c.get.ensures ∙ c.in-Some.is in
    rw c.slot-3.ensures
    (subst (λ l. Lists below_links s.queues.locks l c.args.lock) (ap below_in (rw c.slot-2.ensures at c.index-2.ensures))
    (record {
      linked = c.self.invariant.below.linked c.in-Some.parent;
      listed = c.self.invariant.below.stands c.in-Some.parent c.args.lock (λ e. none-some c.args.lock (sym e)) notes;
    }))

pub of-requires : goal.of-requires
of-requires c =
    let s = c.self.inside in
    let listed = below_listed s c.self.invariant c.in-Some.parent c.index-2.result.now (rw c.slot-2.ensures at c.index-2.ensures) in
    (c.self.invariant.below.linked c.in-Some.parent).within c.in_ok-at.at
    (handle_after-in c.args.lock (below_handles s.queues.locks c.in-Some.parent) c.in_ok-at.at
    ((rw c.slot-3.ensures at c.in_ok-at.ensures) ∙ ap (handle_after c.args.lock) listed))

pub returns-clause-after : goal.returns-clause-after
returns-clause-after c parent found =
    let s = c.self.inside in
    let notes = ap parent_in (rw c.slot.ensures at c.index.ensures) ∙ sym c.get.ensures ∙ c.in-Some.is in
    let listed = below_listed s c.self.invariant c.in-Some.parent c.index-2.result.now (rw c.slot-2.ensures at c.index-2.ensures) in
    let seen = below_of_lock s c.self.invariant c.args.lock c.in-Some.parent parent notes (rw (← c.self.view_is) at found) in
    rw (← c.self.view_is, c.of.ensures) ((rw c.slot-3.ensures at c.in_ok-at.ensures) ∙ ap (handle_after c.args.lock) (listed ∙ seen))

pub returns-in_err-at-clause-after : goal.returns-in_err-at-clause-after
returns-in_err-at-clause-after c parent found =
    let s = c.self.inside in
    let notes = ap parent_in (rw c.slot.ensures at c.index.ensures) ∙ sym c.get.ensures ∙ c.in-Some.is in
    let listed = below_listed s c.self.invariant c.in-Some.parent c.index-2.result.now (rw c.slot-2.ensures at c.index-2.ensures) in
    let seen = below_of_lock s c.self.invariant c.args.lock c.in-Some.parent parent notes (rw (← c.self.view_is) at found) in
    rw (← c.self.view_is) (c.from_residual.ensures ∙ (rw c.slot-3.ensures at c.in_err-at.ensures) ∙ ap (handle_after c.args.lock) (listed ∙ seen))

pub returns-clause-root : goal.returns-clause-root
returns-clause-root c none =
    let notes = ap parent_in (rw c.slot.ensures at c.index.ensures) ∙ sym c.get.ensures ∙ c.in-Some.is in
    absurd (seen_below c.self.inside c.self.invariant c.args.lock c.in-Some.parent notes (rw (← c.self.view_is) at none))
