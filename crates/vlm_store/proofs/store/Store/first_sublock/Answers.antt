use Rattle.std.proofs.Common.{◌∙◌, ap, sym, inl}
use Rattle.vlm_collections.specs.Lists.{first_handle}
use Rattle.vlm_collections.proofs.Walks.{first_handle-in}
use Rattle.vlm_records.specs.Kin.{below_handles}
use Rattle.vlm_store.proofs.LivingProcesses.{is_sound, lock_there}
use Rattle.vlm_store.proofs.Siblings.{below_listed, sublocks_is}
use Rattle.vlm_store.proofs.store.Store.first_sublock.Goals as goal

pub index-requires : goal.index-requires
index-requires c =
    let stored = rw (← c.self.view_is) at c.requires in
    rw c.slot.ensures (lock_there c.self.inside c.self.invariant c.args.lock stored.0 stored.1).0

pub of-requires : goal.of-requires
of-requires c =
    let s = c.self.inside in
    let listed = below_listed s c.self.invariant c.args.lock c.index.result.now (rw c.slot.ensures at c.index.ensures) in
    (c.self.invariant.below.linked c.args.lock).within c.in_ok-at.at
    (first_handle-in (below_handles s.queues.locks c.args.lock) c.in_ok-at.at (c.in_ok-at.ensures ∙ ap first_handle listed))

pub returns-clause-first : goal.returns-clause-first
returns-clause-first c =
    let s = c.self.inside in
    let listed = below_listed s c.self.invariant c.args.lock c.index.result.now (rw c.slot.ensures at c.index.ensures) in
    let stored = rw (← c.self.view_is) at c.requires in
    let seen = sublocks_is s c.self.invariant c.args.lock (stored.0, inl stored.1) in
    rw (← c.self.view_is, c.of.ensures) (c.in_ok-at.ensures ∙ ap first_handle (listed ∙ sym seen))

pub returns-in_err-at-clause-first : goal.returns-in_err-at-clause-first
returns-in_err-at-clause-first c =
    let s = c.self.inside in
    let listed = below_listed s c.self.invariant c.args.lock c.index.result.now (rw c.slot.ensures at c.index.ensures) in
    let stored = rw (← c.self.view_is) at c.requires in
    let seen = sublocks_is s c.self.invariant c.args.lock (stored.0, inl stored.1) in
    rw (← c.self.view_is) (c.from_residual.ensures ∙ c.in_err-at.ensures ∙ ap first_handle (listed ∙ sym seen))

pub returns-clause-sound : goal.returns-clause-sound
returns-clause-sound c = rw (← c.self.view_is) (is_sound c.self.inside c.self.invariant)

pub returns-in_err-at-clause-sound : goal.returns-in_err-at-clause-sound
returns-in_err-at-clause-sound c = rw (← c.self.view_is) (is_sound c.self.inside c.self.invariant)
