use Rattle.std.proofs.Common.{◌∙◌, length, sym, ap}
use Rattle.vlm_collections.specs.Lists.{handles_of}
use Rattle.vlm_records.specs.Kin.{below_in, below_links}
use Rattle.vlm_store.proofs.LivingProcesses.{are_sublocks, lock_there, no_sublocks}
use Rattle.vlm_store.proofs.store.Store.has_sublocks.Goals as goal

pub index-requires : goal.index-requires
index-requires c =
    let stored = rw (← c.self.view_is) at c.requires in
    rw c.slot.ensures (lock_there c.self.inside c.self.invariant c.args.lock stored.0 stored.1).0

pub returns-clause-none : goal.returns-clause-none
returns-clause-none c =
    let s = c.self.inside in
    rw (← c.self.view_is)
    (no_sublocks s c.self.invariant c.args.lock c.len.result
    (c.len.ensures ∙ ap (λ l. length (handles_of below_links s.queues.locks l)) (sym (ap below_in (rw c.slot.ensures at c.index.ensures)))))

pub returns-clause-some : goal.returns-clause-some
returns-clause-some c =
    let s = c.self.inside in
    let stored = rw (← c.self.view_is) at c.requires in
    rw (← c.self.view_is)
    (are_sublocks s c.self.invariant c.args.lock stored.0 stored.1 c.len.result
    (c.len.ensures ∙ ap (λ l. length (handles_of below_links s.queues.locks l)) (sym (ap below_in (rw c.slot.ensures at c.index.ensures)))))
