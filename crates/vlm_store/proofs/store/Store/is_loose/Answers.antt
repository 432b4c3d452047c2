use Rattle.std.proofs.Common.{ap, subst, sym, ◌∙◌}
use Rattle.std.proofs.lemmas.Bool.{OnFalse_from, OnTrue_from}
use Rattle.vlm_records.specs.Shown.{is_loose_in, rows}
use Rattle.vlm_store.specs.Records.{IsLoose, IsStored, Records}
use Rattle.vlm_store.proofs.LivingProcesses.{has_there, lock_stored, loose_seen}
use Rattle.vlm_store.proofs.store.Store.is_loose.Goals as goal

pub index-requires : goal.index-requires
index-requires c =
    let has = rw (← c.self.view_is) at c.requires in
    rw c.slot.ensures (has_there c.self.inside c.self.invariant c.args.lock has.0 has.1).0

pub returns-clause-loose : goal.returns-clause-loose
returns-clause-loose c =
    let s = c.self.inside in
    let has = rw (← c.self.view_is) at c.requires in
    let there = (has_there s c.self.invariant c.args.lock has.0 has.1).0 in
    OnTrue_from c.is_loose.result _ (λ is.
    subst (λ (x : Records). IsLoose c.args.lock x) c.self.view_is (
      rows s.queues c.args.lock,
      loose_seen s c.self.invariant c.args.lock there (ap is_loose_in (rw c.slot.ensures at c.index.ensures)
          ∙ sym c.is_loose.ensures ∙ is),
    ))

pub returns-clause-queued : goal.returns-clause-queued
returns-clause-queued c =
    let s = c.self.inside in
    let has = rw (← c.self.view_is) at c.requires in
    let there = (has_there s c.self.invariant c.args.lock has.0 has.1).0 in
    OnFalse_from c.is_loose.result _ (λ is.
    subst (λ (x : Records). IsStored c.args.lock x) c.self.view_is (
      rows s.queues c.args.lock,
      lock_stored s c.self.invariant c.args.lock there (ap is_loose_in (rw c.slot.ensures at c.index.ensures)
          ∙ sym c.is_loose.ensures ∙ is),
    ))
