use Rattle.std.proofs.Common.{◌∙◌, length, sym, ap, subst}
use Rattle.std.proofs.lemmas.List.{length-map}
use Rattle.vlm_collections.specs.Lists.{handles_of}
use Rattle.vlm_records.specs.Kin.{own_in, own_links}
use Rattle.vlm_store.specs.Records.{IsSound}
use Rattle.vlm_store.proofs.Counted.{own_count}
use Rattle.vlm_store.proofs.LivingProcesses.{is_sound, own_is, process_there}
use Rattle.vlm_store.proofs.store.Store.own_lock_count.Goals as goal

pub index-requires : goal.index-requires
index-requires c = rw c.slot.ensures (process_there c.self.inside c.self.invariant c.args.at (rw (← c.self.view_is) at c.requires))

pub returns-clause-own : goal.returns-clause-own
returns-clause-own c =
    rw (← c.self.view_is, own_is c.self.inside c.self.invariant c.args.at (rw (← c.self.view_is) at c.requires))
    (c.len.ensures ∙ ap (λ l. length (handles_of own_links c.self.inside.queues.locks l))
    (sym (ap own_in (rw c.slot.ensures at c.index.ensures))) ∙ sym (length-map _ _))

pub returns-clause-owned : goal.returns-clause-owned
returns-clause-owned c none pid is = returns-clause-own c
    ∙ own_count _ c.args.at pid (subst IsSound c.self.view_is (is_sound c.self.inside c.self.invariant)) none is
