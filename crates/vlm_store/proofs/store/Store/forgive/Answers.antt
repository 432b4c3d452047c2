use Rattle.std.proofs.Common.{◌≤◌, ap, subst}
use Rattle.vlm_records.specs.AstQueues.{Asts}
use Rattle.vlm_store.specs.Holdings.{faced, process_face, process_face_in}
use Rattle.vlm_store.specs.Records.{owed_less}
use Rattle.vlm_store.proofs.LivingProcesses.{is_sound, process_is, process_there}
use Rattle.vlm_store.proofs.ProcessRewritten.{asts_kept, asts_shown}
use Rattle.vlm_store.specs.Kept.{records_shown}
use Rattle.vlm_store.proofs.Dues.{owed_there}
use Rattle.vlm_store.proofs.store.Store.forgive.Goals as goal

pub index_mut-requires : goal.index_mut-requires
index_mut-requires c = rw c.slot.ensures (process_there c.self.inside c.self.invariant c.args.at (rw (← c.self.view_is) at c.requires.there))

pub forgive-requires : goal.forgive-requires
forgive-requires c =
    let there = rw (← c.self.view_is) at c.requires.there in
    let owed = rw (process_is c.self.inside c.self.invariant c.args.at there) at
    (owed_there c.args.at c.args.count (records_shown c.self.inside) (is_sound c.self.inside c.self.invariant)
    (rw (← c.self.view_is) at c.requires.owed)) in
    subst (λ slot. c.args.count ≤ (process_face_in slot).due) (rw c.slot.ensures at c.index_mut.ensures.value) owed

pub invariant_of-self : goal.invariant_of-self
invariant_of-self c =
    rw c.slot.ensures
    (asts_kept c.self.inside c.self.invariant c.args.at c.index_mut.result.now c.forgive.new.self (rw c.slot.ensures at c.index_mut.ensures.value)
    (ap (λ (asts : Asts). asts.pending) c.forgive.ensures))

pub returns-clause-forgiven : goal.returns-clause-forgiven
returns-clause-forgiven c =
    let was = c.index_mut.result.now in
    rw (← c.self.view_is, c.slot.ensures)
    (asts_shown c.self.inside c.self.invariant c.args.at c.index_mut.result.now c.forgive.new.self (rw c.slot.ensures at c.index_mut.ensures.value)
    (owed_less c.args.count) (λ locks. ap (λ (asts : Asts). faced c.args.at (process_face (record was { asts = asts })) locks) c.forgive.ensures))

pub returns-clause-sound : goal.returns-clause-sound
returns-clause-sound c = rw (← c.self.view_is) (is_sound c.self.inside c.self.invariant)
