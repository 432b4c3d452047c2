use Rattle.std.proofs.Common.{sym, ap}
use Rattle.vlm_store.specs.Holdings.{process_face_in}
use Rattle.vlm_store.specs.Records.{authorization_of}
use Rattle.vlm_store.proofs.LivingProcesses.{is_sound, process_is, process_there}
use Rattle.vlm_store.proofs.store.Store.process_record.Goals as goal

pub index-requires : goal.index-requires
index-requires c = rw c.slot.ensures (process_there c.self.inside c.self.invariant c.args.at (rw (← c.self.view_is) at c.requires))

pub returns-clause-authorization : goal.returns-clause-authorization
returns-clause-authorization c =
    rw (← c.self.view_is, process_is c.self.inside c.self.invariant c.args.at (rw (← c.self.view_is) at c.requires))
    (sym (ap (λ slot. authorization_of (process_face_in slot).plain) (rw c.slot.ensures at c.index.ensures)))

pub returns-clause-blocks : goal.returns-clause-blocks
returns-clause-blocks c =
    rw (← c.self.view_is, process_is c.self.inside c.self.invariant c.args.at (rw (← c.self.view_is) at c.requires))
    (sym (ap (λ slot. (process_face_in slot).plain.blocks) (rw c.slot.ensures at c.index.ensures)))

pub returns-clause-asts : goal.returns-clause-asts
returns-clause-asts c =
    rw (← c.self.view_is, process_is c.self.inside c.self.invariant c.args.at (rw (← c.self.view_is) at c.requires))
    (sym (ap (λ slot. (process_face_in slot).plain.asts) (rw c.slot.ensures at c.index.ensures)))

pub returns-clause-sound : goal.returns-clause-sound
returns-clause-sound c = rw (← c.self.view_is) (is_sound c.self.inside c.self.invariant)
