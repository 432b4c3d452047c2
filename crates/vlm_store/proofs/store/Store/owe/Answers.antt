use Rattle.std.proofs.Common.{arith}
use Rattle.std.proofs.lemmas.Result.{on_err_weaker, on_ok_weaker}
use Rattle.vlm_store.proofs.LivingProcesses.{is_sound, process_there}
use Rattle.vlm_store.proofs.ProcessRewritten.{asts_kept, owed_shown, same_shown}
use Rattle.vlm_store.proofs.store.Store.owe.Goals as goal

pub index_mut-requires : goal.index_mut-requires
index_mut-requires c = rw c.slot.ensures (process_there c.self.inside c.self.invariant c.args.at (rw (← c.self.view_is) at c.requires))

pub invariant_of-self : goal.invariant_of-self
invariant_of-self c =
    rw c.slot.ensures
    (asts_kept c.self.inside c.self.invariant c.args.at c.index_mut.result.now c.owe.new.self (rw c.slot.ensures at c.index_mut.ensures.value)
    c.owe.ensures.pending)

pub returns-clause-owed : goal.returns-clause-owed
returns-clause-owed c =
    rw (← c.self.view_is, c.slot.ensures)
    (on_ok_weaker c.owe.result
    (owed_shown c.self.inside c.self.invariant c.args.at c.index_mut.result.now c.owe.new.self
    (rw c.slot.ensures at c.index_mut.ensures.value) c.args.count c.owe.ensures.pending)
    c.owe.ensures.due)

pub returns-clause-succeeds : goal.returns-clause-succeeds
returns-clause-succeeds c none = c.owe.ensures.succeeds (omega (arith, none))

pub returns-clause-refused : goal.returns-clause-refused
returns-clause-refused c =
    rw (← c.self.view_is, c.slot.ensures)
    (on_err_weaker c.owe.result
    (same_shown c.self.inside c.self.invariant c.args.at c.index_mut.result.now c.owe.new.self (rw c.slot.ensures at c.index_mut.ensures.value))
    c.owe.ensures.refused)

pub returns-clause-sound : goal.returns-clause-sound
returns-clause-sound c = rw (← c.self.view_is) (is_sound c.self.inside c.self.invariant)
