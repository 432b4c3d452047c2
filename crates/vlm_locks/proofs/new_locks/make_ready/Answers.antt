use Rattle.std.proofs.Common.{sym, subst}
use Rattle.vlm_store.specs.Records.{IsProcess}
use Rattle.vlm_locks.proofs.Forgiven.{owing}
use Rattle.vlm_locks.proofs.FoundByHandle.{process_there}
use Rattle.vlm_locks.proofs.ReservedMemory.{made_ready}
use Rattle.vlm_locks.proofs.new_locks.make_ready.Goals as goal

pub owe_routines-requires : goal.owe_routines-requires
owe_routines-requires c =
    let e = c.args.new_lock.now in
    process_there c.reserve_lock.new.self e.owner e.pid (subst (IsProcess e.owner e.pid) (sym c.reserve_lock.ensures.unchanged.same) c.requires.owner)

pub returns-clause-ready : goal.returns-clause-ready
returns-clause-ready c =
    let e = c.args.new_lock.now in
    made_ready c.owe_routines.result e c.args.store.now c.reserve_lock.new.self c.owe_routines.new.store
    c.reserve_lock.ensures.unchanged c.in_ok-reserve_lock.ensures.room
    (subst (IsProcess e.owner e.pid) (sym c.reserve_lock.ensures.unchanged.same) c.requires.owner)
    c.owe_routines.ensures.processes c.owe_routines.ensures.owed c.owe_routines.ensures.only_notices

pub returns-clause-owes : goal.returns-clause-owes
returns-clause-owes c =
    owing c.args.new_lock.now c.args.store.now c.owe_routines.result c.reserve_lock.new.self c.owe_routines.new.store
    c.reserve_lock.ensures.unchanged c.owe_routines.ensures.exact
