use Rattle.std.proofs.Common.{refl, subst, sym}
use Rattle.vlm_store.specs.Records.{HasProcess}
use Rattle.vlm_locks.specs.Entering.{new_row}
use Rattle.vlm_locks.specs.Owing.{granted_if_at_once}
use Rattle.vlm_locks.proofs.FoundByHandle.{process_there}
use Rattle.vlm_locks.proofs.Forgiven.{forgiven_all, owed_still}
use Rattle.vlm_locks.proofs.ReservedByRequests.{new_fits, owes_ready, paid_entered}
use Rattle.vlm_locks.proofs.ReservedMemory.{entered_ready, found_ready, may_enter_ready}
use Rattle.vlm_locks.proofs.AcceptedNewLocks.{has_entered}
use Rattle.vlm_locks.proofs.new_locks.enter.Goals as goal

pub resource_or_new-requires-clause-may_enter : goal.resource_or_new-requires-clause-may_enter
resource_or_new-requires-clause-may_enter c =
    may_enter_ready c.args.new_lock.now c.args.store.now c.make_ready.new.store c.in_ok-make_ready.ensures.ready
    c.requires.may_enter

pub resource_or_new-requires-clause-found : goal.resource_or_new-requires-clause-found
resource_or_new-requires-clause-found c =
    found_ready c.args.new_lock.now c.args.store.now c.make_ready.new.store c.in_ok-make_ready.ensures.ready
    c.args.new_lock.now.res c.requires.found

-- its process is owed the ASTs of its routines
pub accept_entered-requires-clause-owed : goal.accept_entered-requires-clause-owed
accept_entered-requires-clause-owed c =
    let e = c.args.new_lock.now in
    let owed = owes_ready e c.args.store.now c.make_ready.new.store c.in_ok-make_ready.ensures.ready c.requires.paid in
    let due = c.in-Ok.ensures.due (granted_if_at_once e.at_once (new_row e)) c.enter_at.new.store c.enter_at.ensures.due in
    new_fits (new_row e) refl c.make_ready.new.store owed (granted_if_at_once e.at_once (new_row e)) c.enter_at.new.store due

-- where memory is refused for its resource, its process is owed them still
pub forgive_routines-requires-clause-there : goal.forgive_routines-requires-clause-there
forgive_routines-requires-clause-there c =
    let e = c.args.new_lock.now in
    let may = may_enter_ready e c.args.store.now c.make_ready.new.store c.in_ok-make_ready.ensures.ready c.requires.may_enter in
    subst (HasProcess e.owner) (sym c.in-Err.ensures.err.same) (process_there c.make_ready.new.store e.owner e.pid may.owner)

pub forgive_routines-requires-clause-owed : goal.forgive_routines-requires-clause-owed
forgive_routines-requires-clause-owed c =
    let e = c.args.new_lock.now in
    let ready = c.in_ok-make_ready.ensures.ready in
    let may = may_enter_ready e c.args.store.now c.make_ready.new.store ready c.requires.may_enter in
    owed_still e c.args.store.now c.make_ready.new.store c.resource_or_new.new.store c.in_ok-make_ready.ensures.owes c.in-Err.ensures.err may.owner ready

pub returns-in-Err-clause-err : goal.returns-in-Err-clause-err
returns-in-Err-clause-err c =
    forgiven_all c.args.new_lock.now c.args.store.now c.make_ready.new.store c.resource_or_new.new.store
    c.in_ok-make_ready.ensures.owes c.in-Err.ensures.err c.forgive_routines.new.store c.forgive_routines.ensures

pub returns-in-Ok-clause-entered : goal.returns-in-Ok-clause-entered
returns-in-Ok-clause-entered c =
    let e = c.args.new_lock.now in
    let ready = c.make_ready.new.store in
    let res = c.in-Ok.res in
    let owed = owes_ready e c.args.store.now ready c.in_ok-make_ready.ensures.ready c.requires.paid in
    let entered = c.in-Ok.ensures.entered c.enter_at.new.store c.enter_at.ensures.entered in
    let due = c.in-Ok.ensures.due (granted_if_at_once e.at_once (new_row e)) c.enter_at.new.store c.enter_at.ensures.due in
    entered_ready e c.args.store.now ready c.in_ok-make_ready.ensures.ready res c.accept_entered.new.store
    (has_entered e res ready c.enter_at.new.store c.accept_entered.new.store c.accept_entered.ensures.only_notices entered c.accept_entered.ensures.statuses
    (paid_entered (new_row e) refl ready owed (granted_if_at_once e.at_once (new_row e)) c.enter_at.new.store due
    c.accept_entered.new.store c.accept_entered.ensures.only_notices c.accept_entered.ensures.owed))
