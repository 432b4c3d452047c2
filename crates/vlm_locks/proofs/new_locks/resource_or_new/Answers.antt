use Rattle.vlm_store.specs.Records.{IsNewKey}
use Rattle.vlm_locks.proofs.MadeOrRefused.{made_due, made_entered, made_finds, made_locks, made_may_enter}
use Rattle.vlm_locks.proofs.new_locks.resource_or_new.Goals as goal

-- with the new resource the lock may enter still
pub returns-in-None-clause-may_enter : goal.returns-in-None-clause-may_enter
returns-in-None-clause-may_enter c =
    made_may_enter c.args.new_lock.now c.args.store.now c.add_resource.new.self c.add_resource.result c.add_resource.ensures.added
    c.add_resource.ensures.sound c.requires.may_enter

pub returns-in-None-clause-found : goal.returns-in-None-clause-found
returns-in-None-clause-found c =
    made_finds c.args.new_lock.now c.args.store.now c.add_resource.new.self c.add_resource.result c.add_resource.ensures.added

pub returns-in-None-clause-lock_room : goal.returns-in-None-clause-lock_room
returns-in-None-clause-lock_room c =
    made_locks c.args.new_lock.now c.args.store.now c.add_resource.new.self c.add_resource.result c.add_resource.ensures.added

pub returns-in-None-clause-entered : goal.returns-in-None-clause-entered
returns-in-None-clause-entered c =
    let e = c.args.new_lock.now in
    let absent : IsNewKey e.site.key c.args.store.now = rw c.in-None.is at c.requires.found in
    made_entered e c.args.store.now c.add_resource.new.self c.add_resource.result c.add_resource.ensures.added c.requires.may_enter absent

pub returns-in-None-clause-due : goal.returns-in-None-clause-due
returns-in-None-clause-due c =
    made_due c.args.new_lock.now c.args.store.now c.add_resource.new.self c.add_resource.result c.add_resource.ensures.added
