use Rattle.std.proofs.Common.{inl, subst}
use Rattle.vlm_store.specs.Records.{IsNewLock, IsProcess}
use Rattle.vlm_locks.specs.Entering.{entered_queue, new_row}
use Rattle.vlm_locks.specs.Owing.{granted_if_at_once}
use Rattle.vlm_locks.proofs.Entered.{entered_by, entered_same, joins_entered, parent_same}
use Rattle.vlm_locks.proofs.FoundByHandle.{resource_there}
use Rattle.vlm_locks.proofs.ReservedByRequests.{due_entered}
use Rattle.vlm_locks.proofs.Rising.{new_above, none_loose}
use Rattle.vlm_locks.proofs.new_locks.enter_at.Goals as goal

pub add_lock_reserved-requires-clause-new : goal.add_lock_reserved-requires-clause-new
add_lock_reserved-requires-clause-new c =
    let e = c.args.new_lock.now in
    rw c.entered_state-state.ensures.row
    (subst (λ lkid. IsNewLock lkid c.args.store.now) (entered_same e.at_once (new_row e)).lkid
    (new_above e.lkid c.args.store.now
    (none_loose c.args.store.now c.requires.may_enter.rest.rising) c.requires.may_enter.rising))

pub add_lock_reserved-requires-clause-owner : goal.add_lock_reserved-requires-clause-owner
add_lock_reserved-requires-clause-owner c =
    let e = c.args.new_lock.now in
    rw c.entered_state-state.ensures.row
    (subst (λ pid. IsProcess e.owner pid c.args.store.now)
    (entered_same e.at_once (new_row e)).pid c.requires.may_enter.owner)

pub add_lock_reserved-requires-clause-parent : goal.add_lock_reserved-requires-clause-parent
add_lock_reserved-requires-clause-parent c =
    let e = c.args.new_lock.now in
    rw c.entered_state-state.ensures.row
    (parent_same e.parent (new_row e) (granted_if_at_once e.at_once (new_row e)) c.args.store.now
    (entered_same e.at_once (new_row e)) c.requires.may_enter.parent)

pub add_lock_reserved-requires-clause-there : goal.add_lock_reserved-requires-clause-there
add_lock_reserved-requires-clause-there c = resource_there c.args.store.now c.args.res c.requires.found.0 c.requires.found.1.0 c.requires.found.1.1

pub returns-clause-entered : goal.returns-clause-entered
returns-clause-entered c =
    let e = c.args.new_lock.now in
    let may = c.requires.may_enter in
    let lock = c.add_lock_reserved.result in
    let row = c.entered_state-state.ensures.row in
    entered_by c.args.store.now c.add_lock_reserved.ensures.sound.before may.rest e may.keyed c.args.res
    c.requires.found lock (granted_if_at_once e.at_once (new_row e))
    (entered_queue e.at_once) _ c.add_lock_reserved.new.self
    (rw (row, c.entered_state-state.ensures.queue) at c.add_lock_reserved.ensures.added) c.add_lock_reserved.ensures.sound.after
    (λ is. c.add_lock_reserved.ensures.fresh (is.0, inl is.1))
    (entered_same e.at_once (new_row e)) may.rising may.owner
    (joins_entered lock (new_row e) e.at_once c.requires.found.0)

pub returns-clause-due : goal.returns-clause-due
returns-clause-due c =
    let e = c.args.new_lock.now in
    let row = c.entered_state-state.ensures.row in
    due_entered c.args.store.now c.add_lock_reserved.ensures.sound.before c.add_lock_reserved.result
    (granted_if_at_once e.at_once (new_row e)) e.owner e.parent c.args.res (entered_queue e.at_once)
    (resource_there c.args.store.now c.args.res c.requires.found.0 c.requires.found.1.0 c.requires.found.1.1) _
    c.add_lock_reserved.new.self (rw (row, c.entered_state-state.ensures.queue) at c.add_lock_reserved.ensures.added)
