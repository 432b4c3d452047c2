use Rattle.std.proofs.Common.{refl}
use Rattle.std.proofs.lemmas.Bool.{OnFalse_at, OnFalse_from, OnTrue_at, OnTrue_from}
use Rattle.vlm_model.specs.Deadlocks.{WaitsOn}
use Rattle.vlm_locks.proofs.QueuedLocks.{resource_among}
use Rattle.vlm_cycle.proofs.Blocking.{awaits_of, located_on, row_passes, waited_for, waits_back}
use Rattle.vlm_cycle.proofs.BlockerWalks.{on_stored}
use Rattle.vlm_cycle.proofs.next_blockers.is_awaited_by.Goals as goal

pub located_lock-waiting-requires-clause-stored : goal.located_lock-waiting-requires-clause-stored
located_lock-waiting-requires-clause-stored c = on_stored c.args.store.now c.args.lock.now.res c.args.other c.requires.located.sound c.requires.on

-- both are on one resource
pub waits_on-requires-clause-on : goal.waits_on-requires-clause-on
waits_on-requires-clause-on c =
    let at = c.located_lock-waiting in
    located_on c.args.store.now c.requires.located.sound c.args.lock.now at.result c.requires.located at.ensures.located
    c.args.other at.ensures.lock c.requires.on

pub returns-in-Some-clause-yes : goal.returns-in-Some-clause-yes
returns-in-Some-clause-yes c =
    let at = c.located_lock-waiting in
    OnTrue_from c.waits_on.result _ (λ is.
    waited_for c.args.store.now c.requires.located.sound c.args.lock.now at.result c.requires.located at.ensures.located
    c.args.other at.ensures.lock c.requires.on
    (OnTrue_at is c.waits_on.ensures.yes))

pub returns-in-Some-clause-no : goal.returns-in-Some-clause-no
returns-in-Some-clause-no c =
    let at = c.located_lock-waiting in
    OnFalse_from c.waits_on.result _ (λ is w.
    OnFalse_at is c.waits_on.ensures.no
    (waits_back c.args.store.now c.requires.located.sound c.args.lock.now at.result c.requires.located
    at.ensures.located c.args.other at.ensures.lock c.requires.on w))

-- a request that waits for no lock
pub returns-in-None-clause-no : goal.returns-in-None-clause-no
returns-in-None-clause-no c w =
    let s = c.args.store.now in
    let sound = c.requires.located.sound in
    let f = c.located_lock-waiting.result in
    let its = c.located_lock-waiting.ensures.located in
    let back = waits_back s sound c.args.lock.now f c.requires.located its c.args.other c.located_lock-waiting.ensures.lock c.requires.on w in
    let waits = row_passes (λ r row. WaitsOn r f.row row) s f.res c.args.lock.now.lock back.row its.resource sound its.found back.stored back in
    c.in-None.ensures.none refl waits.request
    (awaits_of s sound c.requires.ordered f its.resource (resource_among f.res s.resources its.resource its.found) its.among back.row waits)
