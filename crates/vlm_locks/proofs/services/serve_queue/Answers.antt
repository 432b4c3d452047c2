use Rattle.vlm_locks.proofs.Granting.{serving_begun, serving_next, serving_shorter, serving_stopped, serving_there}
use Rattle.vlm_locks.proofs.ReservedAsts.{due_fits, paid_granted}
use Rattle.vlm_locks.proofs.services.serve_queue.Goals as goal

pub loop-lock-init : goal.loop-lock-init
loop-lock-init c = (serving_begun c.args.queue c.args.res c.args.value_block.now c.args.store.now c.requires.sound c.requires.there, c.requires.paid)

pub loop-lock-smaller : goal.loop-lock-smaller
loop-lock-smaller c =
    serving_shorter c.args.queue c.args.res c.args.value_block.now c.args.store.now c.loop-lock.value_block c.loop-lock.store c.loop-lock.invariant.0
    c.in-Some.lock c.lock_record.result.now.row c.lock_record.ensures.sound c.in-Some.ensures.first
    (λ row stored. c.lock_record.ensures.only row stored) c.requires.queued
    c.grant.new.value_block c.grant.new.store (rw c.want.ensures at c.if-not-wanted_fits.ensures) c.grant.ensures.moved c.grant.ensures.effect

pub loop-lock-preserved : goal.loop-lock-preserved
loop-lock-preserved c = (
  serving_next c.args.queue c.args.res c.args.value_block.now c.args.store.now c.loop-lock.value_block c.loop-lock.store c.loop-lock.invariant.0
      c.in-Some.lock c.lock_record.result.now.row c.lock_record.ensures.sound c.in-Some.ensures.first
      (λ row stored. c.lock_record.ensures.only row stored) c.requires.queued
      c.grant.new.value_block c.grant.new.store (rw c.want.ensures at c.if-not-wanted_fits.ensures) c.grant.ensures.moved c.grant.ensures.effect,
  paid_granted c.loop-lock.store c.grant.new.store c.lock_record.ensures.sound c.in-Some.lock c.lock_record.result.now.row c.args.res
      c.lock_record.ensures.row
      (serving_there c.args.queue c.args.res c.args.value_block.now c.args.store.now c.loop-lock.value_block
      c.loop-lock.store c.loop-lock.invariant.0)
      c.grant.ensures.moved c.grant.ensures.owed c.loop-lock.invariant.1,
)

pub grant-requires-clause-owed : goal.grant-requires-clause-owed
grant-requires-clause-owed c =
    due_fits c.loop-lock.store c.lock_record.ensures.sound c.loop-lock.invariant.1 c.in-Some.lock c.lock_record.result.now.row c.lock_record.ensures.row

pub returns-then-not-wanted_fits-clause-served : goal.returns-then-not-wanted_fits-clause-served
returns-then-not-wanted_fits-clause-served c =
    serving_stopped c.args.queue c.args.res c.args.value_block.now c.args.store.now c.loop-lock.value_block c.loop-lock.store c.loop-lock.invariant.0
    c.in-Some.lock c.lock_record.result.now.row c.lock_record.ensures.sound c.in-Some.ensures.first
    (λ row stored. c.lock_record.ensures.only row stored) c.requires.queued
    (rw c.want.ensures at c.if-not-wanted_fits.ensures)
