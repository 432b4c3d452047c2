use Rattle.std.proofs.Common.{sym}
use Rattle.vlm_locks.proofs.Warned.{follows, has_next, if_warned, next_stored, now, now_found, paid_warned}
use Rattle.vlm_locks.proofs.Warned.{stands_armed, warning_begun, warning_next, warning_shorter, warning_there}
use Rattle.vlm_locks.proofs.warnings.warn_armed.Goals as goal

pub loop-at-init : goal.loop-at-init
loop-at-init c = (
  warning_begun c.args.which c.args.res c.args.store.now c.first_armed-at.result c.first_armed-at.ensures.sound
      c.requires.there c.requires.spares c.first_armed-at.ensures.first,
  c.requires.paid,
  c.first_armed-at.ensures.sound,
)

pub next_armed-at-requires-clause-there : goal.next_armed-at-requires-clause-there
next_armed-at-requires-clause-there c = warning_there c.args.res c.args.store.now c.loop-at.store c.loop-at.at c.loop-at.invariant.0.warning

pub next_armed-at-requires-clause-armed : goal.next_armed-at-requires-clause-armed
next_armed-at-requires-clause-armed c =
    let s = c.loop-at.store in
    let w = c.loop-at.invariant.0 in
    let sound = c.loop-at.invariant.2 in
    stands_armed c.args.res c.args.store.now s c.loop-at.at w.warning sound c.in-Some.lock (sym c.in-Some.is) c.args.which w.armed

pub warn_lock-requires-clause-there : goal.warn_lock-requires-clause-there
warn_lock-requires-clause-there c = warning_there c.args.res c.args.store.now c.loop-at.store c.loop-at.at c.loop-at.invariant.0.warning

pub warn_lock-requires-clause-stored : goal.warn_lock-requires-clause-stored
warn_lock-requires-clause-stored c =
    let s = c.loop-at.store in
    let w = c.loop-at.invariant.0.warning in
    let sound = c.loop-at.invariant.2 in (
      (has_next c.args.res c.args.store.now s c.loop-at.at w sound c.in-Some.lock (sym c.in-Some.is)).row,
      next_stored c.args.res c.args.store.now s c.loop-at.at w sound c.in-Some.lock (sym c.in-Some.is),
    )

pub loop-at-smaller : goal.loop-at-smaller
loop-at-smaller c =
    let s = c.loop-at.store in
    let at_armed = c.loop-at.invariant.0 in
    let w = at_armed.warning in
    let sound = c.loop-at.invariant.2 in
    let next = has_next c.args.res c.args.store.now s c.loop-at.at w sound c.in-Some.lock (sym c.in-Some.is) in
    let stored = next_stored c.args.res c.args.store.now s c.loop-at.at w sound c.in-Some.lock (sym c.in-Some.is) in
    let found = now_found c.args.res c.args.store.now s c.loop-at.at w in
    warning_shorter c.args.res c.args.store.now s c.loop-at.at w sound c.in-Some.lock (sym c.in-Some.is) c.warn_lock.new.store
    (c.warn_lock.ensures.warned (now c.args.res c.args.store.now s c.loop-at.at w) next.row found stored) c.args.which c.next_armed-at.result
    (follows c.args.res c.args.store.now s c.loop-at.at w sound c.in-Some.lock
    (sym c.in-Some.is) c.args.which at_armed.armed c.next_armed-at.result c.next_armed-at.ensures)

pub loop-at-preserved : goal.loop-at-preserved
loop-at-preserved c =
    let s = c.loop-at.store in
    let at_armed = c.loop-at.invariant.0 in
    let w = at_armed.warning in
    let sound = c.loop-at.invariant.2 in
    let next = has_next c.args.res c.args.store.now s c.loop-at.at w sound c.in-Some.lock (sym c.in-Some.is) in
    let stored = next_stored c.args.res c.args.store.now s c.loop-at.at w sound c.in-Some.lock (sym c.in-Some.is) in
    let found = now_found c.args.res c.args.store.now s c.loop-at.at w in
    let r = now c.args.res c.args.store.now s c.loop-at.at w in
    let warned = c.warn_lock.ensures.warned r next.row found stored in (
      warning_next c.args.res c.args.store.now s c.loop-at.at w sound c.in-Some.lock
          (sym c.in-Some.is) c.warn_lock.new.store warned c.args.which c.requires.spares c.next_armed-at.result
          (follows c.args.res c.args.store.now s c.loop-at.at w sound c.in-Some.lock
          (sym c.in-Some.is) c.args.which at_armed.armed c.next_armed-at.result c.next_armed-at.ensures),
      paid_warned s c.warn_lock.new.store sound r c.in-Some.lock next.row stored warned c.loop-at.invariant.1,
      c.warn_lock.ensures.sound,
    )

pub returns-clause-warned : goal.returns-clause-warned
returns-clause-warned c =
    if_warned c.args.res c.args.store.now c.loop-at.store c.loop-at.at c.loop-at.invariant.0.warning (sym c.in_default.is)
