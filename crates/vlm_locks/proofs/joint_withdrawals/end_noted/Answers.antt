use Rattle.std.proofs.Common.{ap, arith, subst, sym}
use Rattle.vlm_collections.specs.Lists.{IsIn}
use Rattle.vlm_model.specs.Withdrawals.{Withdrawal}
use Rattle.vlm_words.specs.declared.resources.Queue.TheVariants.{Granted}
use Rattle.vlm_records.specs.declared.handles.Place.TheVariants.{Queued}
use Rattle.vlm_store.specs.Records.{IsStored, StoredLock, Stores, locks_at}
use Rattle.vlm_locks.specs.GivingUp.{noted_lkids}
use Rattle.vlm_locks.specs.Owing.{OwedMoves, left_row}
use Rattle.vlm_locks.specs.Withdrawing.{goes}
use Rattle.vlm_locks.specs.Withdrawals.{plain_withdrawal}
use Rattle.vlm_locks.proofs.EndsTogether.{all_ended, ended, lock_stored, none_has_ended, not_yet, rest_now}
use Rattle.vlm_locks.proofs.SoundRecords.{stands_alike, still_sound}
use Rattle.vlm_locks.proofs.QueuedLocks.{stands}
use Rattle.vlm_locks.proofs.ReservedWithoutEnded.{fits_still}
use Rattle.vlm_locks.proofs.joint_withdrawals.end_noted.Goals as goal

pub loop-note-init : goal.loop-note-init
loop-note-init c = none_has_ended (noted_lkids c.args.notes.now) c.args.invalidates c.args.store.now c.requires.rest.sound c.requires.paid

pub located_lock-located-requires-clause-rest : goal.located_lock-located-requires-clause-rest
located_lock-located-requires-clause-rest c =
    rest_now c.args.notes.now c.args.invalidates c.args.store.now c.loop-note.store c.loop-note.note-index
    c.loop-note.invariant c.requires.rise c.requires.locks c.loop-note-test.true c.note-item.result c.note-item.is
    c.requires.rest

pub located_lock-located-requires-clause-stored : goal.located_lock-located-requires-clause-stored
located_lock-located-requires-clause-stored c =
    subst (λ at. IsStored at c.loop-note.store) (sym c.lock.ensures)
    (lock_stored c.args.notes.now c.args.invalidates c.args.store.now c.loop-note.store c.loop-note.note-index
    c.loop-note.invariant c.requires.rise c.requires.locks c.loop-note-test.true c.note-item.result c.note-item.is)

pub end_notices-requires-clause-owed : goal.end_notices-requires-clause-owed
end_notices-requires-clause-owed c =
    let row = c.located_lock-located.result.row in
    let stored : Stores c.loop-note.store c.note-item.result.at row =
    subst (λ at. Stores c.loop-note.store at row) c.lock.ensures c.located_lock-located.ensures.row in
    fits_still c.loop-note.invariant.done c.loop-note.store c.loop-note.invariant.sound c.note-item.result.at row stored
    (not_yet c.args.notes.now c.args.invalidates c.args.store.now c.loop-note.store c.loop-note.note-index
    c.loop-note.invariant c.requires.rise c.requires.locks c.loop-note-test.true c.note-item.result c.note-item.is
    c.requires.rest.sound row stored) c.loop-note.invariant.paid

pub end_notices-requires-clause-granted : goal.end_notices-requires-clause-granted
end_notices-requires-clause-granted c is =
    let f = c.located_lock-located.result in
    let lock : StoredLock = record { at = f.lock; row = f.row } in
    c.requires.granted f.res lock
    (stands_alike f.lock f.row c.loop-note.store c.args.store.now (sym c.loop-note.invariant.only_notices.resources) (Queued f.res Granted)
    (subst (λ queue. IsIn lock (locks_at (Queued f.res queue) c.loop-note.store)) is
    (stands c.loop-note.store f c.located_lock-located.ensures.located)))

pub loop-note-preserved : goal.loop-note-preserved
loop-note-preserved c =
    let f = c.located_lock-located.result in
    let stored : Stores c.loop-note.store c.note-item.result.at f.row =
    subst (λ at. Stores c.loop-note.store at f.row) c.lock.ensures c.located_lock-located.ensures.row in
    ended c.args.notes.now c.args.invalidates c.args.store.now c.loop-note.store c.loop-note.note-index
    c.loop-note.invariant c.requires.rise c.requires.locks c.loop-note-test.true c.note-item.result c.note-item.is
    c.requires.rest.sound f.row stored c.end_notices.new.store
    (still_sound c.loop-note.store c.end_notices.new.store c.end_notices.ensures.only_notices
    c.loop-note.invariant.sound) c.end_notices.ensures.only_notices (plain_withdrawal c.together-withdrawal.result)
    (rw c.lkid.ensures at c.together-withdrawal.ensures) c.end_notices.ensures.statuses
    (subst (λ stays. OwedMoves f.row (left_row (goes stays f.queue) f.row) c.loop-note.store c.end_notices.new.store)
    (ap (λ (v : Withdrawal). v.stays) c.together-withdrawal.ensures)
    c.end_notices.ensures.owed)

pub returns : goal.returns
returns c = record {
  ended = all_ended c.args.notes.now c.args.invalidates c.args.store.now c.loop-note.store c.loop-note.note-index
      c.loop-note.invariant (omega (arith, c.loop-note-test.false));
}
