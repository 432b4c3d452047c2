use Rattle.vlm_model.specs.Withdrawals.{row_after_cancel}
use Rattle.vlm_words.specs.declared.locks.LockState.{LockState}
use Rattle.vlm_words.specs.declared.resources.Queue.TheVariants.{Granted}
use Rattle.vlm_records.specs.declared.handles.Place.TheVariants.{Queued}
use Rattle.vlm_store.specs.Records.{IsSameLock, Records, moving, with_lists}
use Rattle.vlm_locks.specs.Owing.{DueMoves}
use Rattle.vlm_locks.specs.Rest.{OtherLocksStay}
use Rattle.vlm_locks.proofs.OtherLocks.{moved_alone}
use Rattle.std.proofs.Common.{◌≡◌, refl, subst, sym, ap, ◌∙◌}
use Rattle.std.specs.Prelude.{IsSome}
use Rattle.vlm_locks.proofs.ReservedAsts.{due_moved}
use Rattle.vlm_locks.proofs.QueuedLocks.{stored}
use Rattle.vlm_locks.proofs.Withdrawn.{cancelled_conversion}
use Rattle.vlm_locks.proofs.releases.restore_granted.Goals as goal

pub move_lock-requires-clause-lock : goal.move_lock-requires-clause-lock
move_lock-requires-clause-lock c =
    let f = c.args.located.now in
    (f.row, (stored c.args.store.now f c.requires.located, subst (IsSameLock f.row) (sym c.without_want.ensures) same))
  where
    same : IsSameLock c.args.located.now.row (row_after_cancel c.args.located.now.row)
    same = record { lkid = refl; pid = refl; parent = refl }

-- its row is the one after a cancel
abbrev pub moved : (c : goal.After-move_lock)
    → c.move_lock.new.self ≡ with_lists
    (moving (Queued c.args.located.now.res Granted)
    (record { at = c.args.located.now.lock; row = row_after_cancel c.args.located.now.row })) c.args.store.now
moved c =
    let f = c.args.located.now in
    c.move_lock.ensures.moved
    ∙ ap (λ (x : LockState). with_lists (moving (Queued f.res Granted) (record { at = f.lock; row = x })) c.args.store.now) c.without_want.ensures

-- the lock alone is moved
pub returns-clause-done : goal.returns-clause-done
returns-clause-done c =
    let s = c.args.store.now in
    let f = c.args.located.now in
    record {
      made = cancelled_conversion s c.requires.located.sound f c.requires.located c.requires.converting c.requires.rest
          c.move_lock.new.self c.move_lock.ensures.sound.after (moved c);
      locks = subst (OtherLocksStay f.lock s) (sym (moved c)) (moved_alone (Queued f.res Granted) (record { at = f.lock; row = row_after_cancel f.row }) s);
      own_locks = ap (λ (x : Records). x.processes) (moved c);
    }

-- what it wanted is due no more
pub returns-clause-due : goal.returns-clause-due
returns-clause-due c =
    let s = c.args.store.now in
    let f = c.args.located.now in
    subst (DueMoves f.row (row_after_cancel f.row) s) (sym (moved c))
    (due_moved s c.requires.located.sound f.lock f.row (row_after_cancel f.row) f.res Granted
    (stored s f c.requires.located) (subst IsSome (sym c.requires.located.found) refl))
