use Rattle.vlm_records.specs.declared.handles.Place.TheVariants.{Queued}
use Rattle.vlm_locks.proofs.OtherLocks.{locks_stay_over, moved_alone, statuses_alone}
use Rattle.std.proofs.Common.{IfSome, ℕ, ◌+◌, ap, ◌∙◌, sym, subst}
use Rattle.vlm_words.specs.declared.resources.Queue.TheVariants.{Conversion}
use Rattle.vlm_words.specs.Dues.{due_to}
use Rattle.vlm_store.specs.Records.{Records, due_of}
use Rattle.vlm_locks.specs.Converting.{moved_in, processes_converting}
use Rattle.vlm_locks.specs.Owing.{due_for}
use Rattle.vlm_locks.specs.Rest.{IsReplaced, OtherLocksStay}
use Rattle.vlm_locks.proofs.MovedToEnd.{moved_replaced}
use Rattle.vlm_locks.proofs.FoundByHandle.{process_there}
use Rattle.vlm_locks.proofs.ReplacedResource.{noticed_replaced}
use Rattle.vlm_locks.proofs.QueuedLocks.{stored}
use Rattle.vlm_locks.proofs.ReservedAsts.{due_moved, due_noticed}
use Rattle.vlm_locks.proofs.ReservedByRequests.{found_there}
use Rattle.vlm_locks.proofs.SoundRecords.{still_sound}
use Rattle.vlm_locks.proofs.conversions.convert_later.Goals as goal

pub move_lock-requires-clause-lock : goal.move_lock-requires-clause-lock
move_lock-requires-clause-lock c =
    let f = c.args.located.now in
    (f.row, (stored c.args.store.now f c.requires.located, c.requires.row))

pub returns-clause-replaced : goal.returns-clause-replaced
returns-clause-replaced c =
    let s = c.args.store.now in
    let f = c.args.located.now in
    let located = c.requires.located in
    subst (λ o. IfSome o (λ r. IsReplaced f.res r (moved_in f c.args.row Conversion r) s c.accept.new.store)) (sym located.found)
    (noticed_replaced f.res located.resource (moved_in f c.args.row Conversion located.resource) s c.move_lock.new.self c.accept.new.store
    (moved_replaced s c.requires.located.sound f located c.args.row Conversion c.move_lock.new.self c.move_lock.ensures.moved) c.accept.ensures.only_notices)

-- the lock alone is moved
pub returns-clause-locks : goal.returns-clause-locks
returns-clause-locks c =
    let f = c.args.located.now in
    let moved : OtherLocksStay f.lock c.args.store.now c.move_lock.new.self =
    subst (OtherLocksStay f.lock c.args.store.now) (sym c.move_lock.ensures.moved)
    (moved_alone (Queued f.res Conversion) (record { at = f.lock; row = c.args.row }) c.args.store.now) in
    locks_stay_over f.lock c.args.store.now c.move_lock.new.self c.accept.new.store moved
    (statuses_alone f.lock c.move_lock.new.self c.accept.new.store c.accept.ensures.only_notices)

pub returns-clause-due : goal.returns-clause-due
returns-clause-due c pid =
    let f = c.args.located.now in
    let s = c.args.store.now in
    ap (λ (n : ℕ). n + due_to pid f.row)
    (due_noticed c.move_lock.new.self c.accept.new.store c.accept.ensures.only_notices pid ∙ ap (due_for pid) c.move_lock.ensures.moved)
    ∙ due_moved s c.requires.located.sound f.lock f.row c.args.row f.res Conversion (stored s f c.requires.located) (found_there s f c.requires.located) pid

pub returns-clause-dues : goal.returns-clause-dues
returns-clause-dues c pid = c.accept.ensures.dues pid ∙ ap (due_of pid) c.move_lock.ensures.moved

-- a lock that moves leaves the processes
pub accept-requires : goal.accept-requires
accept-requires c =
    let f = c.args.located.now in
    rw c.move_lock.ensures.moved (process_there c.args.store.now f.owner f.row.pid c.requires.located.owner)

pub returns-clause-statuses : goal.returns-clause-statuses
returns-clause-statuses c =
    let f = c.args.located.now in
    rw c.lkid.ensures at c.accept.ensures.written f.row.pid (rw c.move_lock.ensures.moved c.requires.located.owner)
    ∙ ap (λ (x : Records). processes_converting f c.args.asked.now x) c.move_lock.ensures.moved

pub returns-clause-sound : goal.returns-clause-sound
returns-clause-sound c = still_sound c.move_lock.new.self c.accept.new.store c.accept.ensures.only_notices c.move_lock.ensures.sound.after
