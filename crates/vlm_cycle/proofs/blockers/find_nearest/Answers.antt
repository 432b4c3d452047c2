use Rattle.std.proofs.Common.{◌≡◌, ◌++◌, ◌∷◌, ◌∙◌, [], ap, subst, sym}
use Rattle.std.specs.List.{list_any}
use Rattle.vlm_words.specs.declared.locks.LockState.{LockState}
use Rattle.vlm_records.specs.declared.handles.Place.TheVariants.{Queued}
use Rattle.vlm_store.specs.Records.{locks_at}
use Rattle.vlm_queue.proofs.Walking.{come_stored}
use Rattle.vlm_locks.proofs.QueuedLocks.{stored}
use Rattle.vlm_cycle.specs.Covering.{covers, rows_ahead}
use Rattle.vlm_cycle.specs.Marking.{Marks}
use Rattle.vlm_cycle.proofs.WalksToHead.{begins_back, ends_back, fewer_before, passes_back, rows_until}
use Rattle.vlm_cycle.proofs.MarksOneByOne.{marks_none, roomy_still}
use Rattle.vlm_cycle.proofs.NearestCover.{any_covered, any_last}
use Rattle.vlm_cycle.proofs.OwnerWalks.{OwnsNearest, nearest_here, nearest_on, no_nearest}
use Rattle.vlm_cycle.proofs.blockers.find_nearest.Goals as goal

pub previous-at-requires : goal.previous-at-requires
previous-at-requires c = (c.args.waiting.now.row, stored c.args.store.now c.args.waiting.now c.requires.located)

-- the walk begins at the lock before
pub loop-at-init : goal.loop-at-init
loop-at-init c =
    let first = begins_back c.args.store.now c.args.waiting.now c.previous-at.result c.requires.located c.previous-at.ensures in
    record {
      there = first.there;
      roomy = c.requires.roomy;
      goes_on = λ final marks. subst (λ rows. Marks (OwnsNearest rows) c.args.scratch.now final) first.left marks;
      covered = ap (list_any covers) (sym first.left);
    }

pub lock_record-requires : goal.lock_record-requires
lock_record-requires c = come_stored c.args.store.now c.args.waiting.now.res c.args.waiting.now.queue c.in-Some.lock
    (rw c.in-Some.is at c.loop-at.invariant.there)

-- it ends at a request that covers
pub returns-then-covers-clause-marks : goal.returns-then-covers-clause-marks
returns-then-covers-clause-marks c =
    let s = c.args.store.now in
    let f = c.args.waiting.now in
    let ks = locks_at (Queued f.res f.queue) s in
    let one = ends_back s f.res f.queue c.in-Some.lock c.requires.located.sound (rw c.in-Some.is at c.loop-at.invariant.there) in
    let row = c.lock_record.result.now.row in
    let rest = rows_until _ ks in
    nearest_here row (rows_until c.loop-at.at ks) rest (rows_ahead f s) c.args.scratch.now c.loop-at.scratch c.find_blocker.new.scratch
    (ap (λ at. rows_until at ks) c.in-Some.is ∙ one.left ∙ ap (λ (r : LockState). rest ++ r ∷ []) (c.lock_record.ensures.only one.row one.stored))
    (sym c.covers.ensures ∙ c.if-covers.true) c.find_blocker.ensures c.loop-at.invariant.goes_on

pub returns-then-covers-clause-covered : goal.returns-then-covers-clause-covered
returns-then-covers-clause-covered c =
    let s = c.args.store.now in
    let f = c.args.waiting.now in
    let ks = locks_at (Queued f.res f.queue) s in
    let one = ends_back s f.res f.queue c.in-Some.lock c.requires.located.sound (rw c.in-Some.is at c.loop-at.invariant.there) in
    let row = c.lock_record.result.now.row in
    let rest = rows_until _ ks in
    sym
    (c.loop-at.invariant.covered
    ∙ ap (list_any covers) (ap (λ at. rows_until at ks) c.in-Some.is ∙ one.left
    ∙ ap (λ (r : LockState). rest ++ r ∷ []) (c.lock_record.ensures.only one.row one.stored))
    ∙ any_covered covers rest row (sym c.covers.ensures ∙ c.if-covers.true))

pub loop-at-smaller : goal.loop-at-smaller
loop-at-smaller c =
    let s = c.args.store.now in
    let f = c.args.waiting.now in
    let one = passes_back s f.res f.queue c.in-Some.lock c.previous-at-in-Some.result c.requires.located.sound
    (rw c.in-Some.is at c.loop-at.invariant.there) c.previous-at-in-Some.ensures in
    rw c.in-Some.is (fewer_before one.row (rows_until c.previous-at-in-Some.result (locks_at (Queued f.res f.queue) s)) _ one.left)

pub loop-at-preserved : goal.loop-at-preserved
loop-at-preserved c =
    let s = c.args.store.now in
    let f = c.args.waiting.now in
    let ks = locks_at (Queued f.res f.queue) s in
    let one = passes_back s f.res f.queue c.in-Some.lock c.previous-at-in-Some.result c.requires.located.sound
    (rw c.in-Some.is at c.loop-at.invariant.there) c.previous-at-in-Some.ensures in
    let row = c.lock_record.result.now.row in
    let rest = rows_until c.previous-at-in-Some.result ks in
    let isnt = sym c.covers.ensures ∙ c.if-covers.false in
    let left : rows_until c.loop-at.at ks ≡ rest ++ row ∷ [] =
    ap (λ at. rows_until at ks) c.in-Some.is ∙ one.left ∙ ap (λ (r : LockState). rest ++ r ∷ []) (c.lock_record.ensures.only one.row one.stored) in
    record {
      there = one.there;
      roomy = roomy_still s c.loop-at.scratch c.find_blocker.new.scratch c.find_blocker.ensures.room c.loop-at.invariant.roomy;
      goes_on =
          nearest_on row (rows_until c.loop-at.at ks) rest
          (rows_ahead f s) c.args.scratch.now c.loop-at.scratch c.find_blocker.new.scratch left isnt
          c.find_blocker.ensures
          c.loop-at.invariant.goes_on;
      covered = c.loop-at.invariant.covered ∙ ap (list_any covers) left ∙ any_last covers rest row isnt;
    }

pub returns-clause-marks : goal.returns-clause-marks
returns-clause-marks c =
    let f = c.args.waiting.now in
    let ks = locks_at (Queued f.res f.queue) c.args.store.now in
    let left = rows_until c.loop-at.at ks in
    let none : left ≡ [] = ap (λ at. rows_until at ks) c.in_default.is in
    c.loop-at.invariant.goes_on c.loop-at.scratch (marks_none (OwnsNearest left) c.loop-at.scratch (no_nearest left none))
