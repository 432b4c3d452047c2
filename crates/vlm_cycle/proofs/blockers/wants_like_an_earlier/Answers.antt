use Rattle.std.proofs.Common.{◌++◌, ◌∷◌, ◌∙◌, [], ap, sym}
use Rattle.std.specs.List.{list_any}
use Rattle.vlm_words.specs.declared.locks.LockState.{LockState}
use Rattle.vlm_records.specs.declared.handles.Place.TheVariants.{Queued}
use Rattle.vlm_store.specs.Records.{locks_at}
use Rattle.vlm_queue.proofs.Walking.{come_stored}
use Rattle.vlm_locks.proofs.QueuedLocks.{stored}
use Rattle.vlm_cycle.specs.Covering.{covers_for}
use Rattle.vlm_cycle.proofs.WalksToHead.{begins_back, ends_back, fewer_before, passes_back, rows_until}
use Rattle.vlm_cycle.proofs.NearestCover.{any_covered, any_last}
use Rattle.vlm_cycle.proofs.blockers.wants_like_an_earlier.Goals as goal

pub previous-at-requires : goal.previous-at-requires
previous-at-requires c = (c.args.waiting.now.row, stored c.args.store.now c.args.waiting.now c.requires)

pub loop-at-init : goal.loop-at-init
loop-at-init c =
    let first = begins_back c.args.store.now c.args.waiting.now c.previous-at.result c.requires c.previous-at.ensures in
    record { there = first.there; alike = ap (list_any (covers_for c.args.mode)) (sym first.left) }

pub lock_record-requires : goal.lock_record-requires
lock_record-requires c = come_stored c.args.store.now c.args.waiting.now.res c.args.waiting.now.queue c.in-Some.lock
    (rw c.in-Some.is at c.loop-at.invariant.there)

pub returns-then-covers_for : goal.returns-then-covers_for
returns-then-covers_for c =
    let s = c.args.store.now in
    let f = c.args.waiting.now in
    let ks = locks_at (Queued f.res f.queue) s in
    let one = ends_back s f.res f.queue c.in-Some.lock c.requires.sound (rw c.in-Some.is at c.loop-at.invariant.there) in
    let rest = rows_until _ ks in
    sym
    (c.loop-at.invariant.alike
    ∙ ap (list_any (covers_for c.args.mode)) (ap (λ at. rows_until at ks) c.in-Some.is ∙ one.left
    ∙ ap (λ (r : LockState). rest ++ r ∷ []) (c.lock_record.ensures.only one.row one.stored))
    ∙ any_covered (covers_for c.args.mode) rest c.lock_record.result.now.row (sym c.covers_for.ensures ∙ c.if-covers_for.true))

pub loop-at-smaller : goal.loop-at-smaller
loop-at-smaller c =
    let s = c.args.store.now in
    let f = c.args.waiting.now in
    let one = passes_back s f.res f.queue c.in-Some.lock c.previous-at-in-Some.result c.requires.sound
    (rw c.in-Some.is at c.loop-at.invariant.there) c.previous-at-in-Some.ensures in
    rw c.in-Some.is (fewer_before one.row (rows_until c.previous-at-in-Some.result (locks_at (Queued f.res f.queue) s)) _ one.left)

pub loop-at-preserved : goal.loop-at-preserved
loop-at-preserved c =
    let s = c.args.store.now in
    let f = c.args.waiting.now in
    let ks = locks_at (Queued f.res f.queue) s in
    let one = passes_back s f.res f.queue c.in-Some.lock c.previous-at-in-Some.result c.requires.sound
    (rw c.in-Some.is at c.loop-at.invariant.there) c.previous-at-in-Some.ensures in
    let rest = rows_until c.previous-at-in-Some.result ks in
    record {
      there = one.there;
      alike =
          c.loop-at.invariant.alike
          ∙ ap (list_any (covers_for c.args.mode)) (ap (λ at. rows_until at ks) c.in-Some.is ∙ one.left
          ∙ ap (λ (r : LockState). rest ++ r ∷ []) (c.lock_record.ensures.only one.row one.stored))
          ∙ any_last (covers_for c.args.mode) rest c.lock_record.result.now.row (sym c.covers_for.ensures ∙ c.if-covers_for.false);
    }
