use Rattle.std.proofs.Common.{◌≡◌, ◌∷◌, ◌∙◌, [], ap, subst}
use Rattle.vlm_words.specs.declared.locks.LockState.{LockState}
use Rattle.vlm_queue.specs.Walks.{rows_to_walk, rows_queued}
use Rattle.vlm_queue.proofs.Walking.{begins, come_stored, fewer_rows, passes}
use Rattle.vlm_cycle.specs.Waiting.{OwnsHolder}
use Rattle.vlm_cycle.specs.Marking.{Marks}
use Rattle.vlm_cycle.proofs.MarksOneByOne.{marks_none, roomy_still}
use Rattle.vlm_cycle.proofs.OwnerWalks.{holders_on, no_holder}
use Rattle.vlm_cycle.proofs.blockers.find_holders.Goals as goal

-- the walk begins at the head
pub loop-at-init : goal.loop-at-init
loop-at-init c =
    let first = begins c.args.store.now c.args.waiting.now.res c.args.queue c.head-at.result c.head-at.ensures.first in
    record {
      there = first.there;
      roomy = c.requires.roomy;
      goes_on = λ final marks. subst (λ rows. Marks (OwnsHolder c.args.waiting.now.row.lkid c.args.mode rows) c.args.scratch.now final) first.left marks;
    }

pub lock_record-requires : goal.lock_record-requires
lock_record-requires c = come_stored c.args.store.now c.args.waiting.now.res c.args.queue c.in-Some.lock (rw c.in-Some.is at c.loop-at.invariant.there)

pub loop-at-smaller : goal.loop-at-smaller
loop-at-smaller c =
    let s = c.args.store.now in
    let one = passes s c.args.waiting.now.res c.args.queue c.in-Some.lock c.next-at.result c.head-at.ensures.sound
    (rw c.in-Some.is at c.loop-at.invariant.there) c.next-at.ensures in
    rw c.in-Some.is (fewer_rows one.row (rows_to_walk c.args.waiting.now.res c.args.queue c.next-at.result s) _ one.left)

pub loop-at-preserved : goal.loop-at-preserved
loop-at-preserved c =
    let s = c.args.store.now in
    let one = passes s c.args.waiting.now.res c.args.queue c.in-Some.lock c.next-at.result c.head-at.ensures.sound
    (rw c.in-Some.is at c.loop-at.invariant.there) c.next-at.ensures in
    let came = ap (λ at. rows_to_walk c.args.waiting.now.res c.args.queue at s) c.in-Some.is ∙ one.left in
    record {
      there = one.there;
      roomy = roomy_still s c.loop-at.scratch c.find_holder.new.scratch c.find_holder.ensures.room c.loop-at.invariant.roomy;
      goes_on =
          holders_on c.args.waiting.now.row.lkid c.args.mode c.lock_record.result.now.row
          (rows_to_walk c.args.waiting.now.res c.args.queue c.loop-at.at s)
          (rows_to_walk c.args.waiting.now.res c.args.queue c.next-at.result s)
          (rows_queued c.args.waiting.now.res c.args.queue s)
          c.args.scratch.now c.loop-at.scratch c.find_holder.new.scratch
          (came ∙ ap (λ (r : LockState). r ∷ rows_to_walk c.args.waiting.now.res c.args.queue c.next-at.result s)
          (c.lock_record.ensures.only one.row one.stored))
          (rw c.lkid-lkid.ensures at c.find_holder.ensures) c.loop-at.invariant.goes_on;
    }

pub returns : goal.returns
returns c =
    let s = c.args.store.now in
    let left = rows_to_walk c.args.waiting.now.res c.args.queue c.loop-at.at s in
    let none : left ≡ [] = ap (λ at. rows_to_walk c.args.waiting.now.res c.args.queue at s) c.in_default.is in
    c.loop-at.invariant.goes_on c.loop-at.scratch
    (marks_none (OwnsHolder c.args.waiting.now.row.lkid c.args.mode left) c.loop-at.scratch
    (no_holder c.args.waiting.now.row.lkid c.args.mode left none))
