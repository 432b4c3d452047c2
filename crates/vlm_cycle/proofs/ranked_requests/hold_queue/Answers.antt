use Rattle.std.proofs.Common.{◌∙◌, ap, subst, sym}
use Rattle.vlm_words.specs.declared.locks.LockState.{LockState}
use Rattle.vlm_queue.specs.Walks.{rows_to_walk, rows_queued}
use Rattle.vlm_queue.proofs.Walking.{begins, come_stored, fewer_rows, passes}
use Rattle.vlm_cycle.specs.Ranking.{CountsHeld, rank_of}
use Rattle.vlm_cycle.proofs.GaugePeaks.{holders_begun, holders_ended, holders_on}
use Rattle.vlm_cycle.proofs.ranked_requests.hold_queue.Goals as goal

-- the walk begins at the head
pub loop-at-init : goal.loop-at-init
loop-at-init c =
    let s = c.args.store.now in
    let first = begins s c.args.res c.args.queue c.head-at.result c.head-at.ensures.first in
    record {
      there = first.there;
      counted = holders_begun s c.args.ranks.now c.args.blocker_ranks.now.held (rows_queued c.args.res c.args.queue s)
          (rows_to_walk c.args.res c.args.queue c.head-at.result s) first.left;
      kept = λ mode lkid other counted. counted;
    }

pub owner_rank-rank-requires : goal.owner_rank-rank-requires
owner_rank-rank-requires c = come_stored c.args.store.now c.args.res c.args.queue c.in-Some.lock (rw c.in-Some.is at c.loop-at.invariant.there)

pub lock_record-requires : goal.lock_record-requires
lock_record-requires c = come_stored c.args.store.now c.args.res c.args.queue c.in-Some.lock (rw c.in-Some.is at c.loop-at.invariant.there)

pub loop-at-smaller : goal.loop-at-smaller
loop-at-smaller c =
    let s = c.args.store.now in
    let one = passes s c.args.res c.args.queue c.in-Some.lock c.next-at.result c.head-at.ensures.sound
    (rw c.in-Some.is at c.loop-at.invariant.there) c.next-at.ensures in
    rw c.in-Some.is (fewer_rows one.row (rows_to_walk c.args.res c.args.queue c.next-at.result s) _ one.left)

pub loop-at-preserved : goal.loop-at-preserved
loop-at-preserved c =
    let s = c.args.store.now in
    let ranks = c.args.ranks.now in
    let one = passes s c.args.res c.args.queue c.in-Some.lock c.next-at.result c.head-at.ensures.sound
    (rw c.in-Some.is at c.loop-at.invariant.there) c.next-at.ensures in
    let came = ap (λ at. rows_to_walk c.args.res c.args.queue at s) c.in-Some.is ∙ one.left in
    let same = c.lock_record.ensures.only one.row one.stored in
    let here = subst (λ (r : LockState). CountsHeld c.hold.new.self.held r.held r.lkid (rank_of s ranks one.row.pid)) (sym same)
    (subst (CountsHeld c.hold.new.self.held c.lock_record.result.now.row.held c.lock_record.result.now.row.lkid)
    (c.owner_rank-rank.ensures one.row one.stored) c.hold.ensures.counted) in
    record {
      there = one.there;
      counted =
          holders_on s ranks c.loop-at.blocker_ranks.held c.hold.new.self.held (rows_queued c.args.res c.args.queue s)
          (rows_to_walk c.args.res c.args.queue c.loop-at.at s)
          (rows_to_walk c.args.res c.args.queue c.next-at.result s) one.row came c.hold.ensures.kept here c.loop-at.invariant.counted;
      kept = λ mode lkid other was. c.hold.ensures.kept mode lkid other (c.loop-at.invariant.kept mode lkid other was);
    }

pub returns-clause-counted : goal.returns-clause-counted
returns-clause-counted c =
    let s = c.args.store.now in
    holders_ended s c.args.ranks.now c.loop-at.blocker_ranks.held (rows_queued c.args.res c.args.queue s) (rows_to_walk c.args.res c.args.queue c.loop-at.at s)
    (ap (λ at. rows_to_walk c.args.res c.args.queue at s) c.in_default.is) c.loop-at.invariant.counted

pub returns-clause-kept : goal.returns-clause-kept
returns-clause-kept c = c.loop-at.invariant.kept
