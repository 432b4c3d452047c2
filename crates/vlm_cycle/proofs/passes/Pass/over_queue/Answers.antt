use Rattle.std.proofs.Common.{◌∷◌, ◌∙◌, [], refl, sym, ap, subst}
use Rattle.vlm_words.specs.declared.locks.LockState.{LockState}
use Rattle.vlm_queue.specs.Walks.{rows_to_walk, rows_queued}
use Rattle.vlm_queue.proofs.Walking.{begins, come_stored, fewer_rows, passes}
use Rattle.vlm_cycle.specs.Passing.{MayPass, Passes}
use Rattle.vlm_cycle.specs.Ranking.{AreBlockerRanksAt, PassesOne, rank_of}
use Rattle.vlm_cycle.proofs.MarksOneByOne.{roomy_still}
use Rattle.vlm_cycle.proofs.PassesGoOn.{may_still, pass_on, passes_none}
use Rattle.vlm_cycle.proofs.Ranked.{at_row, gauge_at, passing_begun, passing_ended, passing_on}
use Rattle.vlm_cycle.proofs.passes.Pass.over_queue.Goals as goal

-- the walk begins at the head
pub loop-at-init : goal.loop-at-init
loop-at-init c =
    let s = c.args.store.now in
    let first = begins s c.args.res c.args.queue c.head-at.result c.head-at.ensures.first in
    record {
      there = first.there;
      roomy = c.requires.roomy;
      room = λ pid room. room;
      ranks = refl;
      may = c.requires.may;
      passing = passing_begun s c.args.scratch.now.ranks (rows_queued c.args.res c.args.queue s)
          (rows_to_walk c.args.res c.args.queue c.head-at.result s) c.args.blocker_ranks.now first.left;
      goes_on = λ final over. subst (λ rows. Passes s c.args.scratch.now.ranks rows c.args.self.now final) first.left over;
    }

-- at a lock the gauge is that at the lock
pub rank_request-ranked-requires-clause-blocker_ranks : goal.rank_request-ranked-requires-clause-blocker_ranks
rank_request-ranked-requires-clause-blocker_ranks c =
    let s = c.args.store.now in
    let f = c.located_in-located.result in
    let one = at_row s c.args.res c.args.queue c.in-Some.lock f.row c.head-at.ensures.sound
    (rw c.in-Some.is at c.loop-at.invariant.there) c.located_in-located.ensures.only in
    subst (λ ranks. AreBlockerRanksAt s ranks c.loop-at.blocker_ranks f) (sym c.loop-at.invariant.ranks)
    (gauge_at s c.args.scratch.now.ranks c.args.res c.args.queue
    (rows_to_walk c.args.res c.args.queue c.loop-at.at s) one.rest c.args.blocker_ranks.now c.loop-at.blocker_ranks
    f
    (ap (λ at. rows_to_walk c.args.res c.args.queue at s) c.in-Some.is
    ∙ one.left) c.located_in-located.ensures.res c.located_in-located.ensures.queue c.requires.blocker_ranks
    c.loop-at.invariant.passing)

pub over_request-requires-clause-may : goal.over_request-requires-clause-may
over_request-requires-clause-may c =
    subst (λ ranks. MayPass c.args.store.now ranks c.loop-at.self) (sym c.loop-at.invariant.ranks) c.loop-at.invariant.may

pub next-at-requires : goal.next-at-requires
next-at-requires c = come_stored c.args.store.now c.args.res c.args.queue c.in-Some.lock (rw c.in-Some.is at c.loop-at.invariant.there)

pub loop-at-smaller : goal.loop-at-smaller
loop-at-smaller c =
    let s = c.args.store.now in
    let one = passes s c.args.res c.args.queue c.in-Some.lock c.next-at.result c.head-at.ensures.sound
    (rw c.in-Some.is at c.loop-at.invariant.there) c.next-at.ensures in
    rw c.in-Some.is (fewer_rows one.row (rows_to_walk c.args.res c.args.queue c.next-at.result s) _ one.left)

pub loop-at-preserved : goal.loop-at-preserved
loop-at-preserved c =
    let s = c.args.store.now in
    let ranks = c.args.scratch.now.ranks in
    let all = rows_queued c.args.res c.args.queue s in
    let left = rows_to_walk c.args.res c.args.queue c.loop-at.at s in
    let rest = rows_to_walk c.args.res c.args.queue c.next-at.result s in
    let row = c.located_in-located.result.row in
    let one = passes s c.args.res c.args.queue c.in-Some.lock c.next-at.result c.head-at.ensures.sound
    (rw c.in-Some.is at c.loop-at.invariant.there) c.next-at.ensures in
    let came = ap (λ at. rows_to_walk c.args.res c.args.queue at s) c.in-Some.is ∙ one.left
    ∙ ap (λ (r : LockState). r ∷ rest) (c.located_in-located.ensures.only one.row one.stored) in
    let passed = subst (λ rs. PassesOne row
    (rank_of s rs row.pid) c.loop-at.blocker_ranks c.rank_request-ranked.new.blocker_ranks)
    c.loop-at.invariant.ranks c.rank_request-ranked.ensures.passes in
    let over = subst (λ rs. Passes s rs (row ∷ []) c.loop-at.self c.over_request.new.self) c.loop-at.invariant.ranks c.over_request.ensures.passes in
    record {
      there = one.there;
      roomy = roomy_still s c.loop-at.scratch c.over_request.new.scratch c.over_request.ensures.room c.loop-at.invariant.roomy;
      room = λ pid room. c.over_request.ensures.room pid (c.loop-at.invariant.room pid room);
      ranks = c.over_request.ensures.ranks ∙ c.loop-at.invariant.ranks;
      may = may_still s ranks (row ∷ []) c.loop-at.self c.over_request.new.self over c.loop-at.invariant.may;
      passing = passing_on s ranks all left rest row c.args.blocker_ranks.now c.loop-at.blocker_ranks
          c.rank_request-ranked.new.blocker_ranks came passed c.loop-at.invariant.passing;
      goes_on = pass_on s ranks row left rest all c.args.self.now c.loop-at.self c.over_request.new.self came over c.loop-at.invariant.goes_on;
    }

pub returns-clause-passes : goal.returns-clause-passes
returns-clause-passes c =
    let s = c.args.store.now in
    let ranks = c.args.scratch.now.ranks in
    c.loop-at.invariant.goes_on c.loop-at.self
    (subst (λ rows. Passes s ranks rows c.loop-at.self c.loop-at.self)
    (sym (ap (λ at. rows_to_walk c.args.res c.args.queue at s) c.in_default.is))
    (passes_none s ranks c.loop-at.self))

pub returns-clause-ranks : goal.returns-clause-ranks
returns-clause-ranks c = c.loop-at.invariant.ranks

pub returns-clause-queue : goal.returns-clause-queue
returns-clause-queue c =
    let s = c.args.store.now in
    passing_ended s c.args.scratch.now.ranks (rows_queued c.args.res c.args.queue s)
    (rows_to_walk c.args.res c.args.queue c.loop-at.at s) c.args.blocker_ranks.now c.loop-at.blocker_ranks
    (ap (λ at. rows_to_walk c.args.res c.args.queue at s) c.in_default.is) c.loop-at.invariant.passing
