use Rattle.std.proofs.Common.{◌∙◌, subst, sym}
use Rattle.vlm_words.specs.declared.resources.Queue.TheVariants.{Conversion, Waiting}
use Rattle.vlm_queue.specs.Walks.{rows_queued}
use Rattle.vlm_cycle.specs.Passing.{MayPass, Passes}
use Rattle.vlm_cycle.specs.Ranking.{AreBlockerRanksOf}
use Rattle.vlm_cycle.proofs.MarksOneByOne.{roomy_still}
use Rattle.vlm_cycle.proofs.PassesGoOn.{may_still, passes_both}
use Rattle.vlm_cycle.proofs.Ranked.{gauge_next}
use Rattle.vlm_cycle.proofs.passes.Pass.over_resource.Goals as goal

pub over_queue-requires-2-clause-roomy : goal.over_queue-requires-2-clause-roomy
over_queue-requires-2-clause-roomy c =
    roomy_still c.args.store.now c.args.scratch.now c.over_queue.new.scratch c.over_queue.ensures.room c.requires.roomy

pub over_queue-requires-2-clause-may : goal.over_queue-requires-2-clause-may
over_queue-requires-2-clause-may c =
    let s = c.args.store.now in
    subst (λ ranks. MayPass s ranks c.over_queue.new.self) (sym c.over_queue.ensures.ranks)
    (may_still s c.args.scratch.now.ranks
    (rows_queued c.args.res Conversion s) c.args.self.now c.over_queue.new.self c.over_queue.ensures.passes
    c.requires.may)

pub over_queue-requires-2-clause-blocker_ranks : goal.over_queue-requires-2-clause-blocker_ranks
over_queue-requires-2-clause-blocker_ranks c =
    let s = c.args.store.now in
    subst (λ ranks. AreBlockerRanksOf s ranks c.over_queue.new.blocker_ranks c.args.res Waiting) (sym c.over_queue.ensures.ranks)
    (gauge_next s c.args.scratch.now.ranks c.args.res c.blocker_ranks_of-blocker_ranks.result
    c.over_queue.new.blocker_ranks c.blocker_ranks_of-blocker_ranks.ensures c.over_queue.ensures.queue)

pub returns-clause-passes : goal.returns-clause-passes
returns-clause-passes c =
    let s = c.args.store.now in
    let ranks = c.args.scratch.now.ranks in
    passes_both s ranks (rows_queued c.args.res Conversion s) (rows_queued c.args.res Waiting s) c.args.self.now c.over_queue.new.self c.over_queue-2.new.self
    c.over_queue.ensures.passes
    (subst (λ rs. Passes s rs
    (rows_queued c.args.res Waiting s) c.over_queue.new.self c.over_queue-2.new.self) c.over_queue.ensures.ranks
    c.over_queue-2.ensures.passes)

pub returns-clause-room : goal.returns-clause-room
returns-clause-room c pid room = c.over_queue-2.ensures.room pid (c.over_queue.ensures.room pid room)

pub returns-clause-ranks : goal.returns-clause-ranks
returns-clause-ranks c = c.over_queue-2.ensures.ranks ∙ c.over_queue.ensures.ranks
