use Rattle.std.proofs.Common.{subst}
use Rattle.vlm_locks.proofs.QueuedLocks.{stored}
use Rattle.vlm_cycle.specs.Ranking.{PassesOne}
use Rattle.vlm_cycle.proofs.Ranked.{top_above}
use Rattle.vlm_cycle.proofs.ranked_requests.rank_request.Goals as goal

pub owner_rank-rank-requires : goal.owner_rank-rank-requires
owner_rank-rank-requires c = (c.args.waiting.now.row, stored c.args.store.now c.args.waiting.now c.requires.located)

pub returns-clause-rank : goal.returns-clause-rank
returns-clause-rank c = c.owner_rank-rank.ensures c.args.waiting.now.row (stored c.args.store.now c.args.waiting.now c.requires.located)

pub returns-clause-top : goal.returns-clause-top
returns-clause-top c =
    top_above c.args.store.now c.args.ranks.now c.requires.located.sound c.args.blocker_ranks.now c.args.waiting.now c.requires.located c.requires.blocker_ranks
    c.top-top.result c.top-top.ensures.held c.top-top.ensures.before

pub returns-clause-passes : goal.returns-clause-passes
returns-clause-passes c =
    let rank = c.owner_rank-rank.ensures c.args.waiting.now.row (stored c.args.store.now c.args.waiting.now c.requires.located) in
    subst (λ r. PassesOne c.args.waiting.now.row r c.args.blocker_ranks.now c.pass.new.self) rank c.pass.ensures
