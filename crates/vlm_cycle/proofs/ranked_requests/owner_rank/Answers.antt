use Rattle.std.proofs.Common.{◌∙◌}
use Rattle.vlm_locks.proofs.QueuedLocks.{owner_is}
use Rattle.vlm_cycle.proofs.Ranked.{rank_is}
use Rattle.vlm_cycle.proofs.ranked_requests.owner_rank.Goals as goal

pub returns : goal.returns
returns c row stored =
    let record_of = c.lock_record.result.now in
    c.of.ensures
    ∙ rank_is c.args.store.now c.args.ranks.now c.lock_record.ensures.sound record_of.owner row.pid
    (owner_is c.args.store.now record_of.owner record_of.row row (c.lock_record.ensures.only row stored) c.lock_record.ensures.owner)
