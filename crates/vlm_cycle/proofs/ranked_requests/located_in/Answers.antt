use Rattle.vlm_queue.proofs.Walking.{come_stored}
use Rattle.vlm_cycle.proofs.Ranked.{located_there}
use Rattle.vlm_cycle.proofs.ranked_requests.located_in.Goals as goal

pub lock_record-record-requires : goal.lock_record-record-requires
lock_record-record-requires c = come_stored c.args.store.now c.args.res c.args.queue c.args.lock c.requires.come

pub returns-clause-located : goal.returns-clause-located
returns-clause-located c =
    located_there c.args.store.now c.lock_record-record.ensures.sound c.args.res c.args.queue c.args.lock
    c.lock_record-record.result.now.owner c.lock_record-record.result.now.row
    c.requires.there c.requires.come c.lock_record-record.ensures.row c.lock_record-record.ensures.owner

pub returns-clause-only : goal.returns-clause-only
returns-clause-only c row stored = c.lock_record-record.ensures.only row stored
