use Rattle.vlm_cycle.proofs.BlockerWalks.{on_stored}
use Rattle.vlm_cycle.proofs.next_blockers.first_from.Goals as goal

pub following-requires : goal.following-requires
following-requires c = on_stored c.args.store.now c.args.res c.in-Some.lock c.requires.sound (c.requires.from c.in-Some.lock c.in-Some.is)
