use Rattle.vlm_words.specs.declared.resources.Queue.TheVariants.{Granted}
use Rattle.vlm_queue.specs.Walks.{rows_queued}
use Rattle.vlm_cycle.proofs.GaugePeaks.{holders_kept}
use Rattle.vlm_cycle.proofs.ranked_requests.blocker_ranks_of.Goals as goal

pub returns : goal.returns
returns c = record {
  granted =
      holders_kept c.args.store.now c.args.ranks.now c.hold_queue.new.blocker_ranks.held
      c.hold_queue-2.new.blocker_ranks.held (rows_queued c.args.res Granted c.args.store.now)
      c.hold_queue-2.ensures.kept c.hold_queue.ensures.counted;
  converting = c.hold_queue-2.ensures.counted;
  passed = tt;
}
