use Rattle.std.proofs.Common.{◌≡◌, ◌++◌, length}
use Rattle.vlm_queue.specs.Walks.{IsInQueue, rows_to_walk, rows_queued}
use Rattle.vlm_script.specs.Texts.{queue_lines}
use Rattle.vlm_script.proofs.show.show_queue.Given as goal

-- the walk is in the queue, and what is printed so far and what is left give the whole queue
abbrev pub invariant-loop-at : goal.invariant-loop-at
invariant-loop-at l = record {
  there : IsInQueue l.fn.res l.queue l.at l.store;
  printed : l.out.items ++ queue_lines l.queue
      (rows_to_walk l.fn.res l.queue l.at l.store) ≡ l.initial.out.items ++ queue_lines l.queue
      (rows_queued l.fn.res l.queue l.store);
}

abbrev pub decreases-loop-at : goal.decreases-loop-at
decreases-loop-at l = length (rows_to_walk l.fn.res l.queue l.at l.store)
