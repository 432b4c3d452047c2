use Rattle.std.proofs.Common.{◌≡◌, ◌+◌, ◌≤◌, drop, length}
use Rattle.vlm.specs.Watches.{steps_asked}
use Rattle.vlm.proofs.monitor.watched.asked_count.Given as goal

-- what is counted so far and what is left give all
abbrev pub invariant-loop-entry : goal.invariant-loop-entry
invariant-loop-entry l = record {
  within : l.count ≤ l.entry-index;
  all : l.count + length (steps_asked (drop l.entry-index l.entries)) ≡ length (steps_asked l.entries);
}
