use Rattle.std.proofs.Common.{◌≡◌}
use Rattle.vlm.specs.WatchedPorts.{posts_of}
use Rattle.vlm.proofs.monitor.watched.take_items.Given as goal

-- nothing more was posted
abbrev pub invariant-loop : goal.invariant-loop
invariant-loop l = posts_of l.port ≡ posts_of l.initial.port
