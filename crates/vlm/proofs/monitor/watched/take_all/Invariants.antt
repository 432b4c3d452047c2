use Rattle.std.proofs.Common.{◌≡◌, map}
use Rattle.vlm.specs.WatchedPorts.{posts_of}
use Rattle.vlm.proofs.monitor.watched.take_all.Given as goal

-- nothing more was posted
abbrev pub invariant-loop-at : goal.invariant-loop-at
invariant-loop-at l = map posts_of l.ports ≡ map posts_of l.initial.ports
