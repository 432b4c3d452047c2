use Rattle.std.proofs.Common.{◌≡◌}
use Rattle.vlm.specs.MonitoredHubs.{standing}
use Rattle.vlm.specs.WatchedPorts.{HasGrown}
use Rattle.vlm.proofs.monitor.watched.MonitoredHub.turn_until_told.Given as goal

-- the turns so far have put entries at the end, and left the rest as it is
abbrev pub invariant-loop : goal.invariant-loop
invariant-loop l = (standing l.self ≡ standing l.initial.self) × HasGrown l.initial.self.hub l.self.hub
