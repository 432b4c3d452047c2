use Rattle.std.proofs.Common.{◌≡◌, []}
use Rattle.vlm_ports.specs.Hubs.{journal, state}
use Rattle.vlm.proofs.WatchedSteps.{AreMade}
use Rattle.vlm.proofs.monitor.watched.MonitoredHub.make_all.Given as goal

-- the steps so far have their lines
abbrev pub invariant-loop-step : goal.invariant-loop-step
invariant-loop-step g l = record {
  key : l.self.key ≡ l.initial.self.key;
  quiet : journal l.self.hub ≡ [];
  made : AreMade l.initial.self.key l.steps l.step-index l.text.items (state l.self.hub);
}
