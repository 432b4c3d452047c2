use Rattle.std.proofs.Common.{◌≡◌, ◌<◌, length}
use Rattle.vlm_ports.specs.Hubs.{journal, rings}
use Rattle.vlm_cluster.specs.Parts.{IsAccounted}
use Rattle.vlm_cluster.proofs.hub_driver.HubDriver.serve.Given as goal

abbrev pub invariant-loop : goal.invariant-loop
invariant-loop g l =
    (rings l.self.hub ≡ rings l.initial.self.hub) × IsAccounted l.self.parts.items l.self.hub × (l.self.every ≡ l.initial.self.every)
    × (length (journal l.self.hub) < l.self.every)
