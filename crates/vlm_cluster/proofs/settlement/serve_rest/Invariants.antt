use Rattle.std.proofs.Common.{◌≡◌, ◌<◌, length}
use Rattle.vlm_ports.specs.Hubs.{journal, rings}
use Rattle.vlm_cluster.specs.Parts.{IsAccounted}
use Rattle.vlm_cluster.specs.Gates.{moves}
use Rattle.vlm_cluster.specs.Works.{AreTold, WorksStay}
use Rattle.vlm_cluster.proofs.settlement.serve_rest.Given as goal

abbrev pub invariant-loop : goal.invariant-loop
invariant-loop g l = record {
  rings : rings l.driver.hub ≡ rings l.initial.driver.hub;
  same : WorksStay l.initial.results l.results;
  told : AreTold (moves g.G.Gate.answers g.G.Gate.hears) l.initial.results l.results;
  accounted : IsAccounted l.driver.parts.items l.driver.hub;
  every : l.driver.every ≡ l.initial.driver.every;
  few : length (journal l.driver.hub) < l.driver.every;
}
