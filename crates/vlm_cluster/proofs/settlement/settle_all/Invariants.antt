use Rattle.std.proofs.Common.{◌≡◌, true}
use Rattle.vlm_ports.specs.Hubs.{journal, rings}
use Rattle.vlm_cluster.specs.Parts.{IsAccounted}
use Rattle.vlm_cluster.specs.Gates.{moves}
use Rattle.vlm_cluster.specs.Works.{AreTold, HoldsOfWorks, IsBegun, IsWhole, entries_at, WorksStay}
use Rattle.vlm_cluster.proofs.settlement.settle_all.Given as goal

abbrev pub invariant-loop-at : goal.invariant-loop-at
invariant-loop-at g l = record {
  rings : rings l.driver.hub ≡ rings l.initial.driver.hub;
  same : WorksStay l.initial.results l.results;
  told : AreTold (moves g.G.Gate.answers g.G.Gate.hears) l.initial.results l.results;
  accounted : IsAccounted l.driver.parts.items l.driver.hub;
  journal : journal l.driver.hub ≡ journal l.initial.driver.hub;
  every : l.driver.every ≡ l.initial.driver.every;
  begun : HoldsOfWorks (IsBegun (entries_at l.driver)) l.results l.at;
  whole : l.all ≡ true → HoldsOfWorks (IsWhole (entries_at l.driver)) l.results l.at;
}
