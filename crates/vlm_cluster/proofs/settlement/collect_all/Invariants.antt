use Rattle.std.proofs.Common.{◌≡◌, map}
use Rattle.vlm_cluster.specs.Gates.{moves}
use Rattle.vlm_cluster.specs.Works.{AreTold, work_of}
use Rattle.vlm_cluster.proofs.settlement.collect_all.Given as goal

abbrev pub invariant-loop-at : goal.invariant-loop-at
invariant-loop-at g l =
    (map work_of l.results ≡ map work_of l.initial.results) × AreTold (moves g.G.Gate.answers g.G.Gate.hears) l.initial.results l.results
