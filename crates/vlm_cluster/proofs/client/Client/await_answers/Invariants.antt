use Rattle.std.proofs.Common.{◌≡◌}
use Rattle.vlm_ports.specs.Ports.{identity, posted}
use Rattle.vlm_cluster.specs.Gates.{IsTold, moves}
use Rattle.vlm_cluster.proofs.client.Client.await_answers.Given as goal

abbrev pub invariant-loop : goal.invariant-loop
invariant-loop g l =
    (identity l.self.port ≡ identity l.initial.self.port) × (posted l.self.port ≡ posted l.initial.self.port)
    × IsTold (moves g.G.Gate.answers g.G.Gate.hears) (l.initial.gate, l.initial.self.items.items) (l.gate, l.self.items.items)
