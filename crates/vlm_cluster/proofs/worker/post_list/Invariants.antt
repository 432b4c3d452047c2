use Rattle.std.proofs.Common.{◌≡◌, ◌≤◌, ◌++◌, length, take}
use Rattle.vlm_ports.specs.Ports.{identity, posted}
use Rattle.vlm_cluster.specs.Gates.{IsGuided, moves, open_at}
use Rattle.vlm_cluster.proofs.worker.post_list.Given as goal

abbrev pub invariant-loop : goal.invariant-loop
invariant-loop g l = record {
  same : identity l.client.port ≡ identity l.initial.client.port;
  posted : posted l.client.port ≡ posted l.initial.client.port ++ take l.next l.list;
  within : l.next ≤ length l.list;
  node : l.client.port.node ≡ l.initial.client.port.node;
  guided : IsGuided (moves g.G.Gate.answers g.G.Gate.hears) (l.initial.gate, l.initial.client.items.items) (l.gate, l.client.items.items)
      (open_at 0) (open_at l.next);
}
