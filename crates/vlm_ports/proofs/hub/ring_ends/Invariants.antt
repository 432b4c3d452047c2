use Rattle.std.proofs.Common.{◌≡◌, map, vec_len}
use Rattle.vlm_ports.specs.Links.{AreFresh, node_rings_identity}
use Rattle.vlm_ports.specs.Ports.{AreNew, identity}
use Rattle.vlm_ports.proofs.hub.ring_ends.Given as goal

abbrev pub invariant-loop-at : goal.invariant-loop-at
invariant-loop-at l =
    (vec_len l.all_node_rings ≡ l.at) × (vec_len l.ports ≡ l.at) × AreFresh l.all_node_rings.items × AreNew l.ports.items
    × (map identity l.ports.items ≡ map node_rings_identity l.all_node_rings.items)
