use Rattle.std.proofs.Common.{◌≡◌, ◌∙◌, ◌+◌, ◌++◌, ◌∷◌, [], ℕ, List, ap, ap₂, arith, length, map, subst, sym}
use Rattle.std.proofs.lemmas.List.{map-append}
use Rattle.vlm_ports.specs.declared.node_rings.NodeRings.{NodeRings}
use Rattle.vlm_ports.specs.declared.port.Port.{Port}
use Rattle.vlm_ports.specs.Links.{AreFresh, has_taken, has_told, node_rings_identity}
use Rattle.vlm_ports.specs.Ports.{AreNew, identity, posted, taken}
use Rattle.vlm_ports.specs.Rings.{RingName}
use Rattle.vlm_ports.proofs.Making.{pushed_each}
use Rattle.vlm_ports.proofs.hub.ring_ends.Goals as goal

-- one line and one port more
pub loop-at-preserved : goal.loop-at-preserved
loop-at-preserved c =
    let ls = c.loop-at.all_node_rings.items in let ps = c.loop-at.ports.items in
    let l = c.in_ok-node_rings.node_rings in let p = c.in_ok-node_rings.port in
    let before = c.loop-at.invariant in
    let all_node_rings : c.push.new.self.items ≡ ls ++ l ∷ [] = c.in_ok-push.ensures.items in
    let ports : c.push-in-loop-at.new.self.items ≡ ps ++ p ∷ [] = c.in_ok-push-2.ensures.items in
    let made = c.in_ok-node_rings.ensures in
    let node_rings_node : l.node ≡ length ls + 1 = omega (arith, made.node_rings.0, before.0) in
    let port_node : p.node ≡ length ps + 1 = omega (arith, made.port.0, before.1) in
    let fresh : AreFresh (ls ++ l ∷ []) =
    pushed_each (λ k (x : NodeRings). (x.node ≡ k + 1) × (has_taken x ≡ [])
    × (has_told x ≡ [])) ls l before.2 (node_rings_node, made.node_rings.1, made.node_rings.2) in
    let new : AreNew (ps ++ p ∷ []) =
    pushed_each (λ k (x : Port). (x.node ≡ k + 1) × (posted x ≡ []) × (taken x ≡ [])) ps p before.3 (port_node, made.port.1, made.port.2) in
    let rings : map identity (ps ++ p ∷ []) ≡ map node_rings_identity (ls ++ l ∷ []) =
    map-append identity ps (p ∷ [])
    ∙ ap₂ (λ (a b : List (ℕ × RingName × RingName)). a ++ b) before.4 (ap (λ (r : ℕ × RingName × RingName). r ∷ []) (sym made.rings))
    ∙ sym (map-append node_rings_identity ls (l ∷ [])) in (
      omega (arith, c.in_ok-push.ensures.len, before.0),
      omega (arith, c.in_ok-push-2.ensures.len, before.1),
      subst AreFresh (sym all_node_rings) fresh,
      subst AreNew (sym ports) new,
      ap (map identity) ports ∙ rings ∙ sym (ap (map node_rings_identity) all_node_rings),
    )
