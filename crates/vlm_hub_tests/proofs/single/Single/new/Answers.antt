use Rattle.std.proofs.Common.{◌≡◌, List, ◌∷◌, arith, sym, subst, ◌∙◌}
use Rattle.std.specs.Prelude.{All}
use Rattle.std.specs.Vec.Iter.{into_iter_items}
use Rattle.vlm_ports.specs.Hubs.{IsPortOf}
use Rattle.vlm_ports.specs.declared.port.Port.{Port}
use Rattle.vlm_hub_tests.proofs.single.Single.new.Goals as goal

pub invariant_of-result : goal.invariant_of-result
invariant_of-result c =
    let port = c.in-Some.port in let hub = c.in_ok-hub.hub in
    let rest : List Port = into_iter_items c.next.new.self in
    let all : c.in_ok-hub.ports.items ≡ port ∷ rest = sym c.into_iter.ensures.rest ∙ c.in-Some.ensures.items in
    let ours : All (IsPortOf hub) (port ∷ rest) = subst (All (IsPortOf hub)) all c.in_ok-hub.ensures.ours in
    record { ours = ours 0 port (omega arith); unwatched = c.in_ok-hub.ensures.hub.unwatched }
