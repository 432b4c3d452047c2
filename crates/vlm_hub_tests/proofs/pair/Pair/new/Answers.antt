use Rattle.std.proofs.Common.{◌≡◌, List, ◌∷◌, ap, arith, sym, subst, ◌∙◌}
use Rattle.std.specs.Prelude.{All}
use Rattle.std.specs.Vec.Iter.{into_iter_items}
use Rattle.vlm_ports.specs.Hubs.{IsPortOf}
use Rattle.vlm_ports.specs.declared.port.Port.{Port}
use Rattle.vlm_hub_tests.proofs.pair.Pair.new.Goals as goal

pub invariant_of-result : goal.invariant_of-result
invariant_of-result c =
    let a = c.in-Some-Some.first in let b = c.in-Some-Some.second in let hub = c.in_ok-hub.hub in
    let rest : List Port = into_iter_items c.next-2.new.self in
    let all : c.in_ok-hub.ports.items ≡ a ∷ b ∷ rest =
    sym c.into_iter-ports.ensures.rest ∙ c.in-Some-Some.ensures.items ∙ ap (λ ps. a ∷ ps) c.in-Some-Some.ensures'.items in
    let ours : All (IsPortOf hub) (a ∷ b ∷ rest) = subst (All (IsPortOf hub)) all c.in_ok-hub.ensures.ours in
    record { ours = (ours 0 a (omega arith), ours 1 a (omega arith)); unwatched = c.in_ok-hub.ensures.hub.unwatched }
