use Rattle.std.proofs.Common.{◌≡◌}
use Rattle.vlm_ports.specs.Ports.{identity}
use Rattle.vlm_hub_tests.proofs.threads.search.Given as goal

abbrev pub invariant-loop : goal.invariant-loop
invariant-loop g l =
    (goal.iterator-loop g).can_next l.iterator' × (goal.iterator-loop g).is_finite l.iterator'
    × (identity l.port ≡ identity l.initial.port)
