use Rattle.std.proofs.Common.{◌≡◌}
use Rattle.vlm_ports.specs.Hubs.{rings}
use Rattle.vlm_ports.specs.Watched.{board}
use Rattle.vlm_hub_tests.proofs.threads.serve.Given as goal

abbrev pub invariant-loop : goal.invariant-loop
invariant-loop g l =
    (goal.iterator-loop g).can_next l.iterator' × (goal.iterator-loop g).is_finite l.iterator'
    × (rings l.hub ≡ rings l.initial.hub) × (board l.hub ≡ board l.initial.hub)
