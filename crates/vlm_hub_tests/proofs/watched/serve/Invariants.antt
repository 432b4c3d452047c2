use Rattle.vlm_ports.specs.Hubs.{IsPortOf}
use Rattle.vlm_ports.specs.Watched.{IsWatchedAsBefore}
use Rattle.vlm_hub_tests.proofs.watched.serve.Given as goal

abbrev pub invariant-loop : goal.invariant-loop
invariant-loop g l = IsPortOf l.hub l.port × IsWatchedAsBefore l.initial.hub l.hub
