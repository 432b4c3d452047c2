use Rattle.vlm_ports.specs.Watching.{IsAsBefore}
use Rattle.vlm_hub_tests.proofs.onlookers.Onlooker.look_often.Given as goal

abbrev pub invariant-loop : goal.invariant-loop
invariant-loop l = IsAsBefore l.initial.self.watcher l.self.watcher
