use Rattle.std.proofs.Common.{◌≡◌}
use Rattle.vlm_cycle.specs.Marking.{KeepsRoom}
use Rattle.vlm_cycle.proofs.Searched.{IsSearched, to_go}
use Rattle.vlm_cycle.proofs.deadlocks.is_deadlocked.Given as goal

abbrev pub invariant-loop-pid : goal.invariant-loop-pid
invariant-loop-pid l = IsSearched l.store l.waiting l.scratch × KeepsRoom l.initial.scratch l.scratch × (l.scratch.ranks ≡ l.initial.scratch.ranks)

-- each turn takes a process that the search has to go to, and each process is found once
abbrev pub decreases-loop-pid : goal.decreases-loop-pid
decreases-loop-pid l = to_go l.scratch l.store.processes
