use Rattle.std.proofs.Common.{take}
use Rattle.vlm_core.specs.Running.{MakesInOrder}
use Rattle.vlm_core.proofs.runs.run_steps.Given as goal

-- the steps so far are made
abbrev pub invariant-loop-done : goal.invariant-loop-done
invariant-loop-done l = MakesInOrder l.initial.core (take l.done l.steps) l.initial.answers.items l.answers.items l.core
