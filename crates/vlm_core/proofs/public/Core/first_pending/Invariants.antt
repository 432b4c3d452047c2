use Rattle.vlm_core.specs.Readers.{NonePendingBelow}
use Rattle.vlm_core.proofs.public.Core.first_pending.Given as goal

-- no process of the nodes before this one has an AST pending
abbrev pub invariant-loop-node : goal.invariant-loop-node
invariant-loop-node l = NonePendingBelow l.node l.fn.self.processes
