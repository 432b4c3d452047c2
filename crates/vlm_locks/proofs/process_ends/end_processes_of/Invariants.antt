use Rattle.std.proofs.Common.{length}
use Rattle.vlm_words.specs.Steps.{is_of_node}
use Rattle.vlm_locks.proofs.NodeGone.{AreEnding}
use Rattle.vlm_locks.proofs.process_ends.end_processes_of.Given as goal

-- the processes of the node end so far
abbrev pub invariant-loop-pid : goal.invariant-loop-pid
invariant-loop-pid l = AreEnding (is_of_node l.node) l.initial.store l.store l.initial.touched l.touched

-- each turn ends one
abbrev pub decreases-loop-pid : goal.decreases-loop-pid
decreases-loop-pid l = length l.store.processes
