use Rattle.vlm_records.proofs.NodesCleared.{AreCleared}
use Rattle.vlm_records.proofs.node_marks.NodeMarks.clear.Given as goal

-- the nodes before this one are cleared
abbrev pub invariant-loop-place : goal.invariant-loop-place
invariant-loop-place l = AreCleared l.place l.initial.self-inside.nodes l.self-inside.nodes
