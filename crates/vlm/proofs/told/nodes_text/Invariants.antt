use Rattle.std.proofs.Common.{◌≡◌, ◌++◌, drop}
use Rattle.vlm.specs.Clusters.{nodes_text}
use Rattle.vlm.proofs.told.nodes_text.Given as goal

-- what is printed so far and what is left give all nodes
abbrev pub invariant-loop-index : goal.invariant-loop-index
invariant-loop-index l = l.text.items ++ nodes_text l.index (drop l.index l.nodes) ≡ l.initial.text.items ++ nodes_text 0 l.nodes
