use Rattle.std.proofs.Common.{◌≡◌, ◌++◌, drop}
use Rattle.vlm.specs.Clusters.{items_text}
use Rattle.vlm.proofs.told.items_text.Given as goal

-- what is printed so far and what is left give all items
abbrev pub invariant-loop-index : goal.invariant-loop-index
invariant-loop-index l = l.text.items ++ items_text l.node l.index (drop l.index l.items) ≡ l.initial.text.items ++ items_text l.node 0 l.items
