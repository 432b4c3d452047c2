use Rattle.std.proofs.Common.{◌≡◌, [], map, replicate}
use Rattle.vlm_script.proofs.node_lists.empty_lists.Given as goal

abbrev pub invariant-loop-node : goal.invariant-loop-node
invariant-loop-node l = map (λ v. v.items) l.lists.items ≡ replicate l._node []
