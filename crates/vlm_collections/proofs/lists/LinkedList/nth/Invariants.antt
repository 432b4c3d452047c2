use Rattle.std.proofs.Common.{◌≡◌, slice_get}
use Rattle.vlm_collections.specs.Lists.{handles_of}
use Rattle.vlm_collections.proofs.lists.LinkedList.nth.Given as goal

-- the walk has come to the handle at the index that is counted
abbrev pub invariant-loop : goal.invariant-loop
invariant-loop g l = l.at ≡ slice_get (handles_of g.T.Linked.links l.nodes l.self) l.counter
