use Rattle.std.proofs.Common.{◌≡◌}
use Rattle.vlm_queue.specs.Walks.{resource_at_index}
use Rattle.vlm_queue.proofs.walks.nth_resource.Given as goal

-- the walk has come to the resource at the index that is counted
abbrev pub invariant-loop : goal.invariant-loop
invariant-loop l = l.at ≡ resource_at_index l.counter l.store.resources
