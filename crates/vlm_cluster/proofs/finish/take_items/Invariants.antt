use Rattle.std.proofs.Common.{◌≡◌, ◌≤◌, ◌+◌, length, map}
use Rattle.std.specs.Prelude.{vec_capacity}
use Rattle.std.specs.Vec.Iter.{into_iter_len}
use Rattle.vlm_cluster.proofs.finish.take_items.Given as goal

abbrev pub invariant-loop-worker : goal.invariant-loop-worker
invariant-loop-worker g l =
    (l.items.items ≡ map (λ d. d.client.items) l.yielded)
    × (length l.yielded + into_iter_len l.worker-iterator ≡ into_iter_len l.initial.worker-iterator)
    × (into_iter_len l.initial.worker-iterator ≤ vec_capacity l.items)
