use Rattle.std.proofs.Common.{◌≡◌, ◌≤◌, ◌+◌, length, map}
use Rattle.std.specs.Prelude.{vec_capacity}
use Rattle.std.specs.Vec.Iter.{into_iter_len}
use Rattle.vlm_hub_tests.proofs.watched.seat.Given as goal

abbrev pub invariant-loop-watcher : goal.invariant-loop-watcher
invariant-loop-watcher l =
    (map (λ o. o.watcher) l.onlookers.items ≡ l.yielded)
    × (length l.yielded + into_iter_len l.watcher-iterator ≡ into_iter_len l.initial.watcher-iterator)
    × (into_iter_len l.initial.watcher-iterator ≤ vec_capacity l.onlookers)
