use Rattle.std.proofs.Common.{◌≡◌, ◌+◌, ◌<◌, ◌≤◌, ℕ, get_or, vec_len}
use Rattle.std.specs.Prelude.{vec_capacity}
use Rattle.std.specs.Vec.Iter.{into_iter_items, into_iter_len}
use Rattle.vlm_cluster.specs.Gates.{moves}
use Rattle.vlm_cluster.specs.Works.{IsGatedWork, IsWorkOn, work_of}
use Rattle.vlm_cluster.proofs.threads.join_all.Given as goal

abbrev pub invariant-loop-child : goal.invariant-loop-child
invariant-loop-child g l =
    let done = vec_len l.results in let rest = l.child-iterator in let first = l.initial.child-iterator in
    (done + into_iter_len rest ≡ into_iter_len first)
    × ((k : ℕ) (h : _) → k < into_iter_len rest → get_or (into_iter_items rest) k h ≡ get_or (into_iter_items first) (done + k) h)
    × ((k : ℕ) (d : _) → k < done
    → (h : _) × (h ≡ get_or (into_iter_items first) k h)
    × IsWorkOn g.G.Gate.never_stops h.promise.port.value h.promise.list.value.items (work_of (get_or l.results.items k d))
    × IsGatedWork (moves g.G.Gate.answers g.G.Gate.hears) h.promise.gate.value h.promise.list.value.items (get_or l.results.items k d))
    × (into_iter_len first ≤ vec_capacity l.results)
