use Rattle.std.proofs.Common.{◌≡◌, ◌<◌, ◌≤◌, ℕ, get_or}
use Rattle.vlm_cluster.proofs.finish.note_posted.Given as goal

abbrev pub invariant-loop-at : goal.invariant-loop-at
invariant-loop-at g l = record {
  each : (k : ℕ) (d : _) → k < l.at → get_or l.posted k 0 ≡ (get_or l.results k d).posted;
  others : (k : ℕ) → l.at ≤ k → get_or l.posted k 0 ≡ get_or l.initial.posted k 0;
}
