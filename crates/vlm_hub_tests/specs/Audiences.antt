-- What becomes of watchers that look on.
use Rattle.std.specs.Prelude.{◌≡◌, ◌<◌, ℕ, List, length, slice_index_or}
use Rattle.vlm_ports.specs.declared.watch.watcher.Watcher.{Watcher}
use Rattle.vlm_ports.specs.Watching.{IsAsBefore}

-- each has a watcher of the same board still, and of as many keys
pub record LookedOn {X : Type 0} (watcher : X → Watcher) (old new : List X) : Type 0 where
  pub count : length new ≡ length old
  pub each : (k : ℕ) (d : X) → k < length old
      → IsAsBefore (watcher (slice_index_or old k d)) (watcher (slice_index_or new k d))
