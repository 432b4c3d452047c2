-- Views of a resource and of a lock.
use Rattle.std.specs.Prelude.{ℕ, List, ◌++◌, length, Option, None, Some, slice_get}
use Rattle.std.specs.Option.{option_map}
use Rattle.vlm_words.specs.declared.locks.LockState.{LockState}
use Rattle.vlm_words.specs.declared.resources.Queue.{Queue}
use Rattle.vlm_words.specs.declared.resources.Queue.TheVariants.{Granted, Conversion, Waiting}
use Rattle.vlm_words.specs.Rows.{mode_asked}
use Rattle.vlm_words.specs.State.{Resource}
use Rattle.vlm_store.specs.Held.{held_counts}
use Rattle.vlm_queue.specs.declared.views.ResourceView.{ResourceView}
use Rattle.vlm_queue.specs.declared.views.RowView.{RowView}
use Rattle.vlm_queue.specs.declared.views.Usage.{Usage}

-- the view of a resource, without its queues
abbrev pub resource_view : Resource → ResourceView
resource_view r = record {
  serial = r.serial;
  parent = r.parent;
  domain = r.domain;
  name = r.name;
  value = r.value_block.value;
  valid = r.value_block.valid;
  tail = r.value_block.tail;
  tail_valid = r.value_block.tail_valid;
}

-- the use of a resource: how many locks hold each mode, how many are queued, and its value block without the tail
abbrev pub usage : Resource → Usage
usage r = record {
  held = held_counts (r.granted ++ r.converting);
  conversions = length r.converting;
  waiters = length r.waiting;
  value = r.value_block.value;
  valid = r.value_block.valid;
}

-- a queue of a resource
abbrev pub rows_in : Queue → Resource → List LockState
rows_in Granted r = r.granted
rows_in Conversion r = r.converting
rows_in Waiting r = r.waiting

-- the view of a lock
abbrev pub row_view : LockState → RowView
row_view row = record { lkid = row.lkid; pid = row.pid; held = mode_asked row.held; want = mode_asked row.want }

-- the lock at an index of a queue, if the resource and the lock exist
abbrev pub row_shown : Option Resource → Queue → ℕ → Option RowView
row_shown None queue index = None
row_shown (Some r) queue index = option_map row_view (slice_get (rows_in queue r) index)
