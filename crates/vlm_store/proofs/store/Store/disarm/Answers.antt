use Rattle.vlm_collections.specs.Parts.{handle_in}
use Rattle.vlm_store.specs.Index.{hash_key}
use Rattle.vlm_store.proofs.WaitListed.{wait_list_disarmed}
use Rattle.std.proofs.Common.{None, ◌∙◌, ap, map, refl}
use Rattle.vlm_store.specs.HashedKeys.{hashed_at}
use Rattle.vlm_store.proofs.HashedKeys.{labels_same}
use Rattle.vlm_store.specs.Kept.{beside_shown}
use Rattle.vlm_store.specs.Records.{disarming}
use Rattle.vlm_records.specs.Shown.{but_queues, handles_at, rows}
use Rattle.vlm_store.specs.Store.{lkid_at, tables, under_handle}
use Rattle.vlm_store.proofs.Indexing.{Indexes-same}
use Rattle.vlm_store.proofs.KeptRecords.{faces_same}
use Rattle.vlm_store.proofs.Kinship.{queued_below, queued_lkids, queued_named, queued_owned, queued_processes, loose_but}
use Rattle.vlm_store.proofs.Layouts.{disarming-under_handle, lists_changed}
use Rattle.vlm_store.proofs.LivingProcesses.{is_sound, lock_there, stored_in_queue, stored_queued}
use Rattle.vlm_store.proofs.OrderOfMaking.{keys_same, order_handles, order_linked, order_whole}
use Rattle.vlm_store.proofs.RoomShown.{queues_room}
use Rattle.vlm_store.proofs.store.Store.disarm.Goals as goal

pub disarm-requires-clause-present : goal.disarm-requires-clause-present
disarm-requires-clause-present c =
    let stored = rw (← c.self.view_is) at c.requires in
    rw c.slot.ensures (lock_there c.self.inside c.self.invariant c.args.lock stored.0 stored.1).0

pub invariant_of-self : goal.invariant_of-self
invariant_of-self c =
    let s = c.self.inside in
    let kept = c.self.invariant in
    let q' = c.disarm.new.self in
    let rest = c.disarm.ensures.kept.rest in
    record {
      placed = c.disarm.ensures.laid_out.placed;
      tallied = c.disarm.ensures.laid_out.tallied;
      armed = c.disarm.ensures.laid_out.armed;
      wait_list = wait_list_disarmed s.queues q' s.wait_list kept.placed c.disarm.ensures.laid_out.placed
          c.disarm.ensures.wait_list c.disarm.ensures.loose c.disarm.ensures.handles kept.wait_list;
      linked = order_linked but_queues (λ r. refl) s.queues.resources q'.resources rest s.order kept.linked;
      ordered = order_whole but_queues (λ r. refl) s.queues.resources q'.resources rest s.order kept.linked kept.ordered;
      locks = Indexes-same (handle_in s.lock_index) (handle_in s.lock_index) (lkid_at s.queues) (lkid_at q') (λ k. refl)
          (queued_lkids s.processes s.queues.locks q'.locks c.disarm.ensures.kept.kin) kept.locks;
      resources = labels_same (hash_key s.keys) s.resource_index (hashed_at s.queues) (hashed_at q')
          (keys_same but_queues (λ r. refl) s.queues.resources q'.resources rest) kept.resources;
      owned = queued_owned s.processes s.queues.locks q'.locks c.disarm.ensures.kept.kin None kept.owned;
      below = queued_below s.processes s.queues.locks q'.locks c.disarm.ensures.kept.kin None kept.below;
      named = queued_named s.processes s.queues.locks q'.locks c.disarm.ensures.kept.kin kept.named;
      processes_linked = kept.processes_linked;
      processes_ordered = kept.processes_ordered;
      processes = kept.processes;
      marked = kept.marked;
      living = kept.living;
    }

pub returns-clause-disarmed : goal.returns-clause-disarmed
returns-clause-disarmed c =
    let s = c.self.inside in
    let q' = c.disarm.new.self in
    let rest = c.disarm.ensures.kept.rest in
    let is = rw c.slot.ensures at c.disarm.ensures in
    let stored = rw (← c.self.view_is) at c.requires in
    rw (← c.self.view_is)
    (lists_changed (tables s.queues s.order (beside_shown s))
    (tables q' s.order (beside_shown (record s { queues = q' }))) (disarming c.args.lock)
    (faces_same s.queues.resources q'.resources rest)
    (λ p. ap (map (under_handle (rows q'))) (is.handles p)
    ∙ disarming-under_handle (rows s.queues) (rows q') c.args.lock is.row is.rows p (handles_at s.queues p))
    (order_handles but_queues (λ r. refl) s.queues.resources q'.resources rest s.order c.self.invariant.linked)
    (queued_processes s.processes s.queues.locks q'.locks c.disarm.ensures.kept.kin s.process_order
    (loose_but s.queues.locks q'.locks c.args.lock c.disarm.ensures.loose
    (stored_queued s c.self.invariant c.args.lock stored.0 stored.1) is.rows) c.self.invariant.owned
    c.self.invariant.below)
    (queues_room s q' c.disarm.ensures.kept.locks_room c.disarm.ensures.kept.resources_room) refl)

pub returns-clause-sound : goal.returns-clause-sound
returns-clause-sound c = record { before = rw (← c.self.view_is) (is_sound c.self.inside c.self.invariant); after = is_sound _ (invariant_of-self c) }

pub disarm-requires-clause-in_queue : goal.disarm-requires-clause-in_queue
disarm-requires-clause-in_queue c =
    let stored = rw (← c.self.view_is) at c.requires in
    rw c.slot.ensures (stored_in_queue c.self.inside c.self.invariant c.args.lock stored.0 stored.1)
