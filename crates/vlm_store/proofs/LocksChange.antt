-- What the store's invariant says after a lock comes, goes, or changes its queue.
use Rattle.std.proofs.Common.{None, refl}
use Rattle.slab.specs.Slab.{Slab}
use Rattle.vlm_collections.specs.declared.lists.LinkedList.{LinkedList}
use Rattle.vlm_collections.specs.declared.parted.PartedIndex.{PartedIndex}
use Rattle.vlm_collections.specs.Parts.{handle_in}
use Rattle.vlm_records.specs.declared.handles.LockKind.{LockKind}
use Rattle.vlm_records.specs.declared.locks.InWaitList.{InWaitList}
use Rattle.vlm_records.specs.declared.locks.Lock.{Lock}
use Rattle.vlm_records.specs.declared.processes.Process.{Process}
use Rattle.vlm_records.specs.declared.queues.Queues.{Queues}
use Rattle.vlm_records.specs.Armed.{IsLaidOut}
use Rattle.vlm_records.specs.Kin.{IsBelow, IsNamed, IsOwned, but_own, pid_at}
use Rattle.vlm_records.specs.Shown.{SameBut, but_in_wait_list, but_kin, but_queued, but_queues}
use Rattle.vlm_records.specs.WaitList.{IsWaitList}
use Rattle.vlm_records.proofs.Arming.{armed_kin}
use Rattle.vlm_records.proofs.PlacesOnLists.{same_then}
use Rattle.vlm_store.specs.declared.store.Store.TheInside.{Inside}
use Rattle.vlm_store.specs.HashedKeys.{hashed_at}
use Rattle.vlm_store.specs.Index.{Indexes, handle_by, hash_key}
use Rattle.vlm_store.specs.Kept.{IsKept}
use Rattle.vlm_store.specs.Pending.{is_of_nodes, waits_in}
use Rattle.vlm_store.specs.Store.{lkid_at}
use Rattle.vlm_store.proofs.HashedKeys.{labels_same}
use Rattle.vlm_store.proofs.Indexing.{Indexes-same}
use Rattle.vlm_store.proofs.Kinship.{kin_handles, kin_placed, kin_rows, kin_tallied, own_pids, own_process_linked, own_process_whole}
use Rattle.vlm_store.proofs.Kinship.{queued_below, queued_lkids, queued_named, queued_owned}
use Rattle.vlm_store.proofs.MarkedProcesses.{nodes-own, own_marked, waits-own}
use Rattle.vlm_store.proofs.OrderOfMaking.{keys_same, order_linked, order_whole}
use Rattle.vlm_store.proofs.WaitListed.{wait_list_queued}

-- the queues of a store are laid out
pub laid_out_kept : {s : Inside} → IsKept s → IsLaidOut s.queues
laid_out_kept kept = record { placed = kept.placed; tallied = kept.tallied; armed = kept.armed }

-- so they are after locks change their lists of kin, or the wait list
pub laid_out_kin : (q : Queues) (locks : Slab Lock) → SameBut but_kin q.locks locks → IsLaidOut q → IsLaidOut (record q { locks = locks })
laid_out_kin q locks kin was = record {
  placed = kin_placed q locks kin was.placed;
  tallied = kin_tallied q locks kin was.placed was.tallied;
  armed = λ which. armed_kin which q locks kin (kin_handles q locks kin was.placed) (kin_rows q locks kin) (was.armed which);
}

-- what the invariant says of locks
pub record AreLocksKept (s : Inside) : Type 0 where
  pub laid_out : IsLaidOut s.queues
  pub wait_list : IsWaitList s.queues.locks s.wait_list None
  pub locks : Indexes (handle_in s.lock_index) (lkid_at s.queues)
  pub owned : IsOwned s.processes s.queues.locks None
  pub below : IsBelow s.queues.locks None
  pub named : IsNamed s.processes s.queues.locks

module _ {s : Inside} (kept : IsKept s) (q : Queues) (wait_list : LinkedList InWaitList)
    (resources_same : SameBut but_queues s.queues.resources q.resources) where
  -- where resources and processes keep all but their lists of locks, the invariant holds if it does of locks
  pub kept_with_locks : (processes : Slab Process) (lock_index : PartedIndex LockKind) → SameBut but_own s.processes processes
      → AreLocksKept (record s { queues = q; wait_list = wait_list; processes = processes; lock_index = lock_index })
      → IsKept (record s { queues = q; wait_list = wait_list; processes = processes; lock_index = lock_index })
  kept_with_locks processes lock_index same are = record {
    placed = are.laid_out.placed;
    tallied = are.laid_out.tallied;
    armed = are.laid_out.armed;
    wait_list = are.wait_list;
    linked = order_linked but_queues (λ r. refl) s.queues.resources q.resources resources_same s.order kept.linked;
    ordered = order_whole but_queues (λ r. refl) s.queues.resources q.resources resources_same s.order kept.linked kept.ordered;
    locks = are.locks;
    resources = labels_same (hash_key s.keys) s.resource_index (hashed_at s.queues) (hashed_at q)
        (keys_same but_queues (λ r. refl) s.queues.resources q.resources resources_same) kept.resources;
    owned = are.owned;
    below = are.below;
    named = are.named;
    processes_linked = own_process_linked s.processes processes same s.process_order kept.processes_linked;
    processes_ordered = own_process_whole s.processes processes same s.process_order kept.processes_linked kept.processes_ordered;
    processes = Indexes-same (handle_by s.process_index) (handle_by s.process_index) (pid_at s.processes) (pid_at processes) (λ _. refl)
        (own_pids s.processes processes same) kept.processes;
    marked = own_marked waits_in waits-own s.processes processes s.pending same kept.marked;
    living = own_marked is_of_nodes nodes-own s.processes processes s.living same kept.living;
  }

  -- it holds if locks change their queues alone
  pub kept_requeued : IsLaidOut q → IsWaitList q.locks wait_list None → SameBut but_queued s.queues.locks q.locks
      → IsKept (record s { queues = q; wait_list = wait_list })
  kept_requeued laid_out listed queued = kept_with_locks s.processes s.lock_index (λ p. refl) (record {
    laid_out = laid_out;
    wait_list = listed;
    locks = Indexes-same (handle_in s.lock_index) (handle_in s.lock_index) (lkid_at s.queues) (lkid_at q) (λ k. refl)
        (queued_lkids s.processes s.queues.locks q.locks queued) kept.locks;
    owned = queued_owned s.processes s.queues.locks q.locks queued None kept.owned;
    below = queued_below s.processes s.queues.locks q.locks queued None kept.below;
    named = queued_named s.processes s.queues.locks q.locks queued kept.named;
  })

-- a lock leaves the wait list, changes its queue, and joins the wait list: of all locks the queue alone changes
pub queued_through : (locks locks1 locks2 locks3 : Slab Lock) → SameBut but_in_wait_list locks locks1 → SameBut but_queued locks1 locks2
    → SameBut but_in_wait_list locks2 locks3 → SameBut but_queued locks locks3
queued_through locks locks1 locks2 locks3 left moved joined =
    same_then but_queued locks locks2 locks3
    (same_then but_queued locks locks1 locks2 (wait_list_queued locks locks1 left) moved) (wait_list_queued locks2 locks3 joined)
