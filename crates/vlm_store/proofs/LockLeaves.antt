-- A lock leaves its queue, its process and its parent.
use Rattle.std.proofs.Common.{◌≡◌, ◌≢◌, ℕ, [], map, None, Some, refl, sym, ap, ◌∙◌, subst, inl, inr}
use Rattle.std.proofs.lemmas.Bool.{cases_eq}
use Rattle.std.proofs.lemmas.Option.{none-some}
use Rattle.std.specs.Option.{option_map}
use Rattle.slab.specs.Slab.{Slab, get, ContainsKey}
use Rattle.vlm_collections.specs.declared.lists.LinkedList.{LinkedList}
use Rattle.vlm_collections.specs.declared.parted.PartedIndex.{PartedIndex}
use Rattle.vlm_collections.specs.Parts.{handle_in}
use Rattle.vlm_collections.specs.Lists.{IsIn, Relinks, next_in, prev_in, without}
use Rattle.vlm_records.specs.declared.handles.LockKind.{LockKind}
use Rattle.vlm_records.specs.declared.locks.InWaitList.{InWaitList}
use Rattle.vlm_records.specs.declared.locks.Lock.{Lock}
use Rattle.vlm_records.specs.declared.processes.Process.{Process}
use Rattle.vlm_records.specs.declared.queues.Queues.{Queues}
use Rattle.vlm_records.specs.Changes.{Removes}
use Rattle.vlm_store.specs.declared.store.Store.TheInside.{Inside}
use Rattle.vlm_store.specs.Index.{Indexes, spares_by}
use Rattle.vlm_store.specs.KeyIndexes.{spares_in}
use Rattle.vlm_store.specs.Kept.{IsKept, beside_shown, processes_shown, records_shown}
use Rattle.vlm_store.specs.Records.{leaving, process_without_lock, with_lists, with_lock_room, without_stored_lock}
use Rattle.vlm_store.specs.Store.{lkid_at, records_of, tables}
use Rattle.vlm_records.specs.Shown.{SameBut, but_in_wait_list, but_kin, but_queued, but_queues, handles_at, lkid_of, loose_in, room_in, rows}
use Rattle.vlm_records.specs.WaitList.{IsWaitList, wait_list_in}
use Rattle.vlm_records.specs.Kin.{IsBelow, IsNamed, IsOwned, below_in, below_handles, below_links, below_list}
use Rattle.vlm_records.specs.Kin.{but_below, but_own, lasting_part, own_handles, own_links, own_list, owner_in}
use Rattle.vlm_records.specs.Kin.{parent_in, with_own_links}
use Rattle.vlm_store.specs.Holdings.{holding, processes_of}
use Rattle.vlm_records.proofs.Families.{family-other_handles, family-shrunk}
use Rattle.vlm_store.proofs.Kinship.{below-queued, below_kin, below_named, below_next-queued, below_own_handles}
use Rattle.vlm_store.proofs.Kinship.{below_prev-queued, lkid-named, named-removed, own_below, own_below_handles}
use Rattle.vlm_store.proofs.Kinship.{own_kin, own_named, own_next-queued, own_pids, own_faces, own_prev-queued}
use Rattle.vlm_store.proofs.Kinship.{own_process_handles, owner-queued, parent-queued}
use Rattle.vlm_store.proofs.Kinship.{kin_handles, kin_loose, kin_placed, kin_rows, loose_still, records_processes}
use Rattle.vlm_records.proofs.PlacesOnLists.{by_part, there_by_part, named-queued, same_then}
use Rattle.vlm_records.proofs.Making.{no_list_has}
use Rattle.vlm_store.proofs.KeptRecords.{faces_same}
use Rattle.vlm_store.proofs.Layouts.{leaving-under_handle, lists_changed_beside}
use Rattle.vlm_store.proofs.LocksChange.{kept_with_locks}
use Rattle.vlm_store.proofs.Members.{lock_left}
use Rattle.vlm_store.proofs.OrderOfMaking.{order_handles}
use Rattle.vlm_store.proofs.RoomShown.{room_of_same, room_shown, rooms_are}
use Rattle.vlm_store.proofs.WaitListed.{wait_list_kin, wait_list_queued, wait_list_removed}

-- a lock without sublocks leaves its parent, its process, the wait list and its queue, and its record is gone
pub record Leaves (s : Inside) (at : ℕ) (locks1 locks2 locks3 : Slab Lock) (processes2 : Slab Process) (q' : Queues) : Type 0 where
  pub kept : IsKept s
  pub childless : below_handles s.queues.locks at ≡ []
  pub below : IsBelow locks1 (Some at)
  pub below_left : (p : ℕ) → below_handles locks1 p ≡ without at (below_handles s.queues.locks p)
  pub below_rest : SameBut but_below s.queues.locks locks1
  pub owned : IsOwned processes2 locks2 (Some at)
  pub own_left : (p : ℕ) → own_handles processes2 locks2 p ≡ without at (own_handles s.processes locks1 p)
  pub relinks : Relinks with_own_links locks1 locks2
  pub own_rest : SameBut but_own s.processes processes2
  pub unlisted : SameBut but_in_wait_list locks2 locks3
  pub removed : Removes at (record s.queues { locks = locks3 }) q'

-- the queues see nothing of the first three
pub kin_left : (s : Inside) (locks1 locks2 locks3 : Slab Lock) → SameBut but_below s.queues.locks locks1
    → Relinks with_own_links locks1 locks2 → SameBut but_in_wait_list locks2 locks3 → SameBut but_kin s.queues.locks locks3
kin_left s locks1 locks2 locks3 below own unlisted =
    same_then but_kin s.queues.locks locks2 locks3
    (same_then but_kin s.queues.locks locks1 locks2 (below_kin s.processes s.queues.locks locks1 below) (own_kin locks1 locks2 own))
    (wait_list_kin locks2 locks3 unlisted)

module _ {s : Inside} {at : ℕ} {locks1 locks2 locks3 : Slab Lock} {processes2 : Slab Process} {q' : Queues}
    (leaves : Leaves s at locks1 locks2 locks3 processes2 q') where
  kin3 : SameBut but_kin s.queues.locks locks3
  kin3 = kin_left s locks1 locks2 locks3 leaves.below_rest leaves.relinks leaves.unlisted

  -- the records of other locks change in the links of the queues alone after that
  others : (k : ℕ) → k ≢ at → option_map but_queued (get q'.locks k) ≡ option_map but_queued (get locks2 k)
  others k differs = leaves.removed.kin k differs ∙ wait_list_queued locks2 locks3 leaves.unlisted k

  still_there : (k : ℕ) → k ≢ at → ContainsKey locks2 k → ContainsKey q'.locks k
  still_there k differs = there_by_part but_queued (get q'.locks k) (get locks2 k) (others k differs)

  own_nexts : (k : ℕ) → k ≢ at → next_in own_links (get q'.locks k) ≡ next_in own_links (get locks2 k)
  own_nexts k differs = by_part but_queued (next_in own_links) own_next-queued (get q'.locks k) (get locks2 k) (others k differs)

  own_prevs : (k : ℕ) → k ≢ at → prev_in own_links (get q'.locks k) ≡ prev_in own_links (get locks2 k)
  own_prevs k differs = by_part but_queued (prev_in own_links) own_prev-queued (get q'.locks k) (get locks2 k) (others k differs)

  below_nexts : (k : ℕ) → k ≢ at → next_in below_links (get q'.locks k) ≡ next_in below_links (get locks2 k)
  below_nexts k differs = by_part but_queued (next_in below_links) below_next-queued (get q'.locks k) (get locks2 k) (others k differs)

  below_prevs : (k : ℕ) → k ≢ at → prev_in below_links (get q'.locks k) ≡ prev_in below_links (get locks2 k)
  below_prevs k differs = by_part but_queued (prev_in below_links) below_prev-queued (get q'.locks k) (get locks2 k) (others k differs)

  pub left_owned : IsOwned processes2 q'.locks None
  left_owned =
      family-shrunk own_links owner_in locks2 (own_list processes2) (Some at) leaves.owned q'.locks (own_list processes2)
      (λ p. refl) at (λ p. leaves.owned.gone p at refl) own_nexts own_prevs still_there
      (λ k differs. by_part but_queued owner_in owner-queued (get q'.locks k) (get locks2 k) (others k differs))
      (λ p is. none-some p (sym (ap owner_in leaves.removed.gone) ∙ is)) refl

  below2 : IsBelow locks2 (Some at)
  below2 = own_below locks1 locks2 leaves.relinks (Some at) leaves.below

  below_handles2 : (p : ℕ) → below_handles locks2 p ≡ without at (below_handles s.queues.locks p)
  below_handles2 p = own_below_handles locks1 locks2 leaves.relinks (Some at) leaves.below p ∙ leaves.below_left p

  heads : (k : ℕ) → below_list q'.locks k ≡ below_list locks2 k
  heads k =
      elim (cases_eq k at) [
        | inl same ↦
            ap (below_list q'.locks) same ∙ ap below_in leaves.removed.gone
            ∙ sym (ap (below_list locks2) same
            ∙ no_list_has below_links locks2 (below_list locks2 at) (below2.linked at) (below_handles2 at
            ∙ ap (without at) leaves.childless))
        | inr differs ↦ by_part but_queued below_in below-queued (get q'.locks k) (get locks2 k) (others k differs)
      ]

  pub left_below : IsBelow q'.locks None
  left_below =
      family-shrunk below_links parent_in locks2 (below_list locks2) (Some at) below2 q'.locks
      (below_list q'.locks) heads at (λ p. below2.gone p at refl) below_nexts below_prevs still_there
      (λ k differs. by_part but_queued parent_in parent-queued (get q'.locks k) (get locks2 k) (others k differs))
      (λ p is. none-some p (sym (ap parent_in leaves.removed.gone) ∙ is)) refl

  named_same : (k : ℕ) → k ≢ at → option_map lasting_part (get q'.locks k) ≡ option_map lasting_part (get s.queues.locks k)
  named_same k differs =
      by_part but_queued (option_map lasting_part) named-queued (get q'.locks k) (get locks2 k) (others k differs)
      ∙ own_named locks1 locks2 leaves.relinks k ∙ below_named s.processes s.queues.locks locks1 leaves.below_rest k

  pub left_lkids : (k : ℕ) → k ≢ at → option_map lkid_of (get q'.locks k) ≡ option_map lkid_of (get s.queues.locks k)
  left_lkids k differs = by_part lasting_part (option_map lkid_of) lkid-named (get q'.locks k) (get s.queues.locks k) (named_same k differs)

  pub left_named : IsNamed processes2 q'.locks
  left_named =
      named-removed s.processes processes2 s.queues.locks q'.locks at leaves.removed.gone (own_pids s.processes processes2 leaves.own_rest) named_same
      (λ k noted. subst (IsIn k) leaves.childless (leaves.kept.below.stands at k (λ e. none-some k (sym e)) noted)) leaves.kept.named

  -- what a caller sees of processes
  pub left_processes : ((k : ℕ) → k ≢ at → loose_in (get q'.locks k) ≡ loose_in (get s.queues.locks k))
      → processes_of (holding processes2 q'.locks s.process_order) ≡ map (process_without_lock at) (processes_shown s)
  left_processes loose =
      lock_left (holding s.processes s.queues.locks s.process_order) (holding processes2 q'.locks s.process_order) at
      (own_faces s.processes processes2 leaves.own_rest)
      (own_process_handles s.processes processes2 leaves.own_rest s.process_order leaves.kept.processes_linked)
      (λ p.
      family-other_handles own_links owner_in locks2 (own_list processes2) (Some at) leaves.owned q'.locks (own_list processes2)
      (λ p. refl) at (λ p. leaves.owned.gone p at refl) own_nexts own_prevs still_there p
      ∙ leaves.own_left p ∙ ap (without at) (below_own_handles s.processes s.queues.locks locks1 leaves.below_rest None leaves.kept.owned p))
      (λ k _.
      family-other_handles below_links parent_in locks2 (below_list locks2) (Some at) below2 q'.locks
      (below_list q'.locks) heads at (λ p. below2.gone p at refl) below_nexts below_prevs still_there k
      ∙ below_handles2 k)
      loose

  module _ (wait_list : LinkedList InWaitList) (lock_index : PartedIndex LockKind) where
    abbrev pub after_leaving : Inside
    after_leaving = record s { queues = q'; wait_list = wait_list; processes = processes2; lock_index = lock_index }

    -- the invariant holds again
    pub left_kept : IsWaitList locks3 wait_list (Some at) → Indexes (handle_in lock_index) (lkid_at q') → IsKept after_leaving
    left_kept is indexed =
        kept_with_locks leaves.kept q' wait_list leaves.removed.rest processes2 lock_index leaves.own_rest (record {
          laid_out = leaves.removed.laid_out;
          wait_list = wait_list_removed (record s.queues { locks = locks3 }) q' wait_list at
              (kin_placed s.queues locks3 kin3 leaves.kept.placed) leaves.removed.laid_out.placed (ap wait_list_in leaves.removed.gone)
              leaves.removed.wait_list (λ k differs. leaves.removed.loose k) leaves.removed.handles is;
          locks = indexed;
          owned = left_owned;
          below = left_below;
          named = left_named;
        })

    -- what a caller sees: the records without the lock, and the room that it gives back
    pub left_records : room_in processes2 ≡ room_in s.processes → records_shown after_leaving
        ≡ with_lock_room (records_shown after_leaving).room.locks (without_stored_lock at (records_shown s))
    left_records room =
        let old = tables s.queues s.order (beside_shown s) in
        let later = tables q' s.order (beside_shown after_leaving) in
        lists_changed_beside old later (leaving at) (faces_same s.queues.resources q'.resources leaves.removed.rest)
        (leaving-under_handle (rows s.queues) (rows q') (handles_at s.queues) (handles_at q') at
        (λ k differs. leaves.removed.rows k differs ∙ kin_rows s.queues locks3 kin3 k)
        (λ p. leaves.removed.handles p ∙ ap (without at) (kin_handles s.queues locks3 kin3 leaves.kept.placed p)))
        (order_handles but_queues (λ r. refl) s.queues.resources q'.resources leaves.removed.rest s.order leaves.kept.linked) refl
        ∙ ap (λ ps. record (with_lists (leaving at) (records_of old)) { processes = ps; room = (records_of later).room })
        (left_processes
        (λ k differs. loose_still (get q'.locks k) (get locks3 k) (leaves.removed.loose k) (λ loose. leaves.removed.rows k differs)
        ∙ kin_loose s.queues locks3 kin3 k)
        ∙ ap (map (process_without_lock at)) (sym (records_processes old)))
        ∙ ap (λ r. record (without_stored_lock at (records_of old)) { room = r })
        (room_shown (λ a b. b ≡ record a { locks = b.locks }) old later
        (rooms_are _ _ _ _ _ _ refl
        (room_of_same s.queues.resources q'.resources (spares_in s.resource_index) leaves.removed.resources_room)
        (room_of_same s.processes processes2 (spares_by s.process_index) room)))
