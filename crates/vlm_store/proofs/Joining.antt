-- A new lock joins its process and its parent.
use Rattle.std.proofs.Common.{◌≡◌, ◌≢◌, ℕ, [], ◌∷◌, ◌++◌, map, Option, None, Some, IsSome, refl, sym, ap, ◌∙◌, subst, inl, inr}
use Rattle.std.proofs.lemmas.Bool.{cases_eq}
use Rattle.std.proofs.lemmas.Option.{none-some, same_Some}
use Rattle.std.specs.Option.{option_map}
use Rattle.slab.specs.Slab.{Slab, get, ContainsKey}
use Rattle.vlm_collections.specs.declared.lists.LinkedList.{LinkedList}
use Rattle.vlm_collections.specs.declared.parted.PartedIndex.{PartedIndex}
use Rattle.vlm_collections.specs.Parts.{handle_in}
use Rattle.vlm_collections.specs.Lists.{IsIn, Relinks, handles_of, next_in, prev_in}
use Rattle.vlm_collections.proofs.Keeping.{vacant_unlisted}
use Rattle.vlm_words.specs.declared.locks.LockState.{LockState}
use Rattle.vlm_records.specs.declared.handles.LockKind.{LockKind}
use Rattle.vlm_records.specs.declared.handles.Place.{Place}
use Rattle.vlm_records.specs.declared.locks.InWaitList.{InWaitList}
use Rattle.vlm_records.specs.declared.locks.Lock.{Lock}
use Rattle.vlm_records.specs.declared.processes.Process.{Process}
use Rattle.vlm_records.specs.declared.queues.Queues.{Queues}
use Rattle.vlm_records.specs.Changes.{Adds, JoinsParent, JoinsProcess, OthersKeep}
use Rattle.vlm_store.specs.declared.store.Store.TheInside.{Inside}
use Rattle.vlm_store.specs.Index.{Indexes, spares_by}
use Rattle.vlm_store.specs.KeyIndexes.{spares_in}
use Rattle.vlm_store.specs.Kept.{IsKept, beside_shown, processes_shown, records_shown}
use Rattle.vlm_store.specs.Records.{IsParentOf, IsProcess, joining, process_with_lock, with_lists, with_lock_room, with_new_lock}
use Rattle.vlm_store.specs.Store.{lkid_at, records_of, tables}
use Rattle.vlm_records.specs.Shown.{SameBut, but_in_wait_list, but_kin, but_queued, but_queues, handles_at, is_loose_in, list_at, lkid_of}
use Rattle.vlm_records.specs.Shown.{loose_in, new_lock, queue_links, rows}
use Rattle.vlm_records.specs.WaitList.{IsWaitList}
use Rattle.vlm_records.specs.Kin.{IsBelow, IsNamed, IsOwned, NamesParent, below_in, below_handles, below_links}
use Rattle.vlm_records.specs.Kin.{below_list, lasting_part, own_handles, own_links, own_list}
use Rattle.vlm_records.specs.Kin.{owner_in, parent_in, with_own_links}
use Rattle.vlm_store.specs.Holdings.{holding, processes_of}
use Rattle.vlm_records.proofs.Families.{family-grown, family-other_handles}
use Rattle.vlm_store.proofs.Kinship.{below-queued, below_kin, below_named, below_next-queued, below_own_handles}
use Rattle.vlm_store.proofs.Kinship.{below_owned, below_prev-queued, lkid-named, lkid-queued, named-added, named-kept}
use Rattle.vlm_store.proofs.Kinship.{own_below_handles, own_kin, own_named, own_next-queued, own_pids, own_faces}
use Rattle.vlm_store.proofs.Kinship.{own_prev-queued, own_process_handles, owner-queued, owner_fits, parent-queued}
use Rattle.vlm_store.proofs.Kinship.{kin_handles, kin_loose, kin_rows, loose_but, parent_fits, records_processes}
use Rattle.vlm_records.proofs.PlacesOnLists.{by_part, there_by_part, lkid_of_row, named-queued, same_then, there_through}
use Rattle.vlm_store.proofs.KeptRecords.{faces_same}
use Rattle.vlm_store.proofs.Layouts.{joining-under_handle, lists_changed_beside}
use Rattle.vlm_store.proofs.LivingProcesses.{lock_there, process_named}
use Rattle.vlm_store.proofs.LocksChange.{kept_with_locks, laid_out_kin}
use Rattle.vlm_store.proofs.Members.{lock_joined}
use Rattle.vlm_store.proofs.OrderOfMaking.{order_handles}
use Rattle.vlm_store.proofs.RoomShown.{room_of_same, room_shown, rooms_are}
use Rattle.vlm_store.proofs.WaitListed.{wait_list_below, wait_list_kin, wait_list_own, wait_list_queued}

parent-named : (slot : Option Lock) → parent_in (option_map lasting_part slot) ≡ parent_in slot
parent-named None = refl
parent-named (Some l) = refl

-- a new lock is in its queue and, where it is queued, in the wait list; its process and its parent do not list it yet
pub record IsNewIn (s : Inside) (q' : Queues) (locks : Slab Lock) (at : ℕ) (row : LockState) (owner : ℕ) (parent : Option ℕ) (to : Place) : Type 0 where
  pub kept : IsKept s
  pub added : Adds at row (new_lock row owner parent) to s.queues q'
  pub listed : SameBut but_in_wait_list q'.locks locks
  pub owner_is : IsProcess owner row.pid (records_shown s)
  pub parent_is : IsParentOf parent row (records_shown s)

pub newly_in : {s : Inside} {q' : Queues} {locks : Slab Lock} {at : ℕ} {row : LockState} {owner : ℕ} {parent : Option ℕ} {to : Place}
    → IsKept s → Adds at row (new_lock row owner parent) to s.queues q' → SameBut but_in_wait_list q'.locks locks
    → IsProcess owner row.pid (records_shown s) → IsParentOf parent row (records_shown s) → IsNewIn s q' locks at row owner parent to
newly_in kept added listed owner_is parent_is =
    record { kept = kept; added = added; listed = listed; owner_is = owner_is; parent_is = parent_is }

module _ {s : Inside} {q' : Queues} {locks2 : Slab Lock} {at : ℕ} {row : LockState} {owner : ℕ} {parent : Option ℕ} {to : Place}
    (new : IsNewIn s q' locks2 at row owner parent to) where
  fresh : get s.queues.locks at ≡ None
  fresh = new.added.fresh

  pub lock_is_new : option_map but_queued (get locks2 at) ≡ Some (new_lock row owner parent)
  lock_is_new = wait_list_queued q'.locks locks2 new.listed at ∙ new.added.lock

  others : OthersKeep but_queued at s.queues.locks locks2
  others k differs = wait_list_queued q'.locks locks2 new.listed k ∙ new.added.kin k differs

  -- a lock that was there is another than the new one
  pub was_other : (k : ℕ) → ContainsKey s.queues.locks k → k ≢ at
  was_other k there is = let nothing : IsSome {T = Lock} None = rw (ap (get s.queues.locks) is ∙ fresh) at there in absurd (cc)

  still_there : (k : ℕ) → k ≢ at → ContainsKey s.queues.locks k → ContainsKey locks2 k
  still_there k differs = there_by_part but_queued (get locks2 k) (get s.queues.locks k) (others k differs)

  pub new_owner : owner_in (get locks2 at) ≡ Some owner
  new_owner = by_part but_queued owner_in owner-queued (get locks2 at) (Some (new_lock row owner parent)) lock_is_new

  pub new_parent : parent_in (get locks2 at) ≡ parent
  new_parent = by_part but_queued parent_in parent-queued (get locks2 at) (Some (new_lock row owner parent)) lock_is_new

  pub new_there : ContainsKey locks2 at
  new_there = there_by_part but_queued (get locks2 at) (Some (new_lock row owner parent)) lock_is_new refl

  unowned : (p : ℕ) → ¬ IsIn at (own_handles s.processes s.queues.locks p)
  unowned p = vacant_unlisted own_links s.queues.locks (own_list s.processes p) (new.kept.owned.linked p) at fresh

  unlisted_below : (k : ℕ) → ¬ IsIn at (below_handles s.queues.locks k)
  unlisted_below k = vacant_unlisted below_links s.queues.locks (below_list s.queues.locks k) (new.kept.below.linked k) at fresh

  own_nexts : (k : ℕ) → k ≢ at → next_in own_links (get locks2 k) ≡ next_in own_links (get s.queues.locks k)
  own_nexts k differs = by_part but_queued (next_in own_links) own_next-queued (get locks2 k) (get s.queues.locks k) (others k differs)

  own_prevs : (k : ℕ) → k ≢ at → prev_in own_links (get locks2 k) ≡ prev_in own_links (get s.queues.locks k)
  own_prevs k differs = by_part but_queued (prev_in own_links) own_prev-queued (get locks2 k) (get s.queues.locks k) (others k differs)

  below_nexts : (k : ℕ) → k ≢ at → next_in below_links (get locks2 k) ≡ next_in below_links (get s.queues.locks k)
  below_nexts k differs = by_part but_queued (next_in below_links) below_next-queued (get locks2 k) (get s.queues.locks k) (others k differs)

  below_prevs : (k : ℕ) → k ≢ at → prev_in below_links (get locks2 k) ≡ prev_in below_links (get s.queues.locks k)
  below_prevs k differs = by_part but_queued (prev_in below_links) below_prev-queued (get locks2 k) (get s.queues.locks k) (others k differs)

  heads : (k : ℕ) → below_list locks2 k ≡ below_list s.queues.locks k
  heads k =
      elim (cases_eq k at) [
        | inl same ↦
            ap (below_list locks2) same
            ∙ by_part but_queued below_in below-queued (get locks2 at) (Some (new_lock row owner parent)) lock_is_new
            ∙ sym (ap (below_list s.queues.locks) same ∙ ap below_in fresh)
        | inr differs ↦ by_part but_queued below_in below-queued (get locks2 k) (get s.queues.locks k) (others k differs)
      ]

  pub new_owned : IsOwned s.processes locks2 (Some at)
  new_owned =
      family-grown own_links owner_in s.queues.locks (own_list s.processes) None new.kept.owned locks2 (own_list s.processes)
      (λ p. refl) at unowned own_nexts own_prevs still_there
      (λ k differs. by_part but_queued owner_in owner-queued (get locks2 k) (get s.queues.locks k) (others k differs)) refl

  pub new_below : IsBelow locks2 (Some at)
  new_below =
      family-grown below_links parent_in s.queues.locks (below_list s.queues.locks) None new.kept.below locks2
      (below_list locks2) heads at unlisted_below below_nexts below_prevs still_there
      (λ k differs. by_part but_queued parent_in parent-queued (get locks2 k) (get s.queues.locks k) (others k differs)) refl

  pub new_own_handles : (p : ℕ) → own_handles s.processes locks2 p ≡ own_handles s.processes s.queues.locks p
  new_own_handles p =
      family-other_handles own_links owner_in s.queues.locks (own_list s.processes) None new.kept.owned locks2 (own_list s.processes)
      (λ p. refl) at unowned own_nexts own_prevs still_there p

  pub new_below_handles : (k : ℕ) → below_handles locks2 k ≡ below_handles s.queues.locks k
  new_below_handles k =
      family-other_handles below_links parent_in s.queues.locks (below_list s.queues.locks) None new.kept.below locks2
      (below_list locks2) heads at unlisted_below below_nexts below_prevs still_there k

  pub childless : below_handles locks2 at ≡ []
  childless = ap (handles_of below_links locks2) (by_part but_queued below_in below-queued (get locks2 at) (Some (new_lock row owner parent)) lock_is_new)

  -- the parent is there, and is another lock
  pub parent_was_there : (k : ℕ) → parent ≡ Some k → ContainsKey s.queues.locks k
  parent_was_there k is = by_parent parent is new.parent_is
    where
      by_parent : (up : Option ℕ) → up ≡ Some k → IsParentOf up row (records_shown s) → ContainsKey s.queues.locks k
      by_parent None is names = absurd (none-some k is)
      by_parent (Some x) is names = subst (ContainsKey s.queues.locks) (same_Some x k is) (lock_there s new.kept x names.0 names.1.0).0

  pub parent_there : (k : ℕ) → parent ≡ Some k → ContainsKey locks2 k
  parent_there k is = still_there k (was_other k (parent_was_there k is)) (parent_was_there k is)

  pub no_own_parent : parent ≢ Some at
  no_own_parent is = was_other at (parent_was_there at is) refl

  named_other : (k : ℕ) → k ≢ at → option_map lasting_part (get locks2 k) ≡ option_map lasting_part (get s.queues.locks k)
  named_other k differs = by_part but_queued (option_map lasting_part) named-queued (get locks2 k) (get s.queues.locks k) (others k differs)

  new_names : option_map lasting_part (get locks2 at) ≡ option_map lasting_part (Some (new_lock row owner parent))
  new_names = by_part but_queued (option_map lasting_part) named-queued (get locks2 at) (Some (new_lock row owner parent)) lock_is_new

  pub new_named : IsNamed s.processes locks2
  new_named =
      named-added s.processes s.queues.locks locks2 at fresh named_other
      (owner_fits s.processes s.processes (λ p. refl) (get locks2 at) (Some (new_lock row owner parent)) new_names
      ((process_named s new.kept owner row.pid new.owner_is).1))
      (parent_fits locks2 locks2 (get locks2 at) (Some (new_lock row owner parent)) new_names (λ k is. refl) (names parent refl new.parent_is)) new.kept.named
    where
      names : (up : Option ℕ) → up ≡ parent → IsParentOf up row (records_shown s) → NamesParent locks2 up row.parent
      names None is none = none
      names (Some k) is up =
          let there = lock_there s new.kept k up.0 up.1.0 in
          by_part lasting_part (option_map lkid_of) lkid-named (get locks2 k) (get s.queues.locks k) (named_other k (was_other k there.0))
          ∙ lkid_of_row (get s.queues.locks k) there.0 ∙ ap (λ (r : LockState). Some r.lkid) there.2 ∙ ap Some up.1.1

  pub new_lkid : option_map lkid_of (get locks2 at) ≡ Some row.lkid
  new_lkid = by_part but_queued (option_map lkid_of) lkid-queued (get locks2 at) (Some (new_lock row owner parent)) lock_is_new

  pub other_lkids : (k : ℕ) → k ≢ at → option_map lkid_of (get locks2 k) ≡ option_map lkid_of (get s.queues.locks k)
  other_lkids k differs = by_part but_queued (option_map lkid_of) lkid-queued (get locks2 k) (get s.queues.locks k) (others k differs)

  -- the parent is there, and the owner
  pub owner_was_there : (p : ℕ) → owner_in (get locks2 at) ≡ Some p → ContainsKey s.processes p
  owner_was_there p is = subst (ContainsKey s.processes) (same_Some owner p (sym new_owner ∙ is)) (process_named s new.kept owner row.pid new.owner_is).0

  pub linked_parent_there : (locks3 : Slab Lock) → Relinks with_own_links locks2 locks3 → (k : ℕ) → parent_in (get locks3 at) ≡ Some k → ContainsKey locks3 k
  linked_parent_there locks3 relinks k is =
      there_through but_kin locks2 locks3 (own_kin locks2 locks3 relinks) k
      (parent_there k (sym new_parent
      ∙ sym (by_part lasting_part parent_in parent-named (get locks3 at) (get locks2 at)
      (own_named locks2 locks3 relinks at)) ∙ is))

  -- they list it
  module _ {processes3 : Slab Process} {locks3 locks4 : Slab Lock} (process : JoinsProcess at s.processes locks2 processes3 locks3)
      (below : JoinsParent at locks3 locks4) where
    parent3 : parent_in (get locks3 at) ≡ parent
    parent3 = by_part lasting_part parent_in parent-named (get locks3 at) (get locks2 at) (own_named locks2 locks3 process.relinks at) ∙ new_parent

    pub joined_kin : SameBut but_kin locks2 locks4
    joined_kin = same_then but_kin locks2 locks3 locks4 (own_kin locks2 locks3 process.relinks) (below_kin s.processes locks3 locks4 below.rest)

    pub joined_owned : IsOwned processes3 locks4 None
    joined_owned = below_owned processes3 locks3 locks4 below.rest None process.owned

    names34 : SameBut lasting_part locks2 locks4
    names34 = same_then lasting_part locks2 locks3 locks4 (own_named locks2 locks3 process.relinks) (below_named s.processes locks3 locks4 below.rest)

    pub joined_named : IsNamed processes3 locks4
    joined_named = named-kept s.processes processes3 locks2 locks4 (own_pids s.processes processes3 process.rest) names34 new_named

    pub joined_lkids : (k : ℕ) → option_map lkid_of (get locks4 k) ≡ option_map lkid_of (get locks2 k)
    joined_lkids k = by_part lasting_part (option_map lkid_of) lkid-named (get locks4 k) (get locks2 k) (names34 k)

    below34 : (k : ℕ) → below_handles locks3 k ≡ below_handles s.queues.locks k
    below34 k = own_below_handles locks2 locks3 process.relinks (Some at) new_below k ∙ new_below_handles k

    -- what a caller sees of processes
    pub joined_processes : ((k : ℕ) → loose_in (get locks4 k) ≡ loose_in (get s.queues.locks k))
        → processes_of (holding processes3 locks4 s.process_order) ≡ map (process_with_lock owner parent at) (processes_shown s)
    joined_processes loose =
        lock_joined (holding s.processes s.queues.locks s.process_order)
        (holding processes3 locks4 s.process_order) owner parent at (own_faces s.processes processes3 process.rest)
        (own_process_handles s.processes processes3 process.rest s.process_order new.kept.processes_linked)
        (below_own_handles processes3 locks3 locks4 below.rest None process.owned owner ∙ process.here owner new_owner
        ∙ ap (λ ks. ks ++ at ∷ []) (new_own_handles owner))
        (λ p differs. below_own_handles processes3 locks3 locks4 below.rest None process.owned p
        ∙ process.elsewhere p (λ is. differs (sym (same_Some owner p (sym new_owner ∙ is)))) ∙ new_own_handles p)
        (below.elsewhere at (λ is. no_own_parent (sym parent3 ∙ is)) ∙ own_below_handles locks2 locks3 process.relinks (Some at) new_below at ∙ childless)
        (λ k is. below.here k (parent3 ∙ is) ∙ ap (λ ks. ks ++ at ∷ []) (below34 k))
        (λ k differs. below.elsewhere k (λ is. differs (sym parent3 ∙ is)) ∙ below34 k)
        loose (loose at ∙ ap loose_in fresh)

    -- since the queue got the lock, locks changed their lists of kin alone, and the wait list
    pub queue_kin : SameBut but_kin q'.locks locks4
    queue_kin = same_then but_kin q'.locks locks2 locks4 (wait_list_kin q'.locks locks2 new.listed) joined_kin

    module _ (wait_list : LinkedList InWaitList) (lock_index : PartedIndex LockKind) where
      abbrev pub after_joining : Inside
      after_joining = record s { queues = record q' { locks = locks4 }; wait_list = wait_list; processes = processes3; lock_index = lock_index }

      -- the invariant holds again
      pub joined_kept : IsWaitList locks2 wait_list None → Indexes (handle_in lock_index) (lkid_at (record q' { locks = locks4 })) → IsKept after_joining
      joined_kept is indexed =
          kept_with_locks new.kept (record q' { locks = locks4 }) wait_list new.added.rest processes3 lock_index process.rest (record {
            laid_out = laid_out_kin q' locks4 queue_kin new.added.laid_out;
            wait_list = wait_list_below locks3 locks4 wait_list below.rest (wait_list_own locks2 locks3 wait_list process.relinks is);
            locks = indexed;
            owned = joined_owned;
            below = below.below;
            named = joined_named;
          })

      -- what a caller sees: the records with the lock, and the room that its index takes
      pub joined_records : records_shown after_joining
          ≡ with_lock_room (records_shown after_joining).room.locks (with_new_lock at row owner parent to (records_shown s))
      joined_records =
          let old = tables s.queues s.order (beside_shown s) in
          let later = tables (record q' { locks = locks4 }) s.order (beside_shown after_joining) in
          let change = joining to (record { at = at; row = row }) in
          let handles = kin_handles q' locks4 queue_kin new.added.laid_out.placed in
          let rows_same = kin_rows q' locks4 queue_kin in
          lists_changed_beside old later change (faces_same s.queues.resources q'.resources new.added.rest)
          (joining-under_handle (rows s.queues) (rows (record q' { locks = locks4 })) (handles_at s.queues)
          (handles_at (record q' { locks = locks4 })) at row to
          (rows_same at ∙ new.added.row) (λ k differs. rows_same k ∙ new.added.rows k differs)
          (λ p. vacant_unlisted queue_links s.queues.locks (list_at s.queues p) (new.kept.placed.linked p) at fresh)
          (handles to ∙ new.added.here) (λ p differs. handles p ∙ new.added.elsewhere p differs))
          (order_handles but_queues (λ r. refl) s.queues.resources q'.resources new.added.rest s.order new.kept.linked) refl
          ∙ ap (λ ps. record (with_lists change (records_of old)) { processes = ps; room = (records_of later).room })
          (joined_processes (λ k. kin_loose q' locks4 queue_kin k
          ∙ loose_but s.queues.locks q'.locks at new.added.loose (ap is_loose_in fresh) new.added.rows k)
          ∙ ap (map (process_with_lock owner parent at)) (sym (records_processes old)))
          ∙ ap (λ r. record (with_new_lock at row owner parent to (records_of old)) { room = r })
          (room_shown (λ a b. b ≡ record a { locks = b.locks }) old later
          (rooms_are _ _ _ _ _ _ refl
          (room_of_same s.queues.resources q'.resources (spares_in s.resource_index) new.added.resources_room)
          (room_of_same s.processes processes3 (spares_by s.process_index) process.processes_room)))
