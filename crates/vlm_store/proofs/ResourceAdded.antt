-- What the fields keep, and what a caller sees, after a resource is added.
use Rattle.std.proofs.Common.{◌≡◌, ◌∙◌, ◌++◌, ◌∷◌, [], ℕ, None, Some, ap, refl, subst}
use Rattle.std.specs.Option.{option_map}
use Rattle.slab.specs.Slab.{get as slot_of}
use Rattle.vlm_collections.specs.Parts.{handle_in, spares_of}
use Rattle.vlm_collections.specs.declared.hashers.HashKeys.{HashKeys}
use Rattle.vlm_collections.specs.declared.lists.LinkedList.{LinkedList}
use Rattle.vlm_collections.proofs.Keeping.{vacant_unlisted}
use Rattle.vlm_words.specs.declared.resources.Queue.TheVariants.{Granted, Conversion, Waiting}
use Rattle.vlm_words.specs.declared.resources.Site.{Site}
use Rattle.vlm_records.specs.Changes.{AddsResource}
use Rattle.vlm_records.specs.declared.handles.Place.TheVariants.{Queued}
use Rattle.vlm_records.specs.declared.queues.Queues.{Queues}
use Rattle.vlm_records.specs.declared.resources.InOrder.{InOrder}
use Rattle.vlm_records.specs.Shown.{but_queued, lkid_of, loose_in, new_face, order_links, room_in, row_in}
use Rattle.vlm_records.proofs.Making.{face_by_face, face_is, none_handles, there_by_face, whole_grown}
use Rattle.vlm_records.proofs.PlacesOnLists.{same_eq}
use Rattle.vlm_store.specs.declared.hashed.HashedKey.{HashedKey}
use Rattle.vlm_store.specs.declared.key_index.KeyIndex.{KeyIndex}
use Rattle.vlm_store.specs.declared.store.Store.TheInside.{Inside}
use Rattle.vlm_store.specs.HashedKeys.{hashed, hashed_at, hashed_in}
use Rattle.vlm_store.specs.Index.{hash_key}
use Rattle.vlm_store.specs.Kept.{IsKept, beside_shown, found_in, records_shown}
use Rattle.vlm_store.specs.KeyIndexes.{Enters}
use Rattle.vlm_store.specs.Records.{IsNewKey, new_stored_resource, with_resource_room}
use Rattle.vlm_store.specs.Store.{lkid_at, records_of, resource_of, tables}
use Rattle.vlm_store.proofs.HashedKeys.{by_keys, fresh_label, hashed_added, hashed_by_face, hashed_is}
use Rattle.vlm_store.proofs.Indexing.{Indexes-same}
use Rattle.vlm_store.proofs.KeptRecords.{no_resource}
use Rattle.vlm_store.proofs.Kinship.{records_keys, queued_below, queued_named, queued_owned, queued_processes}
use Rattle.vlm_store.proofs.Layouts.{resource_made}
use Rattle.vlm_store.proofs.RoomShown.{room_of_same, room_shown, rooms_are}
use Rattle.vlm_store.proofs.WaitListed.{wait_list_same}

module _ (s : Inside) (kept : IsKept s) (q' : Queues) (order' : LinkedList InOrder) (index' : KeyIndex) (at serial hash : ℕ) (site : Site)
    (added : AddsResource at (new_face serial site hash) s.order order' s.queues q') where
  abbrev after : Inside
  after = record s { queues = q'; order = order'; resource_index = index' }

  -- all that the fields keep holds after, with the new resource found by its key
  pub resource_kept : Enters (record { key = site.key; hash = hash }) at s.resource_index index' → IsNewKey site.key (records_shown s)
      → hash ≡ hash_key (records_shown s).keys site.key → IsKept after
  resource_kept enters new hash_is_old =
      let found = hashed (hash_key s.keys) site.key in
      let hash_known : hash ≡ hash_key s.keys site.key =
      hash_is_old ∙ ap (λ (h : HashKeys). hash_key h site.key) (records_keys (tables s.queues s.order (beside_shown s))) in
      let hash_is : record { key = site.key; hash = hash } ≡ found = ap (λ (n : ℕ). record { key = site.key; hash = n }) hash_known in
      let fresh = fresh_label (hash_key s.keys) s.resource_index s.queues kept.resources site.key
      (no_resource s.queues s.order (beside_shown s) kept.placed kept.linked kept.ordered (found_in s)
      (by_keys (hash_key s.keys) s.resource_index s.queues kept.resources) site.key new) in
      let locks_same = same_eq but_queued s.queues.locks q'.locks added.locks in
      record {
        placed = added.laid_out.placed;
        tallied = added.laid_out.tallied;
        armed = added.laid_out.armed;
        wait_list = wait_list_same s.queues.locks q'.locks s.wait_list (λ k. ap (λ l. slot_of l k) added.locks) kept.wait_list;
        linked = added.linked;
        ordered = whole_grown order_links s.queues.resources q'.resources s.order order' at kept.ordered added.order
            (λ r differs. there_by_face (slot_of q'.resources r) (slot_of s.queues.resources r) (added.faces r differs));
        locks = Indexes-same (handle_in s.lock_index) (handle_in s.lock_index) (lkid_at s.queues) (lkid_at q') (λ k. refl)
            (λ x. ap (λ l. option_map lkid_of (slot_of l x)) added.locks) kept.locks;
        resources = hashed_added (hash_key s.keys) s.resource_index index' (hashed_at s.queues) (hashed_at q') at found
            (λ r differs. hashed_by_face (slot_of q'.resources r) (slot_of s.queues.resources r) (added.faces r differs)) kept.resources
            (subst (λ (k : HashedKey). Enters k at s.resource_index index') hash_is enters)
            (ap (option_map hashed_in) added.fresh)
            (hashed_is (slot_of q'.resources at) (new_face serial site hash) added.face ∙ ap (λ (k : HashedKey). Some k) hash_is)
            fresh refl;
        owned = queued_owned s.processes s.queues.locks q'.locks locks_same None kept.owned;
        below = queued_below s.processes s.queues.locks q'.locks locks_same None kept.below;
        named = queued_named s.processes s.queues.locks q'.locks locks_same kept.named;
        processes_linked = kept.processes_linked;
        processes_ordered = kept.processes_ordered;
        processes = kept.processes;
        marked = kept.marked;
        living = kept.living;
      }

  -- a caller sees one resource more, which is the last, and other room for resources
  pub resource_shown : records_shown after ≡ with_resource_room (records_shown after).room.resources (record (records_shown s) {
    resources = (records_shown s).resources ++ new_stored_resource at serial site ∷ [];
  })
  resource_shown =
      let old = tables s.queues s.order (beside_shown s) in
      let l' = tables q' order' (beside_shown after) in
      let made : resource_of l' at ≡ new_stored_resource at serial site =
      rw (
        face_is (slot_of q'.resources at) (new_face serial site hash) added.face,
        added.handles (Queued at Granted) ∙ none_handles s.queues at Granted added.fresh,
        added.handles (Queued at Conversion) ∙ none_handles s.queues at Conversion added.fresh,
        added.handles (Queued at Waiting) ∙ none_handles s.queues at Waiting added.fresh,
      ) refl in
      resource_made old l' at
      (new_stored_resource at serial site) (λ k. ap (λ l. row_in (slot_of l k)) added.locks) added.handles
      (λ r differs. face_by_face (slot_of q'.resources r) (slot_of s.queues.resources r) (added.faces r differs))
      (vacant_unlisted order_links s.queues.resources s.order kept.linked at added.fresh) added.order made
      (queued_processes s.processes s.queues.locks q'.locks
      (same_eq but_queued s.queues.locks q'.locks added.locks) s.process_order
      (λ k. ap (λ x. loose_in (slot_of x k)) added.locks) kept.owned kept.below) refl
      ∙ ap (λ r. record (records_of old) { resources = (records_of old).resources ++ new_stored_resource at serial site ∷ []; room = r })
      (room_shown (λ a b. b ≡ record a { resources = b.resources }) old l'
      (rooms_are _ _ _ _ _ _ (room_of_same s.queues.locks q'.locks (spares_of s.lock_index) (ap room_in added.locks)) refl refl))
