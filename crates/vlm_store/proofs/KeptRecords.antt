-- What the store keeps, and what a caller learns of it.
use Rattle.std.proofs.Common.{◌≡◌, ◌≤◌, ℕ, [], map, arith, Option, None, Some, IfSome, IsSome, Result, Ok, Err, OnErr, refl, sym, ap, ◌∙◌, false}
use Rattle.std.proofs.lemmas.Option.{none-some, same_Some}
use Rattle.std.specs.Option.{option_map}
use Rattle.slab.specs.Slab.{Slab, get, ContainsKey}
use Rattle.vlm_collections.specs.declared.link.TheConstants.{LAST_HANDLE}
use Rattle.vlm_collections.specs.declared.lists.LinkedList.{LinkedList}
use Rattle.vlm_collections.specs.Lists.{IsIn, IsLinked, IsNoList, handles_of, next_in, prev_in}
use Rattle.vlm_collections.proofs.Rings.{no_list-linked}
use Rattle.vlm_words.specs.declared.locks.LockState.{LockState}
use Rattle.vlm_words.specs.declared.resources.Queue.{Queue}
use Rattle.vlm_words.specs.declared.resources.Queue.TheVariants.{Granted, Conversion, Waiting}
use Rattle.vlm_words.specs.declared.resources.Key.{Key}
use Rattle.vlm_records.specs.declared.handles.Place.{Place}
use Rattle.vlm_records.specs.declared.handles.Place.TheVariants.{Queued}
use Rattle.vlm_records.specs.declared.locks.Lock.{Lock}
use Rattle.vlm_records.specs.declared.queues.Queues.{Queues}
use Rattle.vlm_records.specs.declared.resources.InOrder.{InOrder}
use Rattle.vlm_records.specs.declared.resources.Resource.{Resource}
use Rattle.vlm_store.specs.Index.{Indexes}
use Rattle.vlm_store.specs.Records.{FindsLock, FindsResource, HasPlace, HasResource, StoredResource, Stores, nothing, HasLock}
use Rattle.vlm_records.specs.Shown.{IsPlaced, IsTallied, IsThere, SameBut, but_queues, face_in, handles_at, list_at}
use Rattle.vlm_records.specs.Shown.{noted_in, order_links, queue_links, row_in, rows, shares, tally_in, is_loose_in}
use Rattle.vlm_store.specs.Store.{Beside, key_at, lkid_at, records_of, resource_of, tables}
use Rattle.vlm_store.proofs.Layouts.{HasPlace-seen, IsSeen, Stores-listed, among_resource, listed-Stores, resource_at-found, resource_among}
use Rattle.vlm_records.specs.Tallies.{how_many, total, weight_of}
use Rattle.vlm_records.proofs.Totals.{none_counted}
use Rattle.vlm_records.proofs.Counting.{shares_same}
use Rattle.vlm_records.proofs.Families.{family-empty}
use Rattle.vlm_records.proofs.PlacesOnLists.{kept_handles, kept_placed, lists_same, lkid_of_row, lkid_told, noted_there, stands_there, through}

module _ (q : Queues) (order : LinkedList InOrder) (beside : Beside) (placed : IsPlaced q None) where
  -- a lock that a caller sees is there
  pub stored_there : (at : ℕ) (row : LockState) → Stores (records_of (tables q order beside)) at row
      → ContainsKey q.locks at × (at ≤ LAST_HANDLE) × (rows q at ≡ row)
  stored_there at row stored =
      let listed = Stores-listed (tables q order beside) at row stored in
      let linked = placed.linked listed.0 in
      (linked.present at listed.1.0, linked.within at listed.1.0, listed.1.1)

  module _ (linked : IsLinked order_links q.resources order) (ordered : (r : ℕ) → ContainsKey q.resources r
      → IsIn r (handles_of order_links q.resources order)) where
    -- a lock that is there is seen by a caller
    pub there_stored : (at : ℕ) → ContainsKey q.locks at → is_loose_in (get q.locks at) ≡ false → Stores (records_of (tables q order beside)) at (rows q at)
    there_stored at there queued =
        let place = noted_there (get q.locks at) there queued in
        let stands = placed.stands place.0 at (λ e. none-some at (sym e)) place.1 in
        listed-Stores (tables q order beside) place.0 at (seen place.0 (stands_there q place.0 at stands)) stands
      where
        seen : (p : Place) → IsThere q.resources p → IsSeen (tables q order beside) p
        seen (Queued r queue) there = ordered r there

    -- the place that a caller sees is there
    pub place_there : (p : Place) → HasPlace p (records_of (tables q order beside)) → IsThere q.resources p
    place_there (Queued r queue) has = linked.present r (HasPlace-seen (tables q order beside) (Queued r queue) has)

    -- a caller sees each lock that is there, in a queue or loose, and no other
    module _ (has_there : (at : ℕ) (row : LockState) → HasLock (records_of (tables q order beside)) at row → ContainsKey q.locks at × (rows q at ≡ row))
        (there_has : (at : ℕ) → ContainsKey q.locks at → HasLock (records_of (tables q order beside)) at (rows q at)) where
      -- the record of a lock that a caller sees has its ID
      lkid_seen : (at : ℕ) (row : LockState) → HasLock (records_of (tables q order beside)) at row → lkid_at q at ≡ Some row.lkid
      lkid_seen at row has =
          let there = has_there at row has in
          lkid_of_row (get q.locks at) there.0 ∙ ap (λ (r : LockState). Some r.lkid) there.1

      -- no two locks have one ID
      pub lkids_apart : (found : ℕ → Option ℕ) → Indexes found (lkid_at q) → (a b : ℕ) (x y : LockState)
          → HasLock (records_of (tables q order beside)) a x → HasLock (records_of (tables q order beside)) b y
          → x.lkid ≡ y.lkid → a ≡ b
      lkids_apart found indexes a b x y has_a has_b same =
          same_Some a b (sym (indexes.complete x.lkid a (lkid_seen a x has_a)) ∙ indexes.complete x.lkid b (lkid_seen b y has_b ∙ ap Some (sym same)))

      -- the index of locks finds what a caller sees
      pub finds_lock : (found : ℕ → Option ℕ) → Indexes found (lkid_at q) → (lkid : ℕ) (result : Option ℕ)
          → result ≡ found lkid → FindsLock (records_of (tables q order beside)) lkid result
      finds_lock found indexes lkid None is = λ at row has same.
          none-some at (is ∙ indexes.complete lkid at (lkid_seen at row has ∙ ap Some same))
      finds_lock found indexes lkid (Some at) is =
          let there = lkid_told (get q.locks at) lkid (indexes.sound lkid at (sym is)) in
          (rows q at, (there_has at there.0, there.1))

      pub no_lock : (found : ℕ → Option ℕ) → Indexes found (lkid_at q) → (lkid : ℕ)
          → FindsLock (records_of (tables q order beside)) lkid None → found lkid ≡ None
      no_lock found indexes lkid absent = by_answer (found lkid) refl
        where
          by_answer : (answer : Option ℕ) → answer ≡ found lkid → answer ≡ None
          by_answer None is = refl
          by_answer (Some at) is =
              let there = finds_lock found indexes lkid (Some at) is in
              absurd (absent at there.0 there.1.0 there.1.1)

    -- and the index of resources
    key_there : (slot : Option Resource) (key : Key) → option_map (λ (r : Resource). r.key) slot ≡ Some key → IsSome slot × ((face_in slot).key ≡ key)
    key_there None key is = absurd (none-some key is)
    key_there (Some r) key is = (refl, same_Some r.key key is)

    key_of_face : (slot : Option Resource) → IsSome slot → option_map (λ (r : Resource). r.key) slot ≡ Some (face_in slot).key
    key_of_face None there = cc
    key_of_face (Some r) there = refl

    -- the record of a resource that a caller sees has its handle
    key_seen : (r : StoredResource) → IsIn r (records_of (tables q order beside)).resources → key_at q r.at ≡ Some r.key
    unfolding records_of
    key_seen r among =
        let there = resource_among (tables q order beside) (handles_of order_links q.resources order) r among in
        key_of_face (get q.resources r.at) (linked.present r.at there.0) ∙ ap (λ (x : StoredResource). Some x.key) there.1

    -- no two resources have one key
    pub keys_apart : (found : Key → Option ℕ) → Indexes found (key_at q) → (a b : StoredResource) → IsIn a (records_of (tables q order beside)).resources
        → IsIn b (records_of (tables q order beside)).resources → a.key ≡ b.key → a.at ≡ b.at
    keys_apart found indexes a b among_a among_b same =
        same_Some a.at b.at (sym (indexes.complete a.key a.at (key_seen a among_a)) ∙ indexes.complete a.key b.at (key_seen b among_b ∙ ap Some (sym same)))

    pub finds_resource : (found : Key → Option ℕ) → Indexes found (key_at q) → (key : Key) (result : Option ℕ)
        → result ≡ found key → FindsResource (records_of (tables q order beside)) key result
    unfolding records_of
    finds_resource found indexes key None is = λ r among same. none-some r.at (is ∙ indexes.complete key r.at (key_seen r among ∙ ap Some same))
    finds_resource found indexes key (Some at) is =
        let there = key_there (get q.resources at) key (indexes.sound key at (sym is)) in (
          resource_of (tables q order beside) at,
          (
            among_resource (tables q order beside) (handles_of order_links q.resources order) at (ordered at there.0),
            refl,
            there.1,
          ),
        )

    pub found_there : (found : Key → Option ℕ) → Indexes found (key_at q) → (key : Key) (result : Option ℕ)
        → result ≡ found key → IfSome result (λ res. HasResource res (records_of (tables q order beside)))
    found_there found indexes key None is = tt
    found_there found indexes key (Some at) is =
        let there = key_there (get q.resources at) key (indexes.sound key at (sym is)) in
        rw (resource_at-found (tables q order beside) at (ordered at there.0)) refl

    pub no_resource : (found : Key → Option ℕ) → Indexes found (key_at q) → (key : Key)
        → FindsResource (records_of (tables q order beside)) key None → found key ≡ None
    no_resource found indexes key absent = by_answer (found key) refl
      where
        by_answer : (answer : Option ℕ) → answer ≡ found key → answer ≡ None
        by_answer None is = refl
        by_answer (Some at) is =
            let there = finds_resource found indexes key (Some at) is in
            absurd (absent there.0 there.1.0 there.1.2)

-- nothing is there yet
module _ (q : Queues) (no_locks : (k : ℕ) → get q.locks k ≡ None) (no_resources : (r : ℕ) → get q.resources r ≡ None) where
  empty_list : (p : Place) → IsNoList (list_at q p)
  empty_list (Queued r queue) = rw (no_resources r) (record { no_first = refl; no_last = refl; no_handles = refl })

  pub empty_handles : (p : Place) → handles_at q p ≡ []
  empty_handles p = (no_list-linked queue_links q.locks (list_at q p) (empty_list p)).1

  pub empty_placed : IsPlaced q None
  empty_placed = family-empty queue_links noted_in q.locks (list_at q) empty_list no_locks (λ p. none-some p)

  empty_shares : (weight : Queue → LockState → ℕ) (r : ℕ) → shares q weight None r ≡ 0
  empty_shares weight r =
      omega (
        arith,
        ap (total (weight Granted) (rows q)) (empty_handles (Queued r Granted)),
        ap (total (weight Conversion) (rows q)) (empty_handles (Queued r Conversion)),
        ap (total (weight Waiting) (rows q)) (empty_handles (Queued r Waiting)),
      )

  pub empty_tallied : IsTallied q None
  empty_tallied = record {
    counts = λ count r mode. ap (λ slot. how_many count (tally_in slot) mode) (no_resources r) ∙ none_counted count mode
        ∙ sym (empty_shares (weight_of count mode) r);
  }

  module _ (order : LinkedList InOrder) (none : IsNoList order) where
    pub empty_linked : IsLinked order_links q.resources order
    empty_linked = (no_list-linked order_links q.resources order none).0

    pub empty_ordered : (r : ℕ) → ContainsKey q.resources r → IsIn r (handles_of order_links q.resources order)
    empty_ordered r there = let nothing : IsSome {T = Resource} None = rw (no_resources r) at there in absurd (cc)

    pub empty_records : (beside : Beside) → beside.processes ≡ []
        → records_of (tables q order beside) ≡ record (nothing (records_of (tables q order beside)).keys) {
          room =
              (records_of (tables q order beside)).room;
        }
    unfolding records_of
    empty_records beside no_processes =
        ap (λ rs. record { resources = map (resource_of (tables q order beside)) rs; processes = beside.processes; room = beside.room; keys = beside.keys })
        (no_list-linked order_links q.resources order none).1
        ∙ ap (λ ps. record { resources = []; processes = ps; room = beside.room; keys = beside.keys }) no_processes

pub Indexes-empty : {K : Type 0} (found : K → Option ℕ) (label : ℕ → Option K) → ((k : K) → found k ≡ None) → ((at : ℕ) → label at ≡ None) → Indexes found label
Indexes-empty found label finds labels = record {
  sound = λ k at is. absurd (none-some at (sym (finds k) ∙ is));
  complete = λ k at is. absurd (none-some k (sym (labels at) ∙ is));
}

-- what is seen of resources stays where only their queues change
face_apart : (slot : Option Resource) → face_in (option_map but_queues slot) ≡ face_in slot
face_apart None = refl
face_apart (Some r) = refl

module _ (old new : Slab Resource) (rest : SameBut but_queues old new) where
  pub faces_same : (r : ℕ) → face_in (get new r) ≡ face_in (get old r)
  faces_same = through but_queues face_in face_apart old new rest

-- room is made for locks
module _ (q : Queues) (locks : Slab Lock) (same : (k : ℕ) → get locks k ≡ get q.locks k) (placed : IsPlaced q None) where
  pub reserved_placed : IsPlaced (record q { locks = locks }) None
  reserved_placed =
      kept_placed q None placed (record q { locks = locks }) (lists_same q (record q { locks = locks }) refl)
      (λ k. ap (next_in queue_links) (same k)) (λ k. ap (prev_in queue_links) (same k))
      (λ k here. rw (same k) here) (λ k. ap noted_in (same k))

  pub reserved_handles : (p : Place) → handles_at (record q { locks = locks }) p ≡ handles_at q p
  reserved_handles =
      kept_handles q None placed (record q { locks = locks }) (lists_same q (record q { locks = locks }) refl)
      (λ k. ap (next_in queue_links) (same k)) (λ k. ap (prev_in queue_links) (same k))
      (λ k here. rw (same k) here)

  pub reserved_tallied : IsTallied q None → IsTallied (record q { locks = locks }) None
  reserved_tallied tallied = record {
    counts = λ count r mode. tallied.counts count r mode
        ∙ sym (shares_same q (record q { locks = locks }) (weight_of count mode) None r reserved_handles
        (λ k _. ap row_in (same k)));
  }

-- what is so is so of a refusal
pub on_err : {T E : Type 0} (r : Result T E) (P : Type 0) → P → OnErr r P
on_err (Ok x) P p = tt
on_err (Err e) P p = p
