-- As many requests are queued as the wait list has locks.
use Rattle.std.proofs.Common.{◌≡◌, ◌+◌, ℕ, None, true, List, [], ◌∷◌, map, length, length-append, refl, sym, ap, ◌∙◌, arith}
use Rattle.std.specs.List.{sum_by}
use Rattle.std.proofs.lemmas.List.Sums.{sum_by-cons}
use Rattle.std.proofs.lemmas.List.{length-map}
use Rattle.std.proofs.lemmas.Option.{none-some}
use Rattle.slab.specs.Slab.{get}
use Rattle.vlm_collections.specs.Lists.{IsApart, IsIn, handles_of}
use Rattle.vlm_words.specs.declared.resources.Queue.TheVariants.{Granted, Conversion, Waiting}
use Rattle.vlm_records.specs.declared.handles.Place.{Place}
use Rattle.vlm_records.specs.declared.handles.Place.TheVariants.{Queued}
use Rattle.vlm_records.specs.WaitList.{is_queued, wait_list_handles}
use Rattle.vlm_records.specs.Shown.{handles_at, order_links}
use Rattle.vlm_records.proofs.PlacesOnLists.{one_place, stands_there}
use Rattle.vlm_records.proofs.WaitLists.{queued_noted}
use Rattle.vlm_store.specs.declared.store.Store.TheInside.{Inside}
use Rattle.vlm_store.specs.Kept.{IsKept, beside_shown, records_shown}
use Rattle.vlm_store.specs.Records.{StoredResource}
use Rattle.vlm_store.specs.Store.{Layout, records_of, resource_of, tables, under_handle}
use Rattle.vlm_store.specs.Total.{queued_total}
use Rattle.vlm_store.proofs.Counted.{as_long}
use Rattle.vlm_store.proofs.QueuedSeen.{listed_at}
use Rattle.vlm_store.proofs.Totals.{all_apart, all_in, in_all, in_resource, of_all, of_resource, resource_in}
use Rattle.vlm_store.proofs.WaitListed.{wait_list_at, wait_list_noted}

-- the handles of the queues where requests wait, and none of the granted queue
abbrev only_queued : (Place → List ℕ) → Place → List ℕ
only_queued handles (Queued r Granted) = []
only_queued handles (Queued r Conversion) = handles (Queued r Conversion)
only_queued handles (Queued r Waiting) = handles (Queued r Waiting)

was_queued : (handles : Place → List ℕ) (p : Place) (k : ℕ) → IsIn k (only_queued handles p) → IsIn k (handles p) × (is_queued p ≡ true)
was_queued handles (Queued r Granted) k among = absurd among
was_queued handles (Queued r Conversion) k among = (among, refl)
was_queued handles (Queued r Waiting) k among = (among, refl)

is_among_queued : (handles : Place → List ℕ) (p : Place) (k : ℕ) → IsIn k (handles p) → is_queued p ≡ true → IsIn k (only_queued handles p)
is_among_queued handles (Queued r Granted) k among queued = cc
is_among_queued handles (Queued r Conversion) k among queued = among
is_among_queued handles (Queued r Waiting) k among queued = among

-- the sum over the resources is the length of all these handles
queued_length : (l : Layout) (order : List ℕ)
    → sum_by (λ (r : StoredResource). length r.converting + length r.waiting) (map (resource_of l) order) ≡ length (of_all (only_queued l.handles) order)
queued_length l [] = refl
queued_length l (r ∷ rest) =
    omega (
      arith,
      queued_length l rest,
      sum_by-cons (λ (x : StoredResource). length x.converting + length x.waiting) (resource_of l r) (map (resource_of l) rest),
      length-map (l.handles (Queued r Conversion)) (under_handle l.rows),
      length-map (l.handles (Queued r Waiting)) (under_handle l.rows),
      length-append (of_resource (only_queued l.handles) r) (of_all (only_queued l.handles) rest),
      length-append (l.handles (Queued r Conversion)) (l.handles (Queued r Waiting)),
    )

total_shown : (l : Layout) → queued_total (records_of l) ≡ length (of_all (only_queued l.handles) l.order)
unfolding records_of
total_shown l = queued_length l l.order

module _ (s : Inside) (kept : IsKept s) where
  abbrev in_order : List ℕ
  in_order = handles_of order_links s.queues.resources s.order

  abbrev queued_handles : Place → List ℕ
  queued_handles = only_queued (handles_at s.queues)

  each_apart : (p : Place) → IsApart (queued_handles p)
  each_apart (Queued r Granted) = tt
  each_apart (Queued r Conversion) = (kept.placed.linked (Queued r Conversion)).apart
  each_apart (Queued r Waiting) = (kept.placed.linked (Queued r Waiting)).apart

  one : (at : ℕ) (p q : Place) → IsIn at (queued_handles p) → IsIn at (queued_handles q) → p ≡ q
  one at p q first second =
      one_place s.queues None kept.placed at p q (was_queued (handles_at s.queues) p at first).0 (was_queued (handles_at s.queues) q at second).0

  there : (k : ℕ) → IsIn k (of_all queued_handles in_order) → IsIn k (wait_list_handles s.queues.locks s.wait_list)
  there k among =
      let found = in_all queued_handles in_order k among in
      let in_queue = in_resource queued_handles found.0 k found.1.1 in
      let place = Queued found.0 in_queue.0 in
      let was = was_queued (handles_at s.queues) place k in_queue.1 in
      kept.wait_list.stands tt k (λ e. none-some k (sym e)) (wait_list_noted (get s.queues.locks k)
      ∙ ap wait_list_at (kept.placed.listed place k was.0) ∙ queued_noted place was.1)

  back : (k : ℕ) → IsIn k (wait_list_handles s.queues.locks s.wait_list) → IsIn k (of_all queued_handles in_order)
  back k listed =
      let place = listed_at (get s.queues.locks k) (kept.wait_list.listed tt k listed) in
      of_place place.0 (kept.placed.stands place.0 k (λ e. none-some k (sym e)) place.1.0) place.1.1
    where
      of_place : (p : Place) → IsIn k (handles_at s.queues p) → is_queued p ≡ true → IsIn k (of_all queued_handles in_order)
      of_place (Queued r queue) stands queued =
          all_in queued_handles in_order r k (kept.ordered r (stands_there s.queues (Queued r queue) k stands))
          (resource_in queued_handles r k queue (is_among_queued (handles_at s.queues) (Queued r queue) k stands queued))

  -- as many requests are queued as the wait list has locks
  pub queued_counted : queued_total (records_shown s) ≡ length (wait_list_handles s.queues.locks s.wait_list)
  queued_counted =
      total_shown (tables s.queues s.order (beside_shown s))
      ∙ as_long (of_all queued_handles in_order) (wait_list_handles s.queues.locks s.wait_list)
      (all_apart queued_handles each_apart one in_order kept.linked.apart)
      (kept.wait_list.linked tt).apart there back
