-- A lock moves from its queue to the end of a queue of the same resource.
use Rattle.std.proofs.Common.{◌≡◌, ◌≢◌, ◌⊎◌, Bool, true, false, List, [], ◌∷◌, ◌++◌, map, cond, refl, sym, ap, ◌∙◌, subst, inl, inr, eq-eqb, ne_eqb}
use Rattle.std.specs.Prelude.{◌==◌}
use Rattle.std.proofs.lemmas.Bool.{cases_eq}
use Rattle.std.proofs.lemmas.List.{map-append}
use Rattle.vlm_words.specs.declared.locks.LockState.{LockState}
use Rattle.vlm_words.specs.declared.resources.Queue.{Queue}
use Rattle.vlm_words.specs.declared.resources.Queue.TheVariants.{Granted, Conversion, Waiting}
use Rattle.vlm_words.specs.Rows.{rows_without}
use Rattle.vlm_collections.specs.Lists.{IsIn}
use Rattle.vlm_records.specs.declared.handles.Place.{Place}
use Rattle.vlm_records.specs.declared.handles.Place.TheVariants.{Queued}
use Rattle.vlm_store.specs.Records.{IsSameLock, IsSound, Records, StoredLock, StoredResource, but_notices, is_place}
use Rattle.vlm_store.specs.Records.{moving, on_resource, queued, rows_of_locks, with_lists, without_lock}
use Rattle.vlm_store.proofs.Records.{is_place-other, is_place-same, map_on, queue_at, unmoved}
use Rattle.vlm_locks.specs.declared.located_locks.LocatedLock.{LocatedLock}
use Rattle.vlm_locks.specs.Converting.{moved_in}
use Rattle.vlm_locks.specs.Rest.{IsReplaced}
use Rattle.vlm_locks.specs.Standing.{IsLocated}
use Rattle.vlm_locks.specs.Staying.{LocksStay, StandsStill}
use Rattle.vlm_locks.proofs.GrantsKeepResources.{among_without, of_joined, same_back, stands_in}
use Rattle.vlm_locks.proofs.FoundInLists.{without-absent, without-handle}
use Rattle.vlm_locks.proofs.QueuedLocks.{absent, only, own_among, stands}
use Rattle.vlm_locks.proofs.FoundByHandle.{resource_alone, resource_at-at}

module _ (s : Records) (sound : IsSound s) (f : LocatedLock) (located : IsLocated f s) (row : LockState) (to : Queue) where
  -- another resource stays as it was
  stays : (x : StoredResource) → IsIn x s.resources → x.at ≢ f.res → moved_in f row to x ≡ x
  stays x among differs =
      let each : (queue : Queue) → moving (Queued f.res to) (record { at = f.lock; row = row }) (Queued x.at queue) (queued queue x) ≡ queued queue x =
      λ queue.
      ap (λ b. cond b (without_lock f.lock (queued queue x) ++ record { at = f.lock; row = row } ∷ []) (without_lock f.lock (queued queue x)))
      (is_place-other (Queued x.at queue) (Queued f.res to) (λ e. differs (cc)))
      ∙ ap (without_lock f.lock) (sym (queue_at s sound x among queue))
      ∙ unmoved s f.lock f.row (Queued f.res f.queue) sound (stands s f located) (Queued x.at queue) (λ e. differs (cc))
      ∙ queue_at s sound x among queue
      in
      rw (each Granted, each Conversion, each Waiting) refl

  -- the resource of the lock is changed, and nothing else
  pub moved : with_lists (moving (Queued f.res to) (record { at = f.lock; row = row })) s
      ≡ record s { resources = on_resource f.res (λ x. moved_in f row to located.resource) s.resources }
  moved =
      ap (λ x. record s { resources = x })
      (map_on (moved_in f row to) (λ x. cond (x.at == f.res) (moved_in f row to located.resource) x) s.resources
      (λ x among. elim (cases_eq x.at f.res) [
        | inl same ↦
            ap (moved_in f row to) (resource_alone f.res s.resources located.resource x sound.resources_apart located.found among same)
            ∙ sym (ap (λ b. cond b (moved_in f row to located.resource) x) (eq-eqb x.at f.res same))
        | inr other ↦ stays x among other ∙ sym (ap (λ b. cond b (moved_in f row to located.resource) x) (ne_eqb x.at f.res other))
      ]))

  own_at : located.resource.at ≡ f.res
  own_at = resource_at-at f.res s.resources located.resource located.found

  -- the queue that it joins
  pub joins : rows_of_locks (moving (Queued f.res to) (record { at = f.lock; row = row }) (Queued located.resource.at to) (queued to located.resource))
      ≡ rows_without f.row.lkid (rows_of_locks (queued to located.resource)) ++ row ∷ []
  joins =
      ap (λ b. rows_of_locks
      (cond b (without_lock f.lock (queued to located.resource) ++ record { at = f.lock; row = row } ∷ [])
      (without_lock f.lock (queued to located.resource))))
      (ap (λ x. is_place (Queued x to) (Queued f.res to)) own_at ∙ is_place-same (Queued f.res to))
      ∙ map-append (λ (k : StoredLock). k.row) (without_lock f.lock (queued to located.resource)) (record { at = f.lock; row = row } ∷ [])
      ∙ ap (λ rows. rows ++ row ∷ []) (without-handle (record { at = f.lock; row = f.row }) (queued to located.resource)
      (only s sound f located located.resource (own_among s sound f located) to))

  -- a queue that it does not join
  pub leaves : (queue : Queue) → queue ≢ to
      → rows_of_locks (moving (Queued f.res to) (record { at = f.lock; row = row }) (Queued located.resource.at queue)
      (queued queue located.resource))
      ≡ rows_without f.row.lkid (rows_of_locks (queued queue located.resource))
  leaves queue differs =
      ap (λ b. rows_of_locks
      (cond b (without_lock f.lock (queued queue located.resource) ++ record { at = f.lock; row = row } ∷ [])
      (without_lock f.lock (queued queue located.resource))))
      (is_place-other (Queued located.resource.at queue) (Queued f.res to) (λ e. differs (cc)))
      ∙ without-handle (record { at = f.lock; row = f.row }) (queued queue located.resource)
      (only s sound f located located.resource (own_among s sound f located) queue)

-- a lock of a list after a move is the moved one, or was there
among_moved : (to : Place) (moved : StoredLock) (place : Place) (locks : List StoredLock) (k : StoredLock)
    → IsIn k (moving to moved place locks) → (moved ≡ k) ⊎ IsIn k locks
among_moved to moved place locks k among = of_test (is_place place to) among
  where
    of_test : (here : Bool) → IsIn k (cond here (without_lock moved.at locks ++ moved ∷ []) (without_lock moved.at locks)) → (moved ≡ k) ⊎ IsIn k locks
    of_test true among = of_joined k moved (without_lock moved.at locks) among (λ is. inl is) (λ was. inr (among_without moved.at k locks was))
    of_test false among = inr (among_without moved.at k locks among)

-- so none joins the resource
pub none_joins_by_moving : (s : Records) (f : LocatedLock) (located : IsLocated f s) (row : LockState) (to : Queue)
    → IsSameLock f.row row → LocksStay (moved_in f row to located.resource) located.resource
none_joins_by_moving s f located row to same queue k among =
    elim (of_queue queue among) [
      | inl is ↦
          subst (λ (x : StoredLock). StandsStill x located.resource) is
          (record { queue = f.queue; row = f.row; among = located.among; same = same_back f.row row same })
      | inr was ↦ stands_in located.resource queue k was
    ]
  where
    of_queue : (queue : Queue) → IsIn k (queued queue (moved_in f row to located.resource))
        → (record { at = f.lock; row = row } ≡ k) ⊎ IsIn k (queued queue located.resource)
    of_queue Granted among = among_moved (Queued f.res to) (record { at = f.lock; row = row })
        (Queued located.resource.at Granted) located.resource.granted k among
    of_queue Conversion among = among_moved (Queued f.res to) (record { at = f.lock; row = row })
        (Queued located.resource.at Conversion) located.resource.converting k among
    of_queue Waiting among = among_moved (Queued f.res to) (record { at = f.lock; row = row })
        (Queued located.resource.at Waiting) located.resource.waiting k among

-- a queue of the resource in which the lock does not stand
pub not_in : (s : Records) (sound : IsSound s) (f : LocatedLock) (located : IsLocated f s) (queue : Queue) → queue ≢ f.queue
    → rows_without f.row.lkid (rows_of_locks (queued queue located.resource)) ≡ rows_of_locks (queued queue located.resource)
not_in s sound f located queue differs =
    without-absent f.row.lkid (queued queue located.resource)
    (absent s sound f located located.resource (own_among s sound f located) queue (λ e. differs (cc)))

-- so of the resources just that of the lock is another
pub moved_replaced : (s : Records) (sound : IsSound s) (f : LocatedLock) (located : IsLocated f s) (row : LockState) (to : Queue) (new : Records)
    → new ≡ with_lists (moving (Queued f.res to) (record { at = f.lock; row = row })) s
    → IsReplaced f.res located.resource (moved_in f row to located.resource) s new
moved_replaced s sound f located row to new is =
    let moved = is ∙ moved s sound f located row to in
    record {
      was = located.found;
      same = refl;
      resources = ap (λ (x : Records). x.resources) moved;
      processes = ap (λ (x : Records). map but_notices x.processes) moved;
    }
