-- What the records say of a lock that is in a queue.
use Rattle.std.proofs.Common.{◌≡◌, ◌≢◌, ℕ, List, [], ◌∷◌, Option, None, Some, refl, sym, ap, ◌∙◌, subst, inl, inr, eq-eqb, ne_eqb}
use Rattle.std.specs.Option.{option_map_or}
use Rattle.std.proofs.lemmas.Option.{none-some, same_Some}
use Rattle.std.proofs.lemmas.Bool.{cases_eq}
use Rattle.vlm_words.specs.declared.locks.LockState.{LockState}
use Rattle.vlm_words.specs.declared.resources.Queue.{Queue}
use Rattle.vlm_collections.specs.Lists.{IsIn}
use Rattle.vlm_records.specs.declared.handles.Place.{Place}
use Rattle.vlm_records.specs.declared.handles.Place.TheVariants.{Queued}
use Rattle.vlm_store.specs.Records.{AreApart, IsProcess, IsSound, Records, StoredLock, StoredResource, Stores, locks_at, queued, resource_at}
use Rattle.vlm_store.proofs.Records.{queue_at}
use Rattle.vlm_locks.specs.declared.located_locks.LocatedLock.{LocatedLock}
use Rattle.vlm_locks.specs.Standing.{IsLocated}
use Rattle.vlm_locks.proofs.FoundInLists.{IsAbsent, IsOnly}

-- the resource that is found is one of these
pub resource_among : (res : ℕ) (rs : List StoredResource) (r : StoredResource) → resource_at res rs ≡ Some r → IsIn r rs
resource_among res [] r found = absurd (none-some r found)
resource_among res (x ∷ rs) r found =
    elim (cases_eq x.at res) [
      | inl same ↦ inl (same_Some x r (rw (eq-eqb x.at res same) at found))
      | inr differs ↦ inr (resource_among res rs r (rw (ne_eqb x.at res differs) at found))
    ]

-- a stored lock in its queue
pub record IsQueued (at : ℕ) (row : LockState) (s : Records) : Type 0 where
  pub resource : StoredResource
  pub there : IsIn resource s.resources
  pub queue : Queue
  pub among : IsIn (record { at = at; row = row }) (queued queue resource)

-- each stored lock stands in a queue
pub in_queue : (s : Records) (at : ℕ) (row : LockState) → Stores s at row → IsQueued at row s
in_queue s at row stored = by_place stored.0 stored.1
  where
    by_place : (place : Place) → IsIn (record { at = at; row = row }) (locks_at place s) → IsQueued at row s
    by_place (Queued res queue) among = of_found (resource_at res s.resources) refl among
      where
        of_found : (found : Option StoredResource) → resource_at res s.resources ≡ found
            → IsIn (record { at = at; row = row }) (option_map_or (queued queue) found []) → IsQueued at row s
        of_found None is here = absurd here
        of_found (Some r) is here = record { resource = r; there = resource_among res s.resources r is; queue = queue; among = here }

-- one handle stands once in a list
one_row : (locks : List StoredLock) → AreApart locks → (a b : StoredLock) → IsIn a locks → IsIn b locks → a.at ≡ b.at → a ≡ b
one_row [] apart a b in_a in_b same = absurd in_a
one_row (k ∷ rest) apart a b in_a in_b same =
    elim in_a [
      | inl here ↦ elim in_b [
        | inl too ↦ sym here ∙ too
        | inr there ↦ absurd (apart.0 b.row (subst (λ x. IsIn (record { at = x; row = b.row }) rest) (sym same
            ∙ sym (ap (λ (y : StoredLock). y.at) here)) there))
      ]
      | inr there ↦ elim in_b [
        | inl here ↦ absurd (apart.0 a.row (subst (λ x. IsIn (record { at = x; row = a.row }) rest) (same ∙ sym (ap (λ (y : StoredLock). y.at) here)) there))
        | inr too ↦ one_row rest apart.1 a b there too same
      ]
    ]

-- whose a lock is, by any row that is the one on record
pub owner_is : (s : Records) (owner : ℕ) (given row : LockState) → row ≡ given → IsProcess owner given.pid s → IsProcess owner row.pid s
owner_is s owner given row same is = subst (λ (x : LockState). IsProcess owner x.pid s) (sym same) is

module _ (s : Records) (f : LocatedLock) (located : IsLocated f s) where
  -- where it stands
  pub stands : IsIn (record { at = f.lock; row = f.row }) (locks_at (Queued f.res f.queue) s)
  stands = subst (IsIn (record { at = f.lock; row = f.row })) (sym (ap (λ o. option_map_or (queued f.queue) o []) located.found)) located.among

  -- it is stored
  pub stored : Stores s f.lock f.row
  stored = (Queued f.res f.queue, stands)

module _ (s : Records) (sound : IsSound s) where
  -- a lock of a queue is stored
  pub queued_stored : (r : StoredResource) → IsIn r s.resources → (queue : Queue) (k : StoredLock) → IsIn k (queued queue r) → Stores s k.at k.row
  queued_stored r among queue k here = (Queued r.at queue, subst (IsIn k) (sym (queue_at s sound r among queue)) here)

  -- one handle is that of one lock
  pub one_lock : (at : ℕ) (a b : LockState) → Stores s at a → Stores s at b → a ≡ b
  one_lock at a b stored_a stored_b =
      let same : stored_a.0 ≡ stored_b.0 = sound.one_place at a b stored_a.0 stored_b.0 stored_a.1 stored_b.1 in
      let there = subst (λ p. IsIn (record { at = at; row = a }) (locks_at p s)) same stored_a.1 in
      ap (λ (x : StoredLock). x.row)
      (one_row (locks_at stored_b.0 s) (sound.locks_apart stored_b.0) (record { at = at; row = a })
      (record { at = at; row = b }) there stored_b.1 refl)

  module _ (f : LocatedLock) (located : IsLocated f s) where
    -- the lock under its handle
    abbrev pub lock : StoredLock
    lock = record { at = f.lock; row = f.row }

    -- its resource
    abbrev pub own : StoredResource
    own = located.resource

    pub own_among : IsIn own s.resources
    own_among = resource_among f.res s.resources own located.found

    -- no other lock has its handle, or its ID
    pub only : (r : StoredResource) → IsIn r s.resources → (queue : Queue) → IsOnly lock (queued queue r)
    only r among queue k here = (by_lkid, by_handle)
      where
        by_handle : k.at ≡ f.lock → k ≡ lock
        by_handle same =
            ap (λ (x : LockState). record { at = k.at; row = x })
            (one_lock k.at k.row f.row (queued_stored r among queue k here)
            (subst (λ x. Stores s x f.row) (sym same) (stored s f located)))
            ∙ ap (λ x. record { at = x; row = f.row }) same

        by_lkid : k.row.lkid ≡ f.row.lkid → k ≡ lock
        by_lkid same = by_handle (sound.lkids_apart k.at f.lock k.row f.row (inl (queued_stored r among queue k here)) (inl (stored s f located)) same)

    -- it stands in no other queue
    pub absent : (r : StoredResource) → IsIn r s.resources → (queue : Queue) → Queued r.at queue ≢ Queued f.res f.queue → IsAbsent f.row.lkid (queued queue r)
    absent r among queue differs k here same =
        let is : k ≡ lock = (only r among queue k here).0 same in
        let there : IsIn lock (locks_at (Queued r.at queue) s) =
        subst (λ x. IsIn x (locks_at (Queued r.at queue) s)) is
        (subst (IsIn k) (sym (queue_at s sound r among queue)) here) in
        differs (sound.one_place f.lock f.row f.row (Queued r.at queue) (Queued f.res f.queue) there (stands s f located))
