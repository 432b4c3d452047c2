-- General facts on records: what is found under a handle, what stands nowhere else, and what a move leaves alone.
use Rattle.std.proofs.Common.{◌≡◌, ◌≢◌, ℕ, Bool, List, [], ◌∷◌, ◌++◌, map, true, false, ◌&&◌, cond, Some, refl, sym, ap, ◌∙◌, subst, inl, inr, eq-eqb, ne_eqb}
use Rattle.std.specs.Prelude.{◌==◌}
use Rattle.std.specs.Option.{option_map_or}
use Rattle.std.proofs.lemmas.Bool.{cases_eq}
use Rattle.vlm_words.specs.declared.locks.LockState.{LockState}
use Rattle.vlm_words.specs.declared.resources.Queue.{Queue}
use Rattle.vlm_words.specs.declared.resources.Queue.TheVariants.{Granted, Conversion, Waiting}
use Rattle.vlm_collections.specs.Lists.{IsIn}
use Rattle.vlm_records.specs.declared.handles.Place.{Place}
use Rattle.vlm_records.specs.declared.handles.Place.TheVariants.{Queued}
use Rattle.vlm_store.specs.Records.{AreResourcesApart, IsSound, Records, StoredLock, StoredResource, is_place, is_queue}
use Rattle.vlm_store.specs.Records.{joined_by, joining, locks_at, on_resource, queued, resource_at, resource_with}
use Rattle.vlm_store.specs.Records.{with_lists, without_lock, HasLock, NoneIsLoose, Stores}
use Rattle.std.proofs.lemmas.Option.{none-some}

-- ---- places

is_queue-same : (p : Queue) → is_queue p p ≡ true
is_queue-same Granted = refl
is_queue-same Conversion = refl
is_queue-same Waiting = refl

is_queue-other : (p q : Queue) → p ≢ q → is_queue p q ≡ false
is_queue-other Granted Granted differs = absurd (differs refl)
is_queue-other Granted Conversion differs = refl
is_queue-other Granted Waiting differs = refl
is_queue-other Conversion Granted differs = refl
is_queue-other Conversion Conversion differs = absurd (differs refl)
is_queue-other Conversion Waiting differs = refl
is_queue-other Waiting Granted differs = refl
is_queue-other Waiting Conversion differs = refl
is_queue-other Waiting Waiting differs = absurd (differs refl)

pub is_place-same : (p : Place) → is_place p p ≡ true
is_place-same (Queued r q) = rw (eq-eqb r r refl, is_queue-same q) refl

pub is_place-other : (p q : Place) → p ≢ q → is_place p q ≡ false
is_place-other (Queued a p) (Queued b q) differs =
    elim (cases_eq a b) [
      | inl same ↦ rw (eq-eqb a b same, is_queue-other p q (λ e. differs (cc))) refl
      | inr other ↦ rw (ne_eqb a b other) refl
    ]

-- ---- locks and resources

-- a list without a lock that it does not have stays
pub without_absent : (at : ℕ) (locks : List StoredLock) → ((row : LockState) → ¬ IsIn (record { at = at; row = row }) locks) → without_lock at locks ≡ locks
without_absent at [] absent = refl
without_absent at (k ∷ rest) absent =
    elim (cases_eq k.at at) [
      | inl same ↦ absurd (absent k.row (inl (ap (λ x. record { at = x; row = k.row }) same)))
      | inr differs ↦ rw (ne_eqb k.at at differs) (ap (λ xs. k ∷ xs) (without_absent at rest (λ row there. absent row (inr there))))
    ]

-- two changes are one where they are the same on each resource
pub map_on : {B : Type 0} (f g : StoredResource → B) (rs : List StoredResource) → ((r : StoredResource) → IsIn r rs → f r ≡ g r) → map f rs ≡ map g rs
map_on f g [] same = refl
map_on f g (r ∷ rs) same = ap (λ x. x ∷ map f rs) (same r (inl refl)) ∙ ap (λ xs. g r ∷ xs) (map_on f g rs (λ x there. same x (inr there)))

-- a resource is found by its handle
pub resource_is : (r : StoredResource) (rs : List StoredResource) → AreResourcesApart rs → IsIn r rs → resource_at r.at rs ≡ Some r
resource_is r [] apart found = absurd found
resource_is r (x ∷ rs) apart found =
    elim found [
      | inl here ↦ rw (eq-eqb x.at r.at (ap (λ (y : StoredResource). y.at) here)) (ap Some here)
      | inr there ↦ rw (ne_eqb x.at r.at (λ same. apart.0 r there (sym same))) (resource_is r rs apart.1 there)
    ]

-- the queue of a stored resource
pub queue_at : (s : Records) → IsSound s → (r : StoredResource) → IsIn r s.resources → (queue : Queue) → locks_at (Queued r.at queue) s ≡ queued queue r
queue_at s sound r among queue = ap (λ o. option_map_or (queued queue) o []) (resource_is r s.resources sound.resources_apart among)

-- a queue without a lock that does not stand there stays
pub queue_without : (s : Records) → IsSound s → (at : ℕ) (r : StoredResource) → IsIn r s.resources
    → ((queue : Queue) (row : LockState) → ¬ IsIn (record { at = at; row = row }) (locks_at (Queued r.at queue) s))
    → (queue : Queue) → without_lock at (queued queue r) ≡ queued queue r
queue_without s sound at r among absent queue =
    without_absent at (queued queue r)
    (λ row found. absent queue row
    (subst (IsIn (record { at = at; row = row })) (sym (queue_at s sound r among queue)) found))

-- ---- a lock moves

-- a lock that stands at one place leaves the lists of no other
module _ (s : Records) (at : ℕ) (row : LockState) (from : Place) (sound : IsSound s) (stands : IsIn (record { at = at; row = row }) (locks_at from s)) where
  pub unmoved : (p : Place) → p ≢ from → without_lock at (locks_at p s) ≡ locks_at p s
  unmoved p differs = without_absent at (locks_at p s) (λ other found. differs (sound.one_place at other row p from found stands))

-- ---- a lock joins

-- the locks of a queue, with one more if it joins here
abbrev with_joined : StoredLock → Bool → List StoredLock → List StoredLock
with_joined lock here locks = cond here (locks ++ lock ∷ []) locks

module _ (lock : StoredLock) (res : ℕ) (to : Queue) where
  -- each resource is as it was, but for the one that the lock joins
  joins_one : (x : StoredResource) → resource_with (joining (Queued res to) lock) x ≡ cond (x.at == res) (joined_by to lock x) x
  joins_one x = by_queue to (x.at == res)
    where
      by_queue : (queue : Queue) (here : Bool)
          → record x {
            granted = with_joined lock (here && is_queue Granted queue) x.granted;
            converting =
                with_joined lock (here && is_queue Conversion queue) x.converting;
            waiting =
                with_joined lock (here && is_queue Waiting queue) x.waiting;
          }
          ≡ cond here (joined_by queue lock x) x
      by_queue Granted true = refl
      by_queue Conversion true = refl
      by_queue Waiting true = refl
      by_queue queue false = refl

  -- a new lock joins the queue of its resource, and nothing else changes
  pub joins_queue : (s : Records) → with_lists (joining (Queued res to) lock) s ≡ record s { resources = on_resource res (joined_by to lock) s.resources }
  joins_queue s =
      ap (λ x. record s { resources = x })
      (map_on (resource_with (joining (Queued res to) lock))
      (λ x. cond (x.at == res) (joined_by to lock x) x) s.resources (λ x _. joins_one x))

-- where no lock is loose, each is in a queue
pub in_a_queue : (s : Records) → NoneIsLoose s → (at : ℕ) (row : LockState) → HasLock s at row → Stores s at row
in_a_queue s none at row (inl stored) = stored
in_a_queue s none at row (inr loose) = absurd (none-some row (sym (none loose.0 loose.1 loose.2.0 loose.2.1) ∙ loose.2.3))
