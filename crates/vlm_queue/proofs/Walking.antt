-- Walks over the resources, and over the rows of a queue: where they begin, what is left at each, and how they go on.
use Rattle.std.proofs.Common.{◌≡◌, ◌<◌, ℕ, arith, length, List, [], ◌∷◌, map, Option, None, Some, IfSome, IsSome, refl, sym, ap, ◌∙◌, inl, inr, eq-eqb, ne_eqb}
use Rattle.std.specs.Option.{ForSome, option_map, option_map_or}
use Rattle.std.proofs.lemmas.Bool.{cases_eq}
use Rattle.vlm_words.specs.declared.locks.LockState.{LockState}
use Rattle.vlm_words.specs.declared.resources.Queue.{Queue}
use Rattle.vlm_words.specs.declared.resources.Queue.TheVariants.{Granted, Conversion, Waiting}
use Rattle.vlm_collections.specs.Lists.{IsIn}
use Rattle.vlm_records.specs.declared.handles.Place.{Place}
use Rattle.vlm_records.specs.declared.handles.Place.TheVariants.{Queued}
use Rattle.vlm_store.specs.Plain.{plain_resource}
use Rattle.vlm_store.specs.Records.{HasResource, IsSound, IsStored, Records, StoredLock, StoredResource, Stores}
use Rattle.vlm_store.specs.Records.{at_after, first_at, first_resource_at, locks_at, queued, resource_at}
use Rattle.vlm_store.specs.Records.{resource_at_after, rows_of_locks}
use Rattle.vlm_store.proofs.Walks.{at_lock, at_resource, first-there, first_resource-there, locks_from, resources_from as stored_from}
use Rattle.vlm_queue.specs.Views.{rows_in}
use Rattle.vlm_queue.specs.Walks.{IsInQueue, plain_resource_at, resources_from, resources_left, rows_from, rows_to_walk, rows_queued}

-- ---- resources

-- what is left is what the records have left, as the plain machine has it
plain_from : (next : Option ℕ) (rs : List StoredResource) → resources_from next rs ≡ map plain_resource (stored_from next rs)
plain_from None rs = refl
plain_from (Some res) [] = refl
plain_from (Some res) (r ∷ rest) =
    elim (cases_eq r.at res) [
      | inl is ↦ rw (eq-eqb r.at res is) refl
      | inr differs ↦ rw (ne_eqb r.at res differs) (plain_from (Some res) rest)
    ]

-- at the first resource all are left
pub all_left : (rs : List StoredResource) → resources_from (first_resource_at rs) rs ≡ map plain_resource rs
all_left [] = refl
all_left (r ∷ rest) = rw (eq-eqb r.at r.at refl) refl

-- the first resource is there
pub first_there : (s : Records) → IsSound s → ForSome (first_resource_at s.resources) (λ res. HasResource res s)
first_there s sound = first_resource-there [] s.resources sound.resources_apart

-- the resource after one is there
pub next_there : (s : Records) (res : ℕ) → IsSound s → HasResource res s → ForSome (resource_at_after res s.resources) (λ next. HasResource next s)
next_there s res sound there = (at_resource res s.resources sound.resources_apart there).next

-- behind a resource the others are left
pub one_left : (s : Records) (res : ℕ) → IsSound s → HasResource res s
    → IfSome (plain_resource_at res s) (λ r. resources_left (Some res) s ≡ r ∷ resources_left (resource_at_after res s.resources) s)
one_left s res sound there =
    let stands = at_resource res s.resources sound.resources_apart there in
    rw (ap (option_map plain_resource) stands.found)
    (plain_from (Some res) s.resources ∙ ap (map plain_resource) stands.left
    ∙ ap (λ rs. plain_resource stands.r ∷ rs) (sym (plain_from (resource_at_after res s.resources) s.resources)))

-- a resource that is stored is there in the plain machine
pub is_there : (res : ℕ) (s : Records) → HasResource res s → IsSome (plain_resource_at res s)
is_there res s there = of_some (resource_at res s.resources) there
  where
    of_some : (o : Option StoredResource) → IsSome o → IsSome (option_map plain_resource o)
    of_some None there = cc
    of_some (Some r) there = refl

-- ---- rows

-- the rows of a queue are those that the plain machine has there
pub rows_plain : (res : ℕ) (queue : Queue) (s : Records) → IfSome (plain_resource_at res s) (λ r. rows_queued res queue s ≡ rows_in queue r)
rows_plain res queue s = of_found (resource_at res s.resources) queue
  where
    of_found : (o : Option StoredResource) (queue : Queue)
        → IfSome (option_map plain_resource o)
        (λ r. rows_of_locks (option_map_or (queued queue) o []) ≡ rows_in queue r)
    of_found None queue = tt
    of_found (Some r) Granted = refl
    of_found (Some r) Conversion = refl
    of_found (Some r) Waiting = refl

-- the rows that are left are those of the locks that are left
rows_of-from : (next : Option ℕ) (ks : List StoredLock) → rows_from next ks ≡ rows_of_locks (locks_from next ks)
rows_of-from None ks = refl
rows_of-from (Some at) [] = refl
rows_of-from (Some at) (k ∷ rest) =
    elim (cases_eq k.at at) [
      | inl is ↦ rw (eq-eqb k.at at is) refl
      | inr differs ↦ rw (ne_eqb k.at at differs) (rows_of-from (Some at) rest)
    ]

-- at the head of a queue all its rows are left
all_rows : (ks : List StoredLock) → rows_from (first_at ks) ks ≡ rows_of_locks ks
all_rows [] = refl
all_rows (k ∷ rest) = rw (eq-eqb k.at k.at refl) refl

-- a walk of a queue begins at its head
pub record Begins (res : ℕ) (queue : Queue) (head : Option ℕ) (s : Records) : Type 0 where
  pub there : IsInQueue res queue head s
  pub left : rows_to_walk res queue head s ≡ rows_queued res queue s

pub begins : (s : Records) (res : ℕ) (queue : Queue) (head : Option ℕ) → head ≡ first_at (locks_at (Queued res queue) s) → Begins res queue head s
begins s res queue head first =
    let ks = locks_at (Queued res queue) s in
    rw first (record { there = first-there [] ks; left = all_rows ks })

-- a lock in its queue, with what a walk has left behind it
pub record Passes (res : ℕ) (queue : Queue) (lock : ℕ) (next : Option ℕ) (s : Records) : Type 0 where
  pub row : LockState
  pub stored : Stores s lock row
  pub left : rows_to_walk res queue (Some lock) s ≡ row ∷ rows_to_walk res queue next s
  pub there : IsInQueue res queue next s

-- fewer are left behind a row
pub fewer_rows : (row : LockState) (rest left : List LockState) → left ≡ row ∷ rest → length rest < length left
fewer_rows row rest left is = rw is (omega arith)

-- a walk that has come to a lock goes on to the one that follows it
pub passes : (s : Records) (res : ℕ) (queue : Queue) (lock : ℕ) (next : Option ℕ) → IsSound s → IsInQueue res queue (Some lock) s
    → ((place : Place) (row : LockState) → IsIn (record { at = lock; row = row }) (locks_at place s) → next ≡ at_after lock (locks_at place s))
    → Passes res queue lock next s
passes s res queue lock next sound come follows =
    let place = Queued res queue in
    let ks = locks_at place s in
    let stands = at_lock lock ks (sound.locks_apart place) (come lock refl) in
    rw (follows place stands.row stands.among) (record {
      row = stands.row;
      stored = (place, stands.among);
      left = rows_of-from (Some lock) ks ∙ ap rows_of_locks stands.left ∙ ap (λ rows. stands.row ∷ rows) (sym (rows_of-from (at_after lock ks) ks));
      there = stands.next;
    })

-- a lock to which a walk has come is stored
pub come_stored : (s : Records) (res : ℕ) (queue : Queue) (lock : ℕ) → IsInQueue res queue (Some lock) s → IsStored lock s
come_stored s res queue lock come = let among = come lock refl in (among.0, (Queued res queue, among.1))
