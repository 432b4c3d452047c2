-- The resource and the lock at an index, and the rows of a queue in turn.
use Rattle.std.proofs.Common.{◌≡◌, ℕ, zero, suc, ◌≤◌, List, [], ◌∷◌, ◌++◌, length, map, Option, None, Some, IfSome}
use Rattle.std.proofs.Common.{IsSome, slice_get, refl, sym, ap, ◌∙◌, subst, inl, inr, append_assoc, eq-eqb, ne_eqb}
use Rattle.std.proofs.Common.{arith}
use Rattle.std.specs.Option.{ForSome, option_map, option_map_or}
use Rattle.std.proofs.lemmas.List.{length-map}
use Rattle.std.proofs.lemmas.Option.{same_Some}
use Rattle.vlm_words.specs.declared.locks.LockState.{LockState}
use Rattle.vlm_words.specs.declared.resources.Queue.{Queue}
use Rattle.vlm_words.specs.declared.resources.Queue.TheVariants.{Granted, Conversion, Waiting}
use Rattle.vlm_collections.specs.Lists.{IsIn}
use Rattle.vlm_records.specs.declared.handles.Place.TheVariants.{Queued}
use Rattle.vlm_store.specs.Held.{held_counts}
use Rattle.vlm_store.specs.Plain.{plain_resource}
use Rattle.vlm_store.specs.Records.{AreApart, AreResourcesApart, IsSound, Records, StoredLock, StoredResource, Stores}
use Rattle.vlm_store.specs.Records.{at_after, first_at, first_resource_at, locks_at, queued, resource_at}
use Rattle.vlm_store.specs.Records.{resource_at_after, rows_of_locks}
use Rattle.vlm_store.proofs.Walks.{after-among, lock_among}
use Rattle.vlm_store.proofs.Records.{resource_is}
use Rattle.vlm_queue.specs.declared.views.ResourceView.{ResourceView}
use Rattle.vlm_queue.specs.declared.views.RowView.{RowView}
use Rattle.vlm_queue.specs.Views.{resource_view, row_shown, row_view, rows_in, usage}
use Rattle.vlm_queue.specs.Walks.{GivesInTurn, IsGivenFrom, lock_at_index, resource_at_index}
use Rattle.vlm_words.specs.declared.resources.Key.{Key}
use Rattle.vlm_words.specs.declared.resources.Domain.{Domain}
use Rattle.vlm_words.specs.declared.resources.ValueBlock.{ValueBlock}
use Rattle.vlm_words.specs.Resources.{key_name, key_parent}

-- what holds of each handle that a walk can have come to holds of the handle that it has come to
pub if_some : (at : Option ℕ) (P : ℕ → Type 0) → ForSome at P → IfSome at P
if_some None P each = tt
if_some (Some at) P each = each at refl

-- ---- resources

-- the first resource is that at index 0
pub first_resource-index : (rs : List StoredResource) → first_resource_at rs ≡ resource_at_index 0 rs
first_resource-index [] = refl
first_resource-index (r ∷ rs) = refl

-- the resource at an index is one of these
resource_index-among : (i : ℕ) (rs : List StoredResource) (res : ℕ) → resource_at_index i rs ≡ Some res → (r : StoredResource) × (IsIn r rs × (r.at ≡ res))
resource_index-among i [] res is = cc
resource_index-among zero (x ∷ rs) res is = (x, (inl refl, same_Some x.at res is))
resource_index-among (suc i) (x ∷ rs) res is = let behind = resource_index-among i rs res is in (behind.0, (inr behind.1.0, behind.1.1))

-- a resource before the one at an index has another handle
resource_index-differs : (i : ℕ) (x : StoredResource) (rs : List StoredResource) (res : ℕ) → AreResourcesApart (x ∷ rs)
    → resource_at_index i rs ≡ Some res → ¬ (x.at ≡ res)
resource_index-differs i x rs res apart is same =
    let behind = resource_index-among i rs res is in
    apart.0 behind.0 behind.1.0 (behind.1.1 ∙ sym same)

-- the resource at an index is found by its handle
pub resource_at-index : (i : ℕ) (rs : List StoredResource) (res : ℕ) → AreResourcesApart rs
    → resource_at_index i rs ≡ Some res → resource_at res rs ≡ slice_get rs i
resource_at-index i [] res apart is = refl
resource_at-index zero (x ∷ rs) res apart is = rw (eq-eqb x.at res (same_Some x.at res is)) refl
resource_at-index (suc i) (x ∷ rs) res apart is = rw (ne_eqb x.at res (resource_index-differs i x rs res apart is)) (resource_at-index i rs res apart.1 is)

-- the resource at an index is there
pub resource_index-there : (i : ℕ) (rs : List StoredResource) → AreResourcesApart rs → ForSome (resource_at_index i rs) (λ res. IsSome (resource_at res rs))
resource_index-there i [] apart res is = cc
resource_index-there zero (x ∷ rs) apart res is = rw (eq-eqb x.at res (same_Some x.at res is)) refl
resource_index-there (suc i) (x ∷ rs) apart res is = rw (ne_eqb x.at res (resource_index-differs i x rs res apart is))
    (resource_index-there i rs apart.1 res is)

-- the resource after the one at an index is that at the next index
pub resource_after-index : (i : ℕ) (rs : List StoredResource) (res : ℕ) → AreResourcesApart rs
    → resource_at_index i rs ≡ Some res → resource_at_after res rs ≡ resource_at_index (suc i) rs
resource_after-index i [] res apart is = refl
resource_after-index zero (x ∷ rs) res apart is = rw (eq-eqb x.at res (same_Some x.at res is)) (first_resource-index rs)
resource_after-index (suc i) (x ∷ rs) res apart is = rw (ne_eqb x.at res (resource_index-differs i x rs res apart is))
    (resource_after-index i rs res apart.1 is)

-- no resource is at an index behind one that is past the last
pub resource_index-past : (i index : ℕ) (rs : List StoredResource) → resource_at_index i rs ≡ None → i ≤ index → resource_at_index index rs ≡ None
resource_index-past i index [] past le = refl
resource_index-past zero index (x ∷ rs) past le = cc
resource_index-past (suc i) zero (x ∷ rs) past le = absurd (omega (arith, le))
resource_index-past (suc i) (suc index) (x ∷ rs) past le = resource_index-past i index rs past (omega (arith, le))

-- ---- locks

-- the first lock is that at index 0
pub first-index : (ks : List StoredLock) → first_at ks ≡ lock_at_index 0 ks
first-index [] = refl
first-index (k ∷ ks) = refl

-- the lock at an index is one of these, with the row at this index
pub lock_index-among : (i : ℕ) (ks : List StoredLock) (at : ℕ) → lock_at_index i ks ≡ Some at → (row : LockState)
    × (IsIn (record { at = at; row = row }) ks × (slice_get (rows_of_locks ks) i ≡ Some row))
lock_index-among i [] at is = cc
lock_index-among zero (k ∷ ks) at is = (k.row, (inl (ap (λ x. record { at = x; row = k.row }) (same_Some k.at at is)), refl))
lock_index-among (suc i) (k ∷ ks) at is = let behind = lock_index-among i ks at is in (behind.0, (inr behind.1.0, behind.1.1))

-- a lock before the one at an index has another handle
lock_index-differs : (i : ℕ) (k : StoredLock) (ks : List StoredLock) (at : ℕ) → AreApart (k ∷ ks) → lock_at_index i ks ≡ Some at → ¬ (k.at ≡ at)
lock_index-differs i k ks at apart is same =
    let behind = lock_index-among i ks at is in
    apart.0 behind.0 (subst (λ x. IsIn (record { at = x; row = behind.0 }) ks) (sym same) behind.1.0)

-- the lock after the one at an index is that at the next index
pub lock_after-index : (i : ℕ) (ks : List StoredLock) (at : ℕ) → AreApart ks → lock_at_index i ks ≡ Some at → at_after at ks ≡ lock_at_index (suc i) ks
lock_after-index i [] at apart is = refl
lock_after-index zero (k ∷ ks) at apart is = rw (eq-eqb k.at at (same_Some k.at at is)) (first-index ks)
lock_after-index (suc i) (k ∷ ks) at apart is = rw (ne_eqb k.at at (lock_index-differs i k ks at apart is)) (lock_after-index i ks at apart.1 is)

-- no lock is at an index behind one that is past the last
pub lock_index-past : (i index : ℕ) (ks : List StoredLock) → lock_at_index i ks ≡ None → i ≤ index → lock_at_index index ks ≡ None
lock_index-past i index [] past le = refl
lock_index-past zero index (k ∷ ks) past le = cc
lock_index-past (suc i) zero (k ∷ ks) past le = absurd (omega (arith, le))
lock_index-past (suc i) (suc index) (k ∷ ks) past le = lock_index-past i index ks past (omega (arith, le))

-- from the first of the last locks on a queue gives their rows
pub given_from : (before rest : List StoredLock) → AreApart (before ++ rest) → IsGivenFrom (before ++ rest) (first_at rest) (rows_of_locks rest)
given_from before [] apart = refl
given_from before (k ∷ rest) apart =
    let one : before ++ k ∷ [] ++ rest ≡ before ++ k ∷ rest = append_assoc before (k ∷ []) rest in
    let others : AreApart (before ++ k ∷ [] ++ rest) = subst AreApart (sym one) apart in
    let behind : IsGivenFrom (before ++ k ∷ rest) (first_at rest) (rows_of_locks rest) =
    subst (λ ks. IsGivenFrom ks (first_at rest) (rows_of_locks rest)) one
    (given_from (before ++ k ∷ []) rest others) in (
      k.at,
      (
        refl,
        lock_among k before rest,
        subst (λ first. IsGivenFrom (before ++ k ∷ rest) first (rows_of_locks rest))
            (sym (after-among k before rest apart)) behind,
      ),
    )

-- the queue of a stored resource gives its rows in turn
pub queue_given : (s : Records) (r : StoredResource) (queue : Queue) → IsSound s → IsIn r s.resources
    → GivesInTurn r.at queue (rows_of_locks (queued queue r)) s
queue_given s r queue sound among =
    let place = Queued r.at queue in
    let here : locks_at place s ≡ queued queue r = ap (λ o. option_map_or (queued queue) o []) (resource_is r s.resources sound.resources_apart among) in
    subst (λ ks. IsGivenFrom ks (first_at ks) (rows_of_locks (queued queue r))) (sym here)
    (given_from [] (queued queue r) (subst AreApart here (sound.locks_apart place)))

-- ---- what is shown

-- what is shown of a record is what the plain resource shows
pub record_shown : (o : Option StoredResource) (serial : ℕ) (key : Key) (domain : Domain) (value_block : ValueBlock)
    → IfSome o (λ r. serial ≡ r.serial) → IfSome o (λ r. key ≡ r.key)
    → IfSome o (λ r. domain ≡ r.domain) → IfSome o (λ r. value_block ≡ r.value_block)
    → IfSome (option_map plain_resource o)
    (λ r. record {
      serial = serial;
      parent = key_parent key;
      domain = domain;
      name = key_name key;
      value =
          value_block.value;
      valid = value_block.valid;
      tail = value_block.tail;
      tail_valid =
          value_block.tail_valid;
    } ≡ resource_view r)
record_shown None serial key domain value_block a b c d = tt
record_shown (Some r) serial key domain value_block a b c d = rw (a, b, c, d) refl

-- how a stored resource is used is how the plain resource is
pub usage_shown : (o : Option StoredResource) (held : List ℕ) (conversions waiters : ℕ) (value_block : ValueBlock)
    → IfSome o (λ r. held ≡ held_counts (rows_of_locks r.granted ++ rows_of_locks r.converting)) → IfSome o (λ r. conversions ≡ length (queued Conversion r))
    → IfSome o (λ r. waiters ≡ length (queued Waiting r)) → IfSome o (λ r. value_block ≡ r.value_block)
    → IfSome (option_map plain_resource o)
    (λ r. record {
      held = held;
      conversions = conversions;
      waiters = waiters;
      value = value_block.value;
      valid =
          value_block.valid;
    } ≡ usage r)
usage_shown None held conversions waiters value_block a b c d = tt
usage_shown (Some r) held conversions waiters value_block a b c d =
    rw (a, b, c, d, length-map r.converting (λ (k : StoredLock). k.row), length-map r.waiting (λ (k : StoredLock). k.row)) refl

-- the resource at an index is shown as it is stored
pub resource_shown : (i : ℕ) (rs : List StoredResource) (res : ℕ) (view : ResourceView) → AreResourcesApart rs → resource_at_index i rs ≡ Some res
    → IfSome (option_map plain_resource (resource_at res rs)) (λ r. view ≡ resource_view r)
    → Some view ≡ option_map resource_view (slice_get (map plain_resource rs) i)
resource_shown i [] res view apart is told = cc
resource_shown zero (x ∷ rs) res view apart is told = ap Some (rw (eq-eqb x.at res (same_Some x.at res is)) at told)
resource_shown (suc i) (x ∷ rs) res view apart is told =
    resource_shown i rs res view apart.1 is (rw (ne_eqb x.at res (resource_index-differs i x rs res apart is)) at told)

-- no resource is shown at an index past the last
pub no_resource_shown : (i : ℕ) (rs : List StoredResource) → resource_at_index i rs ≡ None
    → None ≡ option_map resource_view (slice_get (map plain_resource rs) i)
no_resource_shown i [] is = refl
no_resource_shown zero (x ∷ rs) is = cc
no_resource_shown (suc i) (x ∷ rs) is = no_resource_shown i rs is

-- a queue without the handles has the rows of its locks
pub rows_in-plain : (queue : Queue) (r : StoredResource) → rows_in queue (plain_resource r) ≡ rows_of_locks (queued queue r)
rows_in-plain Granted r = refl
rows_in-plain Conversion r = refl
rows_in-plain Waiting r = refl

-- the lock that is shown stands in the queue of the resource of this handle
row_shown-index : (i : ℕ) (rs : List StoredResource) (res : ℕ) (queue : Queue) (index : ℕ) → AreResourcesApart rs → resource_at_index i rs ≡ Some res
    → row_shown (slice_get (map plain_resource rs) i) queue index ≡ option_map row_view
    (slice_get (rows_of_locks (option_map_or (queued queue) (resource_at res rs) [])) index)
row_shown-index i [] res queue index apart is = cc
row_shown-index zero (x ∷ rs) res queue index apart is =
    rw (eq-eqb x.at res (same_Some x.at res is)) (ap (λ rows. option_map row_view (slice_get rows index)) (rows_in-plain queue x))
row_shown-index (suc i) (x ∷ rs) res queue index apart is =
    rw (ne_eqb x.at res (resource_index-differs i x rs res apart is)) (row_shown-index i rs res queue index apart.1 is)

-- a lock of the queue is shown as it is stored
pub lock_shown : (s : Records) (i res : ℕ) (queue : Queue) (index at : ℕ) (view : RowView) → IsSound s → resource_at_index i s.resources ≡ Some res
    → lock_at_index index (locks_at (Queued res queue) s) ≡ Some at → ((row : LockState) → Stores s at row → view ≡ row_view row)
    → Some view ≡ row_shown (slice_get (map plain_resource s.resources) i) queue index
lock_shown s i res queue index at view sound is stands told =
    let there = lock_index-among index (locks_at (Queued res queue) s) at stands in
    ap Some (told there.0 (Queued res queue, there.1.0))
    ∙ sym (row_shown-index i s.resources res queue index sound.resources_apart is ∙ ap (option_map row_view) there.1.1)

-- no row is at an index past the last lock
no_row : (index : ℕ) (ks : List StoredLock) → lock_at_index index ks ≡ None → option_map row_view (slice_get (rows_of_locks ks) index) ≡ None
no_row index [] is = refl
no_row zero (k ∷ ks) is = cc
no_row (suc index) (k ∷ ks) is = no_row index ks is

-- no lock is shown at an index past the last of the queue
pub no_lock_shown : (s : Records) (i res : ℕ) (queue : Queue) (index : ℕ) → IsSound s → resource_at_index i s.resources ≡ Some res
    → lock_at_index index (locks_at (Queued res queue) s) ≡ None → row_shown (slice_get (map plain_resource s.resources) i) queue index ≡ None
no_lock_shown s i res queue index sound is none =
    row_shown-index i s.resources res queue index sound.resources_apart is ∙ no_row index (locks_at (Queued res queue) s) none
