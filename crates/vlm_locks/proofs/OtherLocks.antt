-- A change of one lock leaves all other locks as they were.
use Rattle.std.proofs.Common.{◌≡◌, ℕ, Bool, true, false, not, cond, List, [], ◌∷◌, ◌++◌, map, Option, refl, sym, ap, ◌∙◌, inl, inr, eq-eqb, ne_eqb}
use Rattle.std.specs.Prelude.{◌==◌}
use Rattle.std.specs.Option.{option_map_or}
use Rattle.std.proofs.lemmas.Bool.{cases_eq}
use Rattle.vlm_words.specs.declared.locks.LockState.{LockState}
use Rattle.vlm_words.specs.declared.resources.Queue.{Queue}
use Rattle.vlm_words.specs.declared.resources.Queue.TheVariants.{Granted, Conversion, Waiting}
use Rattle.vlm_words.specs.declared.resources.ValueBlock.{ValueBlock}
use Rattle.vlm_records.specs.declared.handles.Place.{Place}
use Rattle.vlm_records.specs.declared.handles.Place.TheVariants.{Queued}
use Rattle.vlm_store.specs.Records.{Records, Room, SameButNotices, StoredLock, StoredProcess, StoredResource}
use Rattle.vlm_store.specs.Records.{but_notices, is_place, joining, leaving, locks_at, moving, on_resource}
use Rattle.vlm_store.specs.Records.{process_without_lock, queued, resource_at, resource_with, with_lists}
use Rattle.vlm_store.specs.Records.{with_lock_room, with_new_lock, without_lock, without_stored_lock}
use Rattle.vlm_locks.specs.Rest.{OtherLocksStay}
use Rattle.vlm_locks.specs.Withdrawing.{owned_after}

-- a list without a lock is the same without it again
without_twice : (lock : ℕ) (locks : List StoredLock) → without_lock lock (without_lock lock locks) ≡ without_lock lock locks
without_twice lock [] = refl
without_twice lock (k ∷ locks) =
    elim (cases_eq k.at lock) [
      | inl same ↦ rw (eq-eqb k.at lock same) (without_twice lock locks)
      | inr differs ↦ rw (ne_eqb k.at lock differs, ne_eqb k.at lock differs) (ap (λ ks. k ∷ ks) (without_twice lock locks))
    ]

-- a lock that joins does not show where it is left out
without_joined : (k : StoredLock) (locks : List StoredLock) → without_lock k.at (locks ++ k ∷ []) ≡ without_lock k.at locks
without_joined k [] = rw (eq-eqb k.at k.at refl) refl
without_joined k (x ∷ locks) =
    elim (x.at == k.at) as (λ b. cond (not b) (x ∷ without_lock k.at (locks ++ k ∷ [])) (without_lock k.at (locks ++ k ∷ []))
    ≡ cond (not b) (x ∷ without_lock k.at locks) (without_lock k.at locks)) [
      | true ↦ without_joined k locks
      | false ↦ ap (λ ks. x ∷ ks) (without_joined k locks)
    ]

without_moved : (to : Place) (k : StoredLock) (place : Place) (locks : List StoredLock) → without_lock k.at (moving to k place locks) ≡ without_lock k.at locks
without_moved to k place locks = of_test (is_place place to)
  where
    of_test : (b : Bool) → without_lock k.at (cond b (without_lock k.at locks ++ k ∷ []) (without_lock k.at locks)) ≡ without_lock k.at locks
    of_test true = without_joined k (without_lock k.at locks) ∙ without_twice k.at locks
    of_test false = without_twice k.at locks

-- a change of lists that shows in no list without the lock
lists_stay : (lock : ℕ) (change : Place → List StoredLock → List StoredLock)
    → ((place : Place) (locks : List StoredLock) → without_lock lock (change place locks) ≡ without_lock lock locks)
    → (s : Records) → OtherLocksStay lock s (with_lists change s)
lists_stay lock change stays s (Queued x queue) = of_list s.resources
  where
    of_queue : (queue : Queue) (r : StoredResource) → without_lock lock (queued queue (resource_with change r)) ≡ without_lock lock (queued queue r)
    of_queue Granted r = stays (Queued r.at Granted) r.granted
    of_queue Conversion r = stays (Queued r.at Conversion) r.converting
    of_queue Waiting r = stays (Queued r.at Waiting) r.waiting

    of_list : (rs : List StoredResource)
        → without_lock lock (option_map_or (queued queue)
        (resource_at x (map (resource_with change) rs)) []) ≡ without_lock lock
        (option_map_or (queued queue) (resource_at x rs) [])
    of_list [] = refl
    of_list (r ∷ rest) =
        elim (cases_eq r.at x) [
          | inl same ↦ rw (eq-eqb r.at x same) (of_queue queue r)
          | inr differs ↦ rw (ne_eqb r.at x differs) (of_list rest)
        ]

-- a lock moves
pub moved_alone : (to : Place) (k : StoredLock) (s : Records) → OtherLocksStay k.at s (with_lists (moving to k) s)
moved_alone to k s = lists_stay k.at (moving to k) (without_moved to k) s

-- a lock is made that joins a list
pub added_alone : (lock : ℕ) (row : LockState) (owner : ℕ) (parent : Option ℕ) (to : Place) (room : Room) (s : Records)
    → OtherLocksStay lock s (with_lock_room room (with_new_lock lock row owner parent to s))
added_alone lock row owner parent to room s place =
    shown place ∙ lists_stay lock (joining to (record { at = lock; row = row })) (without_come (record { at = lock; row = row })) s place
  where
    without_come : (k : StoredLock) (place : Place) (locks : List StoredLock) → without_lock k.at (joining to k place locks) ≡ without_lock k.at locks
    without_come k place locks = of_test (is_place place to)
      where
        of_test : (b : Bool) → without_lock k.at (cond b (locks ++ k ∷ []) locks) ≡ without_lock k.at locks
        of_test true = without_joined k locks
        of_test false = refl

    shown : (place : Place)
        → without_lock lock (locks_at place
        (with_lock_room room (with_new_lock lock row owner parent to s))) ≡ without_lock lock
        (locks_at place (with_lists (joining to (record { at = lock; row = row })) s))
    shown (Queued x queue) = refl

-- a lock is removed
pub removed_alone : (lock : ℕ) (room : Room) (s : Records) → OtherLocksStay lock s (with_lock_room room (without_stored_lock lock s))
removed_alone lock room s place = shown place ∙ lists_stay lock (leaving lock) (λ place locks. without_twice lock locks) s place
  where
    shown : (place : Place)
        → without_lock lock (locks_at place (with_lock_room room (without_stored_lock lock s))) ≡ without_lock lock
        (locks_at place (with_lists (leaving lock) s))
    shown (Queued x queue) = refl

-- a value block is written
pub block_alone : (lock res : ℕ) (block : ValueBlock) (s : Records)
    → OtherLocksStay lock s
    (record s { resources = on_resource res (λ r. record r { value_block = block }) s.resources })
block_alone lock res block s (Queued x queue) = ap (without_lock lock) (of_list s.resources)
  where
    of_queue : (queue : Queue) (b : Bool) (r : StoredResource) → queued queue (cond b (record r { value_block = block }) r) ≡ queued queue r
    of_queue Granted true r = refl
    of_queue Conversion true r = refl
    of_queue Waiting true r = refl
    of_queue queue false r = refl

    at_put : (b : Bool) (r : StoredResource) → (cond b (record r { value_block = block }) r).at ≡ r.at
    at_put true r = refl
    at_put false r = refl

    of_list : (rs : List StoredResource)
        → option_map_or (queued queue)
        (resource_at x (on_resource res (λ r. record r { value_block = block }) rs)) [] ≡ option_map_or
        (queued queue) (resource_at x rs) []
    of_list [] = refl
    of_list (r ∷ rest) =
        elim (cases_eq r.at x) [
          | inl same ↦ rw (
            eq-eqb (cond (r.at == res) (record r { value_block = block }) r).at x (at_put (r.at == res) r
                ∙ same),
            eq-eqb r.at x same,
          ) (of_queue queue (r.at == res) r)
          | inr differs ↦ rw (
            ne_eqb (cond (r.at == res) (record r { value_block = block }) r).at x
                (λ e. differs (sym (at_put (r.at == res) r) ∙ e)),
            ne_eqb r.at x differs,
          ) (of_list rest)
        ]

-- status blocks are written
pub statuses_alone : (lock : ℕ) (old new : Records) → SameButNotices old new → OtherLocksStay lock old new
statuses_alone lock old new same (Queued x queue) = ap (λ rs. without_lock lock (option_map_or (queued queue) (resource_at x rs) [])) same.resources

-- two changes of one lock, one after the other
pub locks_stay_over : (lock : ℕ) (old between new : Records) → OtherLocksStay lock old between → OtherLocksStay lock between new → OtherLocksStay lock old new
locks_stay_over lock old between new first second place = second place ∙ first place

-- a lock that goes or stays leaves the same of processes that are the same but for status blocks
pub owned_alike : (going : Bool) (lock : ℕ) (a b : List StoredProcess) → map but_notices a ≡ map but_notices b
    → map but_notices (owned_after going lock a) ≡ map but_notices (owned_after going lock b)
owned_alike false lock a b same = same
owned_alike true lock a b same = shown a ∙ ap (map (process_without_lock lock)) same ∙ sym (shown b)
  where
    shown : (ps : List StoredProcess) → map but_notices (map (process_without_lock lock) ps) ≡ map (process_without_lock lock) (map but_notices ps)
    shown [] = refl
    shown (p ∷ ps) = ap (λ qs. but_notices (process_without_lock lock p) ∷ qs) (shown ps)
