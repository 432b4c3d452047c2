-- Whether a lock is one of a process.
use Rattle.std.proofs.Common.{◌≡◌, ◌≢◌, ℕ, Bool, List, [], ◌∷◌, map, true, false, ◌||◌, Option, None, Some, refl, ap, ◌∙◌, inl, inr}
use Rattle.std.specs.List.{list_any}
use Rattle.std.specs.Option.{option_map_or}
use Rattle.std.proofs.lemmas.Bool.{or_right}
use Rattle.vlm_words.specs.declared.locks.LockState.{LockState}
use Rattle.vlm_words.specs.declared.resources.Queue.{Queue}
use Rattle.vlm_words.specs.declared.resources.Queue.TheVariants.{Granted, Conversion, Waiting}
use Rattle.vlm_model.specs.Checks.{holds_lock}
use Rattle.vlm_words.specs.Rows.{is_lock_of}
use Rattle.vlm_collections.specs.Lists.{IsIn}
use Rattle.vlm_records.specs.declared.handles.Place.TheVariants.{Queued}
use Rattle.vlm_store.specs.Plain.{plain_resource, plain_resources}
use Rattle.vlm_store.specs.Records.{IsProcess, IsSound, Records, StoredResource, Stores, locks_at, queued, resource_at, rows_of_locks}
use Rattle.vlm_locks.specs.declared.located_locks.LocatedLock.{LocatedLock}
use Rattle.vlm_locks.specs.Standing.{IsLocated}
use Rattle.vlm_locks.proofs.FoundInLists.{any-among, any-not}
use Rattle.vlm_locks.proofs.QueuedLocks.{own_among, queued_stored}

-- where no lock of the ID is the process's, it holds none
pub none_held : (s : Records) → IsSound s → (pid lkid : ℕ) → ((at : ℕ) (row : LockState) → Stores s at row → row.lkid ≡ lkid → row.pid ≢ pid)
    → list_any (holds_lock pid lkid) (plain_resources s) ≡ false
none_held s sound pid lkid other = of_list s.resources (λ r here. here)
  where
    not_in : (r : StoredResource) → IsIn r s.resources → (queue : Queue) → list_any (is_lock_of pid lkid) (rows_of_locks (queued queue r)) ≡ false
    not_in r among queue = any-not pid lkid (queued queue r) (λ k here same. other k.at k.row (queued_stored s sound r among queue k here) same)

    not_on : (r : StoredResource) → IsIn r s.resources → holds_lock pid lkid (plain_resource r) ≡ false
    not_on r among = rw (not_in r among Granted, not_in r among Conversion, not_in r among Waiting) refl

    of_list : (rs : List StoredResource) → ((r : StoredResource) → IsIn r rs → IsIn r s.resources)
        → list_any (holds_lock pid lkid) (map plain_resource rs) ≡ false
    of_list [] within = refl
    of_list (r ∷ rest) within =
        ap (λ b. b || list_any (holds_lock pid lkid) (map plain_resource rest)) (not_on r (within r (inl refl)))
        ∙ of_list rest (λ x there. within x (inr there))

-- a queue has this lock of this process
abbrev has_lock : LockState → Queue → StoredResource → Bool
has_lock row queue r = list_any (is_lock_of row.pid row.lkid) (rows_of_locks (queued queue r))

-- a lock that stands in a queue is held by its process
pub some_held : (s : Records) → IsSound s → (f : LocatedLock) → IsLocated f s → list_any (holds_lock f.row.pid f.row.lkid) (plain_resources s) ≡ true
some_held s sound f located = of_list s.resources (own_among s sound f located)
  where
    in_queue : (queue : Queue) → IsIn (record { at = f.lock; row = f.row }) (queued queue located.resource)
        → holds_lock f.row.pid f.row.lkid (plain_resource located.resource) ≡ true
    in_queue Granted among = rw (any-among (record { at = f.lock; row = f.row }) located.resource.granted among) refl
    in_queue Conversion among =
        ap (λ b. b || has_lock f.row Waiting located.resource)
        (or_right (has_lock f.row Granted located.resource) (has_lock f.row Conversion located.resource)
        (any-among (record { at = f.lock; row = f.row }) located.resource.converting among))
    in_queue Waiting among =
        or_right (has_lock f.row Granted located.resource || has_lock f.row Conversion located.resource) (has_lock f.row Waiting located.resource)
        (any-among (record { at = f.lock; row = f.row }) located.resource.waiting among)

    of_list : (rs : List StoredResource) → IsIn located.resource rs → list_any (holds_lock f.row.pid f.row.lkid) (map plain_resource rs) ≡ true
    of_list [] among = absurd among
    of_list (r ∷ rest) among =
        elim among [
          | inl here ↦
              ap (λ x. holds_lock f.row.pid f.row.lkid (plain_resource x) || list_any (holds_lock f.row.pid f.row.lkid) (map plain_resource rest)) here
              ∙ ap (λ b. b || list_any (holds_lock f.row.pid f.row.lkid) (map plain_resource rest)) (in_queue f.queue located.among)
          | inr there ↦ or_right (holds_lock f.row.pid f.row.lkid (plain_resource r))
              (list_any (holds_lock f.row.pid f.row.lkid) (map plain_resource rest)) (of_list rest there)
        ]

-- a lock at a place that is a queue stands there
pub stands_queued : (s : Records) (f : LocatedLock)
    → IsIn (record { at = f.lock; row = f.row }) (locks_at (Queued f.res f.queue) s) → IsProcess f.owner f.row.pid s
    → IsSound s → IsLocated f s
stands_queued s f among owner sound = of_found (resource_at f.res s.resources) refl among
  where
    of_found : (found : Option StoredResource) → resource_at f.res s.resources ≡ found
        → IsIn (record { at = f.lock; row = f.row }) (option_map_or (queued f.queue) found []) → IsLocated f s
    of_found None is among = absurd among
    of_found (Some r) is among = record { resource = r; found = is; among = among; owner = owner; sound = sound }
