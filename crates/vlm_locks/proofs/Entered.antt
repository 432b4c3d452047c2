-- The records after a new lock has entered.
use Rattle.std.proofs.Common.{◌≡◌, ◌≢◌, ◌⊎◌, ℕ, Bool, List, [], ◌∷◌, ◌++◌, map, unwrap_or, cond, true, false, Option}
use Rattle.std.proofs.Common.{None, Some, IfSome, refl, sym, ap, ◌∙◌, subst, inl, inr, eq-eqb, ne_eqb}
use Rattle.std.specs.Prelude.{◌==◌}
use Rattle.std.proofs.lemmas.Bool.{cases_eq}
use Rattle.std.proofs.lemmas.List.{map-append}
use Rattle.vlm_words.specs.declared.locks.LockState.{LockState}
use Rattle.vlm_words.specs.declared.resources.Queue.{Queue}
use Rattle.vlm_words.specs.declared.resources.Queue.TheVariants.{Granted, Conversion, Waiting}
use Rattle.vlm_model.specs.Enqueue.{resource_after_entry, resources_after_entry}
use Rattle.vlm_words.specs.Rows.{granted_row}
use Rattle.vlm_words.specs.Resources.{new_resource, IsKeyed}
use Rattle.vlm_collections.specs.Lists.{IsIn}
use Rattle.vlm_records.specs.declared.handles.Place.{Place}
use Rattle.vlm_records.specs.declared.handles.Place.TheVariants.{Queued}
use Rattle.vlm_store.specs.Plain.{plain_resource, plain_resources}
use Rattle.vlm_store.specs.Records.{AreResourcesApart, FindsResource, IsParentOf, IsProcess, IsSameLock, IsSound}
use Rattle.vlm_store.specs.Records.{IsStored, Records, Room, Stores, StoredLock, StoredProcess, StoredResource}
use Rattle.vlm_store.specs.Records.{but_notices, joined_by, locks_at, on_resource, process_with_lock, queued}
use Rattle.vlm_store.specs.Records.{resource_at, with_lock_room, with_new_lock}
use Rattle.vlm_store.proofs.Records.{joins_queue, map_on, resource_is}
use Rattle.vlm_locks.specs.Rest.{but_service, IsAtRest, IsReplaced, OtherLocksStay}
use Rattle.vlm_locks.proofs.FoundByHandle.{resource_alone, resource_at-put}
use Rattle.vlm_locks.specs.declared.new_locks.NewLock.{NewLock}
use Rattle.vlm_locks.specs.Owing.{granted_if_at_once}
use Rattle.vlm_locks.specs.Entering.{IsAdded, IsEntered, entered_queue, resource_for, new_row}
use Rattle.vlm_locks.proofs.Keyed.{AreKeyed, finds_one, key_cases}
use Rattle.vlm_locks.proofs.ReplacedResource.{keyed_still, others_stay, still_there, stored_cases}
use Rattle.vlm_locks.proofs.MovedToGranted.{locks_found}
use Rattle.vlm_locks.proofs.OtherLocks.{added_alone}
use Rattle.vlm_locks.specs.Rising.{IsAboveEachLock}
use Rattle.vlm_locks.proofs.Rising.{AllRise, all_rise_with, none_loose}
use Rattle.vlm_locks.proofs.GrantsKeepResources.{among_last, of_joined}
use Rattle.vlm_locks.proofs.QueuedLocks.{queued_stored}

-- ---- a lock more at the end of a queue

-- the resource is the same but for its queues
joined-rest : (queue : Queue) (lock : StoredLock) (r : StoredResource) → but_service (joined_by queue lock r) ≡ but_service r
joined-rest Granted lock r = refl
joined-rest Conversion lock r = refl
joined-rest Waiting lock r = refl

-- it keeps its value block
joined-value_block : (queue : Queue) (lock : StoredLock) (r : StoredResource) → (joined_by queue lock r).value_block ≡ r.value_block
joined-value_block Granted lock r = refl
joined-value_block Conversion lock r = refl
joined-value_block Waiting lock r = refl

-- a request that is granted at once has its lock among the granted ones, another at the end of the waiting queue
pub joins_entered : (at : ℕ) (row : LockState) (at_once : Bool) (r : StoredResource)
    → plain_resource (joined_by (entered_queue at_once)
    (record { at = at; row = granted_if_at_once at_once row }) r) ≡ resource_after_entry row at_once
    (plain_resource r)
unfolding resource_after_entry
joins_entered at row true r =
    ap (λ rows. record (plain_resource r) { granted = rows })
    (map-append (λ (k : StoredLock). k.row) r.granted (record { at = at; row = granted_row row } ∷ []))
joins_entered at row false r =
    ap (λ rows. record (plain_resource r) { waiting = rows }) (map-append (λ (k : StoredLock). k.row) r.waiting (record { at = at; row = row } ∷ []))

-- its row is that of the same lock
pub entered_same : (at_once : Bool) (row : LockState) → IsSameLock row (granted_if_at_once at_once row)
entered_same true row = record { lkid = refl; pid = refl; parent = refl }
entered_same false row = record { lkid = refl; pid = refl; parent = refl }

-- which has the same parent
pub parent_same : (parent : Option ℕ) (a b : LockState) (s : Records) → IsSameLock a b → IsParentOf parent a s → IsParentOf parent b s
parent_same None a b s same is = sym same.parent ∙ is
parent_same (Some up) a b s same is = (is.0, (is.1.0, is.1.1 ∙ same.parent))

-- ---- the processes of a new lock

-- each process is as it was, but for its locks
processes_kept : (owner : ℕ) (parent : Option ℕ) (at : ℕ) (ps : List StoredProcess)
    → map (λ (p : StoredProcess). p.process) (map (process_with_lock owner parent at) ps) ≡ map
    (λ (p : StoredProcess). p.process) ps
processes_kept owner parent at [] = refl
processes_kept owner parent at (p ∷ rest) = ap (λ ps. p.process ∷ ps) (processes_kept owner parent at rest)

-- a process is still there, with the lock if it owns it
owner_kept : (owner : ℕ) (parent : Option ℕ) (at : ℕ) (ps : List StoredProcess) (p : StoredProcess) → IsIn p ps
    → IsIn (process_with_lock owner parent at p) (map (process_with_lock owner parent at) ps)
owner_kept owner parent at [] p among = absurd among
owner_kept owner parent at (x ∷ rest) p among =
    elim among [
      | inl here ↦ inl (ap (process_with_lock owner parent at) here)
      | inr there ↦ inr (owner_kept owner parent at rest p there)
    ]

-- ---- the resources as the plain machine leaves them

-- where no resource has the key of the store, none changes
on_resource-absent : (res : ℕ) (left : StoredResource) (rs : List StoredResource)
    → ((x : StoredResource) → IsIn x rs → x.at ≢ res) → on_resource res (λ x. left) rs ≡ rs
on_resource-absent res left [] absent = refl
on_resource-absent res left (x ∷ rest) absent =
    rw (ne_eqb x.at res (absent x (inl refl))) (ap (λ xs. x ∷ xs) (on_resource-absent res left rest (λ y there. absent y (inr there))))

module _ (e : NewLock) (keyed : IsKeyed e.site.domain e.site.key) where
  -- the resource of the key is the only one that changes
  pub entered_one : (r left : StoredResource) (rs : List StoredResource) → AreKeyed rs → AreResourcesApart rs → IsIn r rs → r.key ≡ e.site.key
      → ((x : StoredResource) → IsIn x rs → x.key ≡ e.site.key → x.at ≡ r.at)
      → plain_resource left ≡ resource_after_entry (new_row e) e.at_once (plain_resource r)
      → map plain_resource (on_resource r.at (λ x. left) rs) ≡ resources_after_entry e.serial e.site (new_row e) e.at_once (map plain_resource rs)
  entered_one r left [] all apart among same only after = absurd among
  entered_one r left (x ∷ rest) all apart among same only after =
      elim (key_cases e.site.domain e.site.key keyed x (all x (inl refl))) [
        | inl here ↦
            let at : x.at ≡ r.at = only x (inl refl) here.1 in
            let is : x ≡ r = elim among [ inl is ↦ is | inr there ↦ absurd (apart.0 r there (sym at)) ] in
            rw (eq-eqb x.at r.at at, here.0)
            (ap (λ y. y ∷ map plain_resource (on_resource r.at (λ y. left) rest)) (after
            ∙ ap (λ y. resource_after_entry (new_row e) e.at_once (plain_resource y)) (sym is))
            ∙ ap (λ ys. resource_after_entry (new_row e) e.at_once (plain_resource x) ∷ map plain_resource ys)
            (on_resource-absent r.at left rest (λ y there there_at. apart.0 y there (there_at ∙ sym at))))
        | inr other ↦ elim among [
          | inl is ↦ absurd (other.1 (ap (λ (y : StoredResource). y.key) is ∙ same))
          | inr there ↦
              rw (ne_eqb x.at r.at (λ at. apart.0 r there (sym at)), other.0)
              (ap (λ ys. plain_resource x ∷ ys)
              (entered_one r left rest (λ y in_rest. all y (inr in_rest)) apart.1 there same
              (λ y in_rest. only y (inr in_rest)) after))
        ]
      ]

-- ---- the entry, on a resource that is there

-- the records once the lock stands in the list of its process, but for its queue
abbrev pub owned_by : NewLock → ℕ → Records → Records
owned_by e at s = record s { processes = map (process_with_lock e.owner e.parent at) s.processes }

module _ (s : Records) (sound : IsSound s) (rest : IsAtRest s) (e : NewLock) (keyed : IsKeyed e.site.domain e.site.key)
    (res : ℕ) (found : FindsResource s e.site.key (Some res)) where
  -- the resource of the key is there
  pub found_there : resource_at res s.resources ≡ Some found.0
  found_there = ap (λ x. resource_at x s.resources) (sym found.1.1) ∙ resource_is found.0 s.resources sound.resources_apart found.1.0

  module _ (at : ℕ) (row : LockState) (to : Queue) (room : Room) (new : Records)
      (added : new ≡ with_lock_room room (with_new_lock at row e.owner e.parent (Queued res to) s)) where
    -- the resource with the lock in its queue
    abbrev left : StoredResource
    left = joined_by to (record { at = at; row = row }) found.0

    -- the resources with it
    new_resources : new.resources ≡ on_resource res (λ x. left) s.resources
    new_resources =
        ap (λ (x : Records). x.resources) added
        ∙ ap (λ (x : Records). x.resources) (joins_queue (record { at = at; row = row }) res to s)
        ∙ map_on (λ x. cond (x.at == res) (joined_by to (record { at = at; row = row }) x) x) (λ x. cond (x.at == res) left x) s.resources each
      where
        each : (x : StoredResource) → IsIn x s.resources → cond (x.at == res) (joined_by to (record { at = at; row = row }) x) x ≡ cond (x.at == res) left x
        each x among =
            elim (cases_eq x.at res) [
              | inl same ↦ ap (λ y. cond (x.at == res) (joined_by to (record { at = at; row = row }) y) x)
                  (resource_alone res s.resources found.0 x sound.resources_apart found_there among same)
              | inr differs ↦ rw (ne_eqb x.at res differs) refl
            ]

    -- the processes with it
    new_processes : new.processes ≡ map (process_with_lock e.owner e.parent at) s.processes
    new_processes = ap (λ (x : Records). x.processes) added

    -- of the resources just that of the lock is another
    replaced : IsReplaced res found.0 left (owned_by e at s) new
    replaced = record {
      was = found_there;
      same = joined-rest to (record { at = at; row = row }) found.0;
      resources = new_resources;
      processes = ap (map but_notices) new_processes;
    }

    -- a lock that is stored is the new one, or was stored
    lock_cases : (x : ℕ) (other : LockState) → Stores new x other → ((x ≡ at) × (other ≡ row)) ⊎ Stores s x other
    lock_cases = stored_cases res found.0 left (owned_by e at s) new replaced {P = λ x other. ((x ≡ at) × (other ≡ row)) ⊎ Stores s x other} (of_queue to) was
      where
        joined : (locks : List StoredLock) (k : StoredLock) → IsIn k (locks ++ record { at = at; row = row } ∷ []) → (IsIn k locks → Stores s k.at k.row)
            → ((k.at ≡ at) × (k.row ≡ row)) ⊎ Stores s k.at k.row
        joined locks k among stored =
            of_joined k (record { at = at; row = row }) locks among
            (λ is. inl (ap (λ (x : StoredLock). x.at) (sym is), ap (λ (x : StoredLock). x.row) (sym is)))
            (λ there. inr (stored there))

        in_queue : (queue : Queue) (k : StoredLock) → IsIn k (queued queue found.0) → Stores s k.at k.row
        in_queue queue k here = queued_stored s sound found.0 found.1.0 queue k here

        of_queue : (joins queue : Queue) (k : StoredLock)
            → IsIn k (queued queue (joined_by joins (record { at = at; row = row }) found.0))
            → ((k.at ≡ at) × (k.row ≡ row)) ⊎ Stores s k.at k.row
        of_queue Granted Granted k here = joined found.0.granted k here (in_queue Granted k)
        of_queue Granted Conversion k here = inr (in_queue Conversion k here)
        of_queue Granted Waiting k here = inr (in_queue Waiting k here)
        of_queue Conversion Granted k here = inr (in_queue Granted k here)
        of_queue Conversion Conversion k here = joined found.0.converting k here (in_queue Conversion k)
        of_queue Conversion Waiting k here = inr (in_queue Waiting k here)
        of_queue Waiting Granted k here = inr (in_queue Granted k here)
        of_queue Waiting Conversion k here = inr (in_queue Conversion k here)
        of_queue Waiting Waiting k here = joined found.0.waiting k here (in_queue Waiting k)

        was : (x : ℕ) (other : LockState) → Stores (owned_by e at s) x other → ((x ≡ at) × (other ≡ row)) ⊎ Stores s x other
        was x other stored = inr (by_place stored.0 stored.1)
          where
            by_place : (place : Place) → IsIn (record { at = x; row = other }) (locks_at place (owned_by e at s)) → Stores s x other
            by_place (Queued r queue) here = (Queued r queue, here)

    -- what held between two steps holds with it
    rest_with : IsSound new → ¬ IsStored at s → IsSameLock (new_row e) row → IsAboveEachLock e.lkid s → IsAtRest new
    rest_with sound_new fresh same above = record {
      keyed = keyed_still res found.0 left (owned_by e at s) new replaced rest.keyed;
      rising = subst (AllRise new) (sym new_processes)
          (all_rise_with e.owner e.parent at s new sound (none_loose s rest.rising) e.lkid fresh above
          (λ x other stored. elim (lock_cases x other stored) [
            | inl is ↦ inl (
              is.0,
              ap (λ (r : LockState). r.lkid) is.1
                  ∙ sym same.lkid,
            )
            | inr there ↦ inr there
          ])
          rest.rising);
      sound = sound_new;
    }

    -- the plain machine finds the same resource
    resource_is_found : resource_for e (plain_resources s) ≡ plain_resource found.0
    resource_is_found = ap (λ o. unwrap_or o (new_resource e.serial e.site))
        (finds_one e.site.domain e.site.key keyed s rest sound res found found.0 found_there)

    -- no other resource has the key
    same_at : (x : StoredResource) → IsIn x s.resources → x.key ≡ e.site.key → x.at ≡ found.0.at
    same_at x among same = sym (sound.keys_apart found.0 x found.1.0 among (found.1.2 ∙ sym same))

    -- the resources are those of the plain machine
    entered_here : plain_resource left ≡ resource_after_entry (new_row e) e.at_once (plain_resource found.0)
        → plain_resources new ≡ resources_after_entry e.serial e.site (new_row e) e.at_once (plain_resources s)
    entered_here after =
        ap (map plain_resource) new_resources ∙ ap (λ x. map plain_resource (on_resource x (λ y. left) s.resources)) (sym found.1.1)
        ∙ entered_one e keyed found.0 left s.resources rest.keyed sound.resources_apart found.1.0 found.1.2 same_at after

    -- the resource with the lock in its queue is found
    left_found : resource_at res new.resources ≡ Some left
    left_found =
        ap (resource_at res) new_resources
        ∙ resource_at-put res left s.resources found.0
        (ap (λ (r : StoredResource). r.at) (joined-rest to (record { at = at; row = row }) found.0)
        ∙ found.1.1) found_there

    -- the lock stands there
    stands : Stores new at row
    stands = (Queued res to, subst (IsIn (record { at = at; row = row })) (sym (locks_found new res left to left_found)) (of_queue to))
      where
        of_queue : (queue : Queue) → IsIn (record { at = at; row = row }) (queued queue (joined_by queue (record { at = at; row = row }) found.0))
        of_queue Granted = among_last (record { at = at; row = row }) found.0.granted
        of_queue Conversion = among_last (record { at = at; row = row }) found.0.converting
        of_queue Waiting = among_last (record { at = at; row = row }) found.0.waiting

    -- it alone is added
    is_added : ¬ IsStored at s → IsSameLock (new_row e) row → IsAdded e s new
    is_added fresh same = record {
      lock = at;
      fresh = fresh;
      row = row;
      stands = stands;
      same = same;
      own_locks = ap (map but_notices) new_processes;
      others = subst (OtherLocksStay at s) (sym added) (added_alone at row e.owner e.parent (Queued res to) room s);
    }

    -- the lock has entered the resource
    pub entered_by : IsSound new → ¬ IsStored at s → IsSameLock (new_row e) row → IsAboveEachLock e.lkid s
        → IsProcess e.owner e.pid s
        → plain_resource left ≡ resource_after_entry (new_row e) e.at_once (plain_resource found.0)
        → IsEntered e res s new
    entered_by sound_new fresh same above owner after = record {
      taken = record {
        entered = entered_here after;
        added = is_added fresh same;
        others = others_stay res found.0 left (owned_by e at s) new replaced;
        there = still_there res found.0 left (owned_by e at s) new replaced;
        rest = rest_with sound_new fresh same above;
      };
      processes = ap (map (λ (p : StoredProcess). p.process)) new_processes ∙ processes_kept e.owner e.parent at s.processes;
      owner = (
        process_with_lock e.owner e.parent at owner.0,
        (
          subst (IsIn (process_with_lock e.owner e.parent at owner.0)) (sym new_processes)
              (owner_kept e.owner e.parent at s.processes owner.0 owner.1.0),
          owner.1.1,
          owner.1.2,
        ),
      );
      value_block =
          subst (λ o. IfSome o (λ r. r.value_block ≡ (resource_for e (plain_resources s)).value_block))
          (sym left_found)
          (joined-value_block to (record { at = at; row = row }) found.0 ∙ sym (ap (λ r. r.value_block) resource_is_found));
    }
