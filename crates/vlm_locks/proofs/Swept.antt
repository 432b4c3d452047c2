-- One resource is swept.
use Rattle.std.proofs.Common.{◌≡◌, ◌≢◌, ℕ, Bool, true, false, not, ◌&&◌, cond, List, [], ◌∷◌, ◌++◌, map, Some, refl}
use Rattle.std.proofs.Common.{sym, ap, ◌∙◌, subst, inl, inr, eq-eqb, ne_eqb}
use Rattle.std.specs.Prelude.{◌==◌}
use Rattle.std.proofs.lemmas.Bool.{and_parts}
use Rattle.std.proofs.lemmas.List.{map-append}
use Rattle.vlm_words.specs.declared.resources.Queue.{Queue}
use Rattle.vlm_words.specs.declared.resources.Queue.TheVariants.{Granted, Conversion, Waiting}
use Rattle.vlm_words.specs.Rows.{is_empty}
use Rattle.vlm_words.specs.State.{Process}
use Rattle.vlm_model.specs.Sweeps.{blocks_after_service, is_vacant, resource_after_service}
use Rattle.vlm_collections.specs.Lists.{IsIn}
use Rattle.vlm_store.specs.Plain.{plain_processes, plain_resource}
use Rattle.vlm_store.specs.Records.{IsIdle, IsSound, Records, Room, StoredResource, but_notices, on_resource, queued}
use Rattle.vlm_store.specs.Records.{resource_at, rows_of_locks, with_resource_room, without_resource}
use Rattle.vlm_queue.proofs.Idle.{none_shown}
use Rattle.vlm_locks.specs.Rest.{but_service}
use Rattle.vlm_locks.specs.Serving.{IsServed}
use Rattle.vlm_locks.specs.Staying.{LocksStay}
use Rattle.vlm_locks.specs.Sweeping.{IsSwept, Parted}
use Rattle.vlm_locks.proofs.FoundByHandle.{resource_alone, resource_at-put}
use Rattle.vlm_locks.proofs.MovedToGranted.{locks_found}
use Rattle.vlm_locks.proofs.OrderOfResources.{after_differ, before_differ, own_there}
use Rattle.vlm_locks.proofs.ReplacedResource.{left_at}
use Rattle.vlm_locks.proofs.GrantsKeepResources.{stay_alone, stay_none}

-- resources of other handles stay where one is put in the place of another
put_apart : (res : ℕ) (left : StoredResource) (rs : List StoredResource) → ((x : StoredResource) → IsIn x rs → x.at ≢ res) → on_resource res (λ r. left) rs ≡ rs
put_apart res left [] differ = refl
put_apart res left (r ∷ rs) differ =
    rw (ne_eqb r.at res (differ r (inl refl))) (ap (λ xs. r ∷ xs) (put_apart res left rs (λ x there. differ x (inr there))))

-- and where one goes
without_apart : (res : ℕ) (rs : List StoredResource) → ((x : StoredResource) → IsIn x rs → x.at ≢ res) → without_resource res rs ≡ rs
without_apart res [] differ = refl
without_apart res (r ∷ rs) differ =
    rw (ne_eqb r.at res (differ r (inl refl))) (ap (λ xs. r ∷ xs) (without_apart res rs (λ x there. differ x (inr there))))

without-append : (res : ℕ) (xs ys : List StoredResource) → without_resource res (xs ++ ys) ≡ without_resource res xs ++ without_resource res ys
without-append res [] ys = refl
without-append res (x ∷ xs) ys =
    elim (x.at == res) as (λ b. cond (not b) (x ∷ without_resource res (xs ++ ys)) (without_resource res (xs ++ ys))
    ≡ cond (not b) (x ∷ without_resource res xs) (without_resource res xs) ++ without_resource res ys) [
      | true ↦ without-append res xs ys
      | false ↦ ap (λ zs. x ∷ zs) (without-append res xs ys)
    ]

-- a resource whose queues are empty is vacant, and one that is vacant has empty queues
vacant_idle : (s : Records) (res : ℕ) (r : StoredResource) → resource_at res s.resources ≡ Some r → is_vacant (plain_resource r) ≡ true → IsIdle res s
vacant_idle s res r found vacant queue = locks_found s res r queue found ∙ empty queue
  where
    parts : ((is_empty (rows_of_locks r.granted) && is_empty (rows_of_locks r.converting)) ≡ true) × (is_empty (rows_of_locks r.waiting) ≡ true)
    parts = and_parts (is_empty (rows_of_locks r.granted) && is_empty (rows_of_locks r.converting)) (is_empty (rows_of_locks r.waiting)) vacant

    empty : (queue : Queue) → queued queue r ≡ []
    empty Granted = none_shown r.granted (and_parts (is_empty (rows_of_locks r.granted)) (is_empty (rows_of_locks r.converting)) parts.0).0
    empty Conversion = none_shown r.converting (and_parts (is_empty (rows_of_locks r.granted)) (is_empty (rows_of_locks r.converting)) parts.0).1
    empty Waiting = none_shown r.waiting parts.1

idle_vacant : (s : Records) (res : ℕ) (r : StoredResource) → resource_at res s.resources ≡ Some r → IsIdle res s → is_vacant (plain_resource r) ≡ true
idle_vacant s res r found idle =
    let empty : (queue : Queue) → queued queue r ≡ [] = λ queue. sym (locks_found s res r queue found) ∙ idle queue in
    rw (
      ap (λ xs. is_empty (rows_of_locks xs)) (empty Granted),
      ap (λ xs. is_empty (rows_of_locks xs)) (empty Conversion),
      ap (λ xs. is_empty (rows_of_locks xs)) (empty Waiting),
    ) refl

not_vacant : (b : Bool) → (b ≡ true → ⊥) → b ≡ false
not_vacant true not = absurd (not refl)
not_vacant false not = refl

module _ (res : ℕ) (old s : Records) (sound : IsSound old) (served : IsServed res old s) (was : Parted res old.resources) where
  abbrev left : StoredResource
  left = served.left

  abbrev processes : List Process
  processes = plain_processes old

  left_handle : left.at ≡ res
  left_handle = left_at res served.had left old s served.replaced

  own_is : was.own ≡ served.had
  own_is = resource_alone res old.resources served.had was.own sound.resources_apart served.replaced.was
      (own_there res old.resources sound.resources_apart was) was.keyed

  -- it stands where it stood
  now : s.resources ≡ was.before ++ left ∷ was.after
  now =
      served.replaced.resources
      ∙ ap (on_resource res (λ r. left)) was.parted
      ∙ map-append (λ r. cond (r.at == res) left r) was.before (was.own ∷ was.after)
      ∙ ap (λ xs. xs ++ on_resource res (λ r. left) (was.own ∷ was.after))
      (put_apart res left was.before (before_differ res old.resources sound.resources_apart was))
      ∙ ap (λ xs. was.before ++ xs)
      (ap (λ b. cond b left was.own ∷ on_resource res (λ r. left) was.after) (eq-eqb was.own.at res was.keyed)
      ∙ ap (λ xs. left ∷ xs) (put_apart res left was.after (after_differ res old.resources sound.resources_apart was)))

  found : resource_at res s.resources ≡ Some left
  found = ap (resource_at res) served.replaced.resources ∙ resource_at-put res left old.resources served.had left_handle served.replaced.was

  shown : plain_resource left ≡ resource_after_service processes (plain_resource was.own)
  shown = served.resource ∙ ap (λ (r : StoredResource). resource_after_service processes (plain_resource r)) (sym own_is)

  statuses : plain_processes s ≡ (blocks_after_service processes (plain_resource was.own)).processes
  statuses = served.statuses ∙ ap (λ (r : StoredResource). (blocks_after_service processes (plain_resource r)).processes) (sym own_is)

  same : but_service left ≡ but_service was.own
  same = served.replaced.same ∙ ap (λ (r : StoredResource). but_service r) (sym own_is)

  -- a lock is left
  pub swept_busy : (IsIdle res s → ⊥) → IsSwept res old s was
  swept_busy busy = record {
    left = left ∷ [];
    resources = now;
    served = ap (λ r. r ∷ []) shown
        ∙ sym (ap (λ b. cond b [] (resource_after_service processes (plain_resource was.own) ∷ []))
        (ap is_vacant (sym shown) ∙ not_vacant (is_vacant (plain_resource left)) (λ vacant. busy (vacant_idle s res left found vacant))));
    stay = stay_alone was.own left (left_handle ∙ sym was.keyed) (subst (λ (r : StoredResource). LocksStay r left) (sym own_is) served.stay);
    none_join = stay_alone left was.own (was.keyed ∙ sym left_handle) (subst (LocksStay left) (sym own_is) served.none_join);
    same = λ r among. elim among [ inl is ↦ subst (λ (x : StoredResource). but_service x ≡ but_service was.own) is same | inr none ↦ absurd none ];
    statuses = statuses;
    processes = served.replaced.processes;
  }

  -- no lock is left
  pub swept_idle : IsIdle res s → (new : Records) (room : Room)
      → new ≡ with_resource_room room (record s { resources = without_resource res s.resources })
      → IsSwept res old new was
  swept_idle idle new room is = record {
    left = [];
    resources =
        ap (λ (x : Records). x.resources) is
        ∙ ap (without_resource res) now
        ∙ without-append res was.before (left ∷ was.after)
        ∙ ap (λ xs. xs ++ without_resource res (left ∷ was.after)) (without_apart res was.before (before_differ res old.resources sound.resources_apart was))
        ∙ ap (λ xs. was.before ++ xs)
        (ap (λ b. cond (not b) (left ∷ without_resource res was.after) (without_resource res was.after)) (eq-eqb left.at res left_handle)
        ∙ without_apart res was.after (after_differ res old.resources sound.resources_apart was));
    served = sym (ap (λ b. cond b [] (resource_after_service processes (plain_resource was.own) ∷ []))
        (ap is_vacant (sym shown) ∙ idle_vacant s res left found idle));
    stay = stay_none was.own [] (λ queue lock among.
        let still = subst (λ (r : StoredResource). LocksStay r left) (sym own_is) served.stay queue lock among in
        subst (IsIn (record { at = lock.at; row = still.row })) (sym (locks_found s res left still.queue found) ∙ idle still.queue) still.among);
    none_join = λ r queue lock among here. absurd among;
    same = λ r among. absurd among;
    statuses = ap plain_processes is ∙ statuses;
    processes = ap (λ (x : Records). map but_notices x.processes) is ∙ served.replaced.processes;
  }
