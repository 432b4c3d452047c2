-- All resources after a change of one of them.
use Rattle.std.proofs.Common.{◌≡◌, ◌≢◌, ℕ, List, [], ◌∷◌, map, cond, Some, IsSome, refl, sym, ap, ◌∙◌, subst, inl, inr, eq-eqb, ne_eqb}
use Rattle.std.specs.Prelude.{◌==◌}
use Rattle.std.proofs.lemmas.Bool.{cases_eq}
use Rattle.vlm_words.specs.State.{Resource}
use Rattle.vlm_words.specs.declared.resources.Queue.{Queue}
use Rattle.vlm_words.specs.declared.resources.Queue.TheVariants.{Granted, Conversion, Waiting}
use Rattle.vlm_collections.specs.Lists.{IsIn}
use Rattle.vlm_records.specs.declared.handles.Place.TheVariants.{Queued}
use Rattle.vlm_store.specs.Plain.{plain_processes, plain_resource}
use Rattle.vlm_store.specs.Records.{IsSound, Records, Rooms, SameButNotices, StoredProcess, StoredResource, leaving}
use Rattle.vlm_store.specs.Records.{process_without_lock, queued, resource_at, resource_with, without_lock}
use Rattle.vlm_store.specs.Records.{without_stored_lock}
use Rattle.vlm_store.proofs.Records.{map_on, queue_at, unmoved}
use Rattle.vlm_locks.proofs.FoundByHandle.{resource_alone}
use Rattle.vlm_locks.specs.declared.located_locks.LocatedLock.{LocatedLock}
use Rattle.vlm_locks.specs.Rest.{IsAtRest, IsReplaced, OthersStay}
use Rattle.vlm_locks.specs.Standing.{IsLocated}
use Rattle.vlm_locks.specs.Withdrawing.{IsChange}
use Rattle.vlm_locks.proofs.ReplacedResource.{keyed_still, others_stay, plain_replaced, rests, rises, still_there}
use Rattle.vlm_locks.proofs.SoundRecords.{sound_alike, still_sound}
use Rattle.vlm_locks.specs.Staying.{LocksStay}
use Rattle.vlm_locks.proofs.Rising.{all_rise_still, all_rise_without, rises_still, were_stored}
use Rattle.vlm_locks.proofs.GrantsKeepResources.{among_without, stands_in}
use Rattle.vlm_locks.proofs.QueuedLocks.{stands}

-- one resource is put in the place of another, as the plain change has it
pub changed : (res : ℕ) (change : Resource → Resource) (had left : StoredResource) (old new : Records) → IsSound old
    → IsSound new → IsAtRest old → IsReplaced res had left old new → LocksStay left had
    → change (plain_resource had) ≡ plain_resource left
    → ((x : StoredResource) → IsIn x old.resources → x.at ≢ res → change (plain_resource x) ≡ plain_resource x)
    → plain_processes new ≡ plain_processes old → IsChange res change old new
changed res change had left old new sound sound_new rest replaced none_join here there statuses = record {
  resources = plain_replaced res had left old new replaced change sound here there;
  statuses = statuses;
  others = others_stay res had left old new replaced;
  there = still_there res had left old new replaced;
  rest = rests res had left old new replaced none_join sound_new rest;
}

-- nothing is changed, and the plain change changes nothing
pub unchanged : (res : ℕ) (change : Resource → Resource) (had : StoredResource) (s : Records) → IsSound s → IsAtRest s → resource_at res s.resources ≡ Some had
    → ((x : StoredResource) → IsIn x s.resources → change (plain_resource x) ≡ plain_resource x) → IsChange res change s s
unchanged res change had s sound rest was same = record {
  resources = each s.resources same;
  statuses = refl;
  others = refl;
  there = subst IsSome (sym was) refl;
  rest = rest;
}
  where
    each : (rs : List StoredResource)
        → ((x : StoredResource) → IsIn x rs → change (plain_resource x) ≡ plain_resource x)
        → map plain_resource rs ≡ map change (map plain_resource rs)
    each [] same = refl
    each (x ∷ rs) same = ap (λ y. y ∷ map plain_resource rs) (sym (same x (inl refl)))
        ∙ ap (λ ys. change (plain_resource x) ∷ ys) (each rs (λ y there. same y (inr there)))

-- two changes that do the same to each resource are one
pub changed_alike : (res : ℕ) (f g : Resource → Resource) (old new : Records)
    → ((x : StoredResource) → IsIn x old.resources → f (plain_resource x) ≡ g (plain_resource x))
    → IsChange res f old new → IsChange res g old new
changed_alike res f g old new same change = record {
  resources = change.resources ∙ each old.resources same;
  statuses = change.statuses;
  others = change.others;
  there = change.there;
  rest = change.rest;
}
  where
    each : (rs : List StoredResource) → ((x : StoredResource) → IsIn x rs → f (plain_resource x) ≡ g (plain_resource x))
        → map f (map plain_resource rs) ≡ map g (map plain_resource rs)
    each [] same = refl
    each (x ∷ rs) same = ap (λ y. y ∷ map f (map plain_resource rs)) (same x (inl refl))
        ∙ ap (λ ys. g (plain_resource x) ∷ ys) (each rs (λ y there. same y (inr there)))

-- what held between two steps holds where status blocks alone are written
pub rests_still : (old new : Records) → SameButNotices old new → IsAtRest old → IsAtRest new
rests_still old new same rest = record {
  keyed = λ r among. rest.keyed r (subst (IsIn r) same.resources among);
  rising = all_rise_still old new (were_stored old new same.resources) same.processes rest.rising;
  sound = still_sound old new same rest.sound;
}

-- the others stay over two steps
pub stay_over : (res : ℕ) (old between new : Records) → OthersStay res old between → OthersStay res between new → OthersStay res old new
stay_over res old between new first second = second ∙ first

-- a lock that is removed leaves the processes as they were
pub removed_statuses : (lock : ℕ) (ps : List StoredProcess)
    → map (λ (p : StoredProcess). p.process) (map (process_without_lock lock) ps) ≡ map
    (λ (p : StoredProcess). p.process) ps
removed_statuses lock [] = refl
removed_statuses lock (p ∷ ps) = ap (λ rest. p.process ∷ rest) (removed_statuses lock ps)

-- a change stays one with other room
pub changed_room : (res : ℕ) (change : Resource → Resource) (s new : Records) (room : Rooms) → IsChange res change s new
    → IsChange res change s (record new { room = room })
changed_room res change s new room changes = record {
  resources = changes.resources;
  statuses = changes.statuses;
  others = changes.others;
  there = changes.there;
  rest = record {
    keyed = changes.rest.keyed;
    rising = all_rise_still new (record new { room = room }) (were_stored new (record new { room = room }) refl) refl changes.rest.rising;
    sound = sound_alike new (record new { room = room }) refl refl changes.rest.sound;
  };
}

module _ (s : Records) (sound : IsSound s) (f : LocatedLock) (located : IsLocated f s) where
  -- another resource stays as the lock goes
  stays : (x : StoredResource) → IsIn x s.resources → x.at ≢ f.res → resource_with (leaving f.lock) x ≡ x
  stays x among differs =
      let each : (queue : Queue) → without_lock f.lock (queued queue x) ≡ queued queue x =
      λ queue.
      ap (without_lock f.lock) (sym (queue_at s sound x among queue))
      ∙ unmoved s f.lock f.row (Queued f.res f.queue) sound (stands s f located) (Queued x.at queue) (λ e. differs (cc))
      ∙ queue_at s sound x among queue
      in
      rw (each Granted, each Conversion, each Waiting) refl

  -- the records without the lock, but for the locks of its process
  abbrev pub without_queued : Records
  without_queued = record s { resources = map (resource_with (leaving f.lock)) s.resources }

  -- as the lock goes, just its resource is another
  pub removed_replaced : IsReplaced f.res located.resource (resource_with (leaving f.lock) located.resource) s without_queued
  removed_replaced = record {
    was = located.found;
    same = refl;
    resources = map_on (resource_with (leaving f.lock)) (λ x. cond (x.at == f.res) (resource_with (leaving f.lock) located.resource) x) s.resources
        (λ x among. elim (cases_eq x.at f.res) [
          | inl same ↦
              ap (resource_with (leaving f.lock)) (resource_alone f.res s.resources located.resource x sound.resources_apart located.found among same)
              ∙ sym (ap (λ b. cond b (resource_with (leaving f.lock) located.resource) x) (eq-eqb x.at f.res same))
          | inr other ↦ stays x among other ∙ sym (ap (λ b. cond b (resource_with (leaving f.lock) located.resource) x) (ne_eqb x.at f.res other))
        ]);
    processes = refl;
  }

  -- no lock joins as it goes
  none_joins_by_leaving : LocksStay (resource_with (leaving f.lock) located.resource) located.resource
  none_joins_by_leaving queue k among = stands_in located.resource queue k (of_queue queue among)
    where
      of_queue : (queue : Queue) → IsIn k (queued queue (resource_with (leaving f.lock) located.resource)) → IsIn k (queued queue located.resource)
      of_queue Granted among = among_without f.lock k located.resource.granted among
      of_queue Conversion among = among_without f.lock k located.resource.converting among
      of_queue Waiting among = among_without f.lock k located.resource.waiting among

  -- so a change of its resource is that which the plain change has there
  pub removed_changed : (change : Resource → Resource) → IsSound (without_stored_lock f.lock s) → IsAtRest s
      → change (plain_resource located.resource) ≡ plain_resource (resource_with (leaving f.lock) located.resource)
      → ((x : StoredResource) → IsIn x s.resources → x.at ≢ f.res → change (plain_resource x) ≡ plain_resource x)
      → IsChange f.res change s (without_stored_lock f.lock s)
  removed_changed change sound_without rest here there =
      let left = resource_with (leaving f.lock) located.resource in
      record {
        resources = plain_replaced f.res located.resource left s without_queued removed_replaced change sound here there;
        statuses = removed_statuses f.lock s.processes;
        others = others_stay f.res located.resource left s without_queued removed_replaced;
        there = still_there f.res located.resource left s without_queued removed_replaced;
        rest = record {
          keyed = keyed_still f.res located.resource left s without_queued removed_replaced rest.keyed;
          rising = λ p among.
              rises_still without_queued (without_stored_lock f.lock s) p p (were_stored without_queued (without_stored_lock f.lock s) refl) refl
              (all_rise_without without_queued f.lock s.processes
              (rises f.res located.resource left s without_queued removed_replaced none_joins_by_leaving rest) p
              among);
          sound = sound_without;
        };
      }
