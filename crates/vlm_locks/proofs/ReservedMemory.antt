-- Reserving memory for a lock changes no precondition and no result of `enter`.
use Rattle.std.proofs.Common.{◌≡◌, ◌+◌, ℕ, cond, List, [], ◌∷◌, map, Option, None, Some, Result, Ok, Err, OnOk, refl, sym, ap, ◌∙◌, subst}
use Rattle.std.specs.Prelude.{◌==◌}
use Rattle.std.specs.Option.{option_map_or}
use Rattle.vlm_collections.specs.declared.hashers.HashKeys.{HashKeys}
use Rattle.vlm_store.specs.Index.{hash_key}
use Rattle.vlm_words.specs.declared.locks.LockState.{LockState}
use Rattle.vlm_words.specs.Dues.{routines_of}
use Rattle.vlm_model.specs.Enqueue.{resources_after_entry}
use Rattle.vlm_collections.specs.Lists.{IsIn}
use Rattle.vlm_records.specs.declared.handles.Place.{Place}
use Rattle.vlm_records.specs.declared.handles.Place.TheVariants.{Queued}
use Rattle.vlm_store.specs.Plain.{plain_processes, plain_resource, plain_resources}
use Rattle.vlm_store.specs.Records.{DueChanges, FindsResource, HasRoom, HasRoomForLock, IsParentOf}
use Rattle.vlm_store.specs.Records.{IsProcess, IsUnchanged, Records, Rooms, SameButNotices, StoredProcess, Stores}
use Rattle.vlm_store.specs.Records.{but_notices, due_of, locks_at, process_with_lock, queued, resource_at, without_lock}
use Rattle.vlm_store.specs.Records.{without_resource}
use Rattle.vlm_locks.specs.declared.new_locks.NewLock.{NewLock}
use Rattle.vlm_locks.specs.Entering.{HasEntered, IsAdded, IsReady, MayEnter, processes_entered, resource_for, new_row}
use Rattle.vlm_locks.proofs.FoundByHandle.{process_still}
use Rattle.vlm_locks.proofs.Rising.{all_rise_still, were_stored}
use Rattle.vlm_locks.proofs.SoundRecords.{sound_alike}

-- the own locks that a new lock joins are the same where the processes are, but for notices
joined_alike : (owner : ℕ) (parent : Option ℕ) (at : ℕ) (a b : List StoredProcess) → map but_notices a ≡ map but_notices b
    → map but_notices (map (process_with_lock owner parent at) a) ≡ map but_notices (map (process_with_lock owner parent at) b)
joined_alike owner parent at a b same = shown a ∙ ap (map (process_with_lock owner parent at)) same ∙ sym (shown b)
  where
    shown : (ps : List StoredProcess)
        → map but_notices (map (process_with_lock owner parent at) ps) ≡ map (process_with_lock owner parent at)
        (map but_notices ps)
    shown [] = refl
    shown (p ∷ ps) = ap (λ qs. but_notices (process_with_lock owner parent at p) ∷ qs) (shown ps)

module _ (e : NewLock) (s o : Records) (ready : IsReady e s o) where
  -- each place has the locks that it had
  same_locks : (place : Place) → locks_at place o ≡ locks_at place s
  same_locks (Queued x queue) = ap (λ rs. option_map_or (queued queue) (resource_at x rs) []) ready.resources

  was_stored : (at : ℕ) (row : LockState) → Stores o at row → Stores s at row
  was_stored at row stored = (stored.0, subst (IsIn (record { at = at; row = row })) (same_locks stored.0) stored.1)

  still_stored : (at : ℕ) (row : LockState) → Stores s at row → Stores o at row
  still_stored at row stored = (stored.0, subst (IsIn (record { at = at; row = row })) (sym (same_locks stored.0)) stored.1)

  -- a parent is stored still
  parent_ready : (parent : Option ℕ) (row : LockState) → IsParentOf parent row s → IsParentOf parent row o
  parent_ready None row is = is
  parent_ready (Some at) row is = (is.0, (still_stored at is.0 is.1.0, is.1.1))

  -- notices alone, but for the room
  same : SameButNotices (record s { room = o.room }) o
  same = record { resources = ready.resources; processes = ready.processes; room = refl; keys = ready.keys }

  -- the lock may enter still
  pub may_enter_ready : MayEnter e s → MayEnter e o
  may_enter_ready may = record {
    rest = record {
      keyed = λ r among. may.rest.keyed r (subst (IsIn r) ready.resources among);
      rising = all_rise_still s o (were_stored s o ready.resources) ready.processes may.rest.rising;
      sound = sound_alike s o ready.resources ready.processes may.rest.sound;
    };
    rising = λ at row stored. may.rising at row (was_stored at row stored);
    owner = process_still (record s { room = o.room }) o e.owner e.pid same may.owner;
    parent = parent_ready e.parent (new_row e) may.parent;
    keyed = may.keyed;
    hash = may.hash ∙ ap (λ (h : HashKeys). hash_key h e.site.key) (sym ready.keys);
  }

  -- its resource is where it was
  pub found_ready : (res : Option ℕ) → FindsResource s e.site.key res → FindsResource o e.site.key res
  found_ready None absent = λ r among. absent r (subst (IsIn r) ready.resources among)
  found_ready (Some at) found = (found.0, (subst (IsIn found.0) (sym ready.resources) found.1.0, found.1.1, found.1.2))

  -- and the lock alone is added
  added_ready : (t : Records) → IsAdded e o t → IsAdded e s t
  added_ready t added = record {
    lock = added.lock;
    fresh = λ stored. added.fresh (stored.0, still_stored added.lock stored.0 stored.1);
    row = added.row;
    stands = added.stands;
    same = added.same;
    own_locks = added.own_locks ∙ joined_alike e.owner e.parent added.lock o.processes s.processes ready.processes;
    others = λ place. added.others place ∙ ap (without_lock added.lock) (same_locks place);
  }

  -- what has entered then has entered the records of before
  pub entered_ready : (res : ℕ) (t : Records) → HasEntered e res o t → HasEntered e res s t
  entered_ready res t entered = record {
    taken =
        let taken = entered.taken in
        record {
          entered = taken.entered ∙ ap (λ rs. resources_after_entry e.serial e.site (new_row e) e.at_once (map plain_resource rs)) ready.resources;
          added = added_ready t taken.added;
          others = taken.others ∙ ap (without_resource res) ready.resources;
          there = taken.there;
          rest = taken.rest;
        };
    statuses =
        entered.statuses ∙ ap (λ rs. processes_entered e (resource_for e (map plain_resource rs)).value_block (plain_processes o)) ready.resources
        ∙ ap (processes_entered e (resource_for e (plain_resources s)).value_block) ready.statuses;
    paid = entered.paid;
  }

-- what is so of an answer that is in order, by three facts of it
on_ok_of : {T E A B C D : Type 0} (r : Result T E) → (A → B → C → D) → OnOk r A → OnOk r B → OnOk r C → OnOk r D
on_ok_of (Ok x) f a b c = f a b c
on_ok_of (Err e) f a b c = tt

-- room is made, and then the ASTs are owed
pub made_ready : {T E : Type 0} (r : Result T E) (e : NewLock) (s mid o : Records) → IsUnchanged s mid
    → HasRoomForLock e.lkid mid → IsProcess e.owner e.pid mid
    → OnOk r (plain_processes o ≡ plain_processes mid)
    → OnOk r ((pid : ℕ) → IsProcess e.owner pid mid → DueChanges pid (λ due. due + routines_of (Some e.asked)) mid o)
    → OnOk r (SameButNotices mid o) → OnOk r (IsReady e s o)
made_ready r e s mid o unchanged lock lives =
    on_ok_of r (λ statuses owed same. record {
      resources = same.resources ∙ ap (λ (x : Records). x.resources) unchanged.same;
      processes = same.processes ∙ ap (λ (x : Records). map but_notices x.processes) unchanged.same;
      keys = same.keys ∙ ap (λ (x : Records). x.keys) unchanged.same;
      statuses = statuses ∙ ap plain_processes unchanged.same;
      lock = subst (λ (room : Rooms). HasRoom e.lkid room.locks) (sym same.room) lock;
      owed = λ pid.
          owed e.pid lives pid
          ∙ ap (λ (due : ℕ). cond (pid == e.pid) (due + routines_of (Some e.asked)) due) (ap (due_of pid) unchanged.same);
    })
