-- Locks that are given up together: their requests end, and then they go.
use Rattle.std.proofs.Common.{◌≡◌, ℕ, Bool, true, List, [], map, refl, sym, ap, ◌∙◌, subst, arith, inl}
use Rattle.vlm_words.specs.declared.locks.LockState.{LockState}
use Rattle.vlm_words.specs.declared.resources.Queue.TheVariants.{Granted}
use Rattle.vlm_collections.specs.Lists.{IsIn}
use Rattle.vlm_records.specs.declared.handles.Place.TheVariants.{Queued}
use Rattle.vlm_store.specs.Plain.{plain_resource, plain_resources}
use Rattle.vlm_store.specs.Records.{IsSound, Records, SameButNotices, Stores}
use Rattle.vlm_store.specs.Total.{lock_total}
use Rattle.vlm_locks.specs.declared.joint_withdrawals.Scope.{Scope}
use Rattle.vlm_locks.specs.GivingUp.{AreChosen, AreGivenUp, AreGone, AreOfLocks, CanGo, HaveEnded, SublocksGoToo, is_chosen, noted_lkids}
use Rattle.vlm_locks.specs.Left.{is_among, resource_left}
use Rattle.vlm_locks.specs.RunningDown.{CanEndProcesses}
use Rattle.vlm_locks.specs.Touched.{Touches}
use Rattle.vlm_locks.proofs.ChangedResource.{rests_still}
use Rattle.vlm_locks.proofs.SoundRecords.{stands_alike}
use Rattle.vlm_locks.proofs.GoTogether.{no_notes}
use Rattle.vlm_locks.proofs.QueuedLocks.{one_lock}

module _ (scope : Scope) (pid : ℕ) (old mid : Records) (sound : IsSound old) (same : SameButNotices old mid) (before : Touches) where
  resources_same : plain_resources mid ≡ plain_resources old
  resources_same = ap (map plain_resource) same.resources

  were : (at : ℕ) (row : LockState) → Stores mid at row → Stores old at row
  were at row stored = (stored.0, stands_alike at row mid old (sym same.resources) stored.0 stored.1)

  are : (at : ℕ) (row : LockState) → Stores old at row → Stores mid at row
  are at row stored = (stored.0, stands_alike at row old mid same.resources stored.0 stored.1)

  -- a lock that is listed is one of the process, and chosen
  listed : {lkids : List ℕ} → AreChosen scope pid old lkids → (at : ℕ) (row : LockState) → Stores old at row → IsIn row.lkid lkids
      → (row.pid ≡ pid) × (is_chosen scope (plain_resources old) row.lkid ≡ true)
  listed chosen at row stored there =
      let found = chosen.each row.lkid there in
      let handle : found.0 ≡ at = sound.lkids_apart found.0 at found.1 row (inl found.2.0) (inl stored) found.2.1 in
      (ap (λ (x : LockState). x.pid) (one_lock old sound at row found.1 stored (subst (λ h. Stores old h found.1) handle found.2.0)) ∙ found.2.2, found.2.3)

  -- the noted locks can go
  pub can_go : (invalidates : Bool) (noted : Touches) → AreChosen scope pid old (noted_lkids noted.noted) → AreOfLocks noted.noted old
      → HaveEnded (noted_lkids noted.noted) invalidates old mid → CanEndProcesses before old → noted.room ≡ before.room
      → SublocksGoToo scope old → CanGo pid noted mid
  can_go invalidates noted chosen locks ended can_end same_room closed = record {
    rise = chosen.rise;
    locks = λ t there. let row = locks t there in (row.0, (are t.at row.0 row.1.0, row.1.1));
    own = λ at row stored there. (listed chosen at row (were at row stored) there).0;
    closed = λ at other row up stored above is there.
        let up_is = listed chosen other up (were other up above) there in
        chosen.all at row (were at row stored) (can_end.together at other row up (were at row stored) (were other up above) is ∙ up_is.0)
        (closed at other row up (were at row stored) (were other up above) is up_is.1);
    paid = ended.paid;
    rest = rests_still old mid same can_end.rest;
    together = λ at other row up stored above is. can_end.together at other row up (were at row stored) (were other up above) is;
    granted = λ res lock there. can_end.granted res lock (stands_alike lock.at lock.row mid old (sym same.resources) (Queued res Granted) there);
    room =
        let as_many : lock_total mid ≡ lock_total old = rw same.resources refl in
        omega (arith, can_end.room, as_many, same_room);
  }

  -- they are given up, once they are gone too
  pub given_up : (invalidates : Bool) (noted : Touches) (new : Records) (after : Touches) → before.noted ≡ [] → noted.room ≡ before.room
      → AreChosen scope pid old (noted_lkids noted.noted) → HaveEnded (noted_lkids noted.noted) invalidates old mid
      → AreGone (noted_lkids noted.noted) invalidates mid new (no_notes noted) after → AreGivenUp scope invalidates pid old new before after
  given_up invalidates noted new after none same_room chosen ended gone = record {
    lkids = noted_lkids noted.noted;
    chosen = chosen;
    left = record {
      resources = gone.left.resources ∙ ap (map (resource_left (is_among (noted_lkids noted.noted)) invalidates)) resources_same;
      kept = λ t there. absurd (subst (IsIn t) none there);
      only_touched = λ r there untouched. subst (IsIn r) same.resources (gone.left.only_touched r there untouched);
      same_room = gone.left.same_room ∙ same_room;
    };
    statuses = gone.statuses ∙ ended.statuses;
  }
