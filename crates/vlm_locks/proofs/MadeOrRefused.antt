-- A resource is made for the lock that enters it, or memory is refused.
use Rattle.std.proofs.Common.{◌≡◌, ◌++◌, ◌∷◌, ℕ, [], Some, Result, Ok, Err, IfOk, OnOk, refl, sym, ap, subst}
use Rattle.vlm_words.specs.declared.locks.LockState.{LockState}
use Rattle.vlm_store.specs.Records.{AreSound, FindsResource, IsNewKey, IsSound, Records, new_stored_resource, with_resource_room}
use Rattle.vlm_locks.specs.declared.new_locks.NewLock.{NewLock}
use Rattle.vlm_locks.specs.Entering.{IsDueMore, IsEntered, MayEnter, new_row}
use Rattle.vlm_locks.proofs.NewResources.{above_still, entered_made, made_found, made_is, parent_still, rest_still}
use Rattle.vlm_locks.proofs.ReservedByRequests.{due_with_resource}

-- the resource is the last one, and nothing else is changed except the room for resources
abbrev pub IsMade : NewLock → Records → Records → ℕ → Type 0
IsMade e s new res =
    new ≡ with_resource_room new.room.resources (record s { resources = s.resources ++ new_stored_resource res e.serial e.site ∷ [] })

module _ {E : Type 0} (e : NewLock) (s new : Records) where
  -- with it the lock may enter still
  pub made_may_enter : (r : Result ℕ E) → IfOk r (IsMade e s new) → OnOk r (AreSound s new) → MayEnter e s → OnOk r (MayEnter e new)
  made_may_enter (Ok res) made sound may =
      let is = made_is e res s new made in
      subst (MayEnter e) (sym is) (record {
        rest = rest_still e res new.room s (subst IsSound is sound.after) may.keyed may.rest;
        rising = above_still e res new.room s e.lkid may.rising;
        owner = may.owner;
        parent = parent_still e res new.room s e.parent (new_row e) may.parent;
        keyed = may.keyed;
        hash = may.hash;
      })
  made_may_enter (Err x) made sound may = tt

  pub made_finds : (r : Result ℕ E) → IfOk r (IsMade e s new) → IfOk r (λ res. FindsResource new e.site.key (Some res))
  made_finds (Ok res) made = subst (λ t. FindsResource t e.site.key (Some res)) (sym (made_is e res s new made)) (made_found e res new.room s)
  made_finds (Err x) made = tt

  -- the room for locks stays
  pub made_locks : (r : Result ℕ E) → IfOk r (IsMade e s new) → OnOk r (new.room.locks ≡ s.room.locks)
  made_locks (Ok res) made = ap (λ (t : Records). t.room.locks) made
  made_locks (Err x) made = tt

  -- a lock that enters then has entered the records of before
  pub made_entered : (r : Result ℕ E) → IfOk r (IsMade e s new) → MayEnter e s → IsNewKey e.site.key s
      → IfOk r (λ res. (then : Records) → IsEntered e res new then → IsEntered e res s then)
  made_entered (Ok res) made may absent = λ then entered.
      entered_made e res new.room s may.keyed may.rest absent then (subst (λ t. IsEntered e res t then) (made_is e res s new made) entered)
  made_entered (Err x) made may absent = tt

  pub made_due : (r : Result ℕ E) → IfOk r (IsMade e s new)
      → OnOk r ((row : LockState) (then : Records) → IsDueMore row new then → IsDueMore row s then)
  made_due (Ok res) made = λ row then more.
      let is = made_is e res s new made in
      due_with_resource (new_stored_resource res e.serial e.site) (λ pid. refl) s row new then
      (ap (λ (x : Records). x.resources) is) (ap (λ (x : Records). x.processes) is)
      more
  made_due (Err x) made = tt
