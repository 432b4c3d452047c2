-- The records after a resource is made for the lock that enters it.
use Rattle.std.proofs.Common.{◌≡◌, ◌⊎◌, ℕ, true, false, not, cond, List, [], ◌∷◌, ◌++◌, map, unwrap_or, Option, None}
use Rattle.std.proofs.Common.{Some, IsSome, refl, sym, ap, ◌∙◌, subst, inl, inr, eq-eqb, ne_eqb, IfSome}
use Rattle.std.specs.Prelude.{◌==◌}
use Rattle.std.specs.Option.{option_map_or}
use Rattle.std.proofs.lemmas.Bool.{cases_eq}
use Rattle.vlm_words.specs.declared.resources.Queue.{Queue}
use Rattle.vlm_words.specs.declared.resources.Queue.TheVariants.{Granted, Conversion, Waiting}
use Rattle.vlm_model.specs.Enqueue.{resources_after_entry}
use Rattle.vlm_words.specs.Resources as plain
use Rattle.vlm_collections.specs.Lists.{IsIn}
use Rattle.vlm_records.specs.declared.handles.Place.{Place}
use Rattle.vlm_records.specs.declared.handles.Place.TheVariants.{Queued}
use Rattle.vlm_store.specs.Plain.{plain_resource, plain_resources}
use Rattle.vlm_store.specs.Records.{FindsResource, IsNewKey, IsParentOf, IsSound, Records, Rooms, StoredResource}
use Rattle.vlm_store.specs.Records.{Stores, locks_at, new_stored_resource, queued, resource_at, with_resource_room}
use Rattle.vlm_store.specs.Records.{without_lock, without_resource}
use Rattle.vlm_words.specs.declared.locks.LockState.{LockState}
use Rattle.vlm_locks.specs.declared.new_locks.NewLock.{NewLock}
use Rattle.vlm_locks.specs.Entering.{IsEntered, resource_for, new_row}
use Rattle.vlm_words.specs.Resources.{IsKeyed}
use Rattle.vlm_locks.specs.Rest.{IsAtRest}
use Rattle.vlm_locks.specs.Rising.{IsAboveEachLock}
use Rattle.vlm_locks.proofs.Rising.{all_rise_still}
use Rattle.vlm_locks.proofs.GrantsKeepResources.{same_lock}
use Rattle.vlm_locks.proofs.Keyed.{AreKeyed, IsKeyFree, find-free, find-key, key_cases}

-- the resource at its making
abbrev pub made : NewLock → ℕ → StoredResource
made e res = new_stored_resource res e.serial e.site

-- the records with the resource, the last
abbrev pub with_made : NewLock → ℕ → Rooms → Records → Records
with_made e res room s = record s { resources = s.resources ++ made e res ∷ []; room = room }

-- that is what making the resource leaves
pub made_is : (e : NewLock) (res : ℕ) (old new : Records)
    → new ≡ with_resource_room new.room.resources (record old { resources = old.resources ++ made e res ∷ [] })
    → new ≡ with_made e res new.room old
made_is e res old new added = added ∙ ap (λ r. with_made e res r old) (sym (ap (λ (x : Records). x.room) added))

-- a resource of the longer list is the last, or was there
made_cases : (r : StoredResource) (rs : List StoredResource) (x : StoredResource) → IsIn x (rs ++ r ∷ []) → (x ≡ r) ⊎ IsIn x rs
made_cases r [] x among = elim among [ inl is ↦ inl (sym is) | inr none ↦ absurd none ]
made_cases r (y ∷ rest) x among =
    elim among [
      | inl is ↦ inr (inl is)
      | inr there ↦ elim (made_cases r rest x there) [ inl is ↦ inl is | inr was ↦ inr (inr was) ]
    ]

-- the last is one of them
made_last : (r : StoredResource) (rs : List StoredResource) → IsIn r (rs ++ r ∷ [])
made_last r [] = inl refl
made_last r (x ∷ rest) = inr (made_last r rest)

-- a resource of its key is found
made_at : (r : StoredResource) (rs : List StoredResource) → IsSome (resource_at r.at (rs ++ r ∷ []))
made_at r [] = rw (eq-eqb r.at r.at refl) refl
made_at r (x ∷ rest) =
    elim (cases_eq x.at r.at) [
      | inl same ↦ rw (eq-eqb x.at r.at same) refl
      | inr differs ↦ rw (ne_eqb x.at r.at differs) (made_at r rest)
    ]

module _ (e : NewLock) (res : ℕ) (room : Rooms) (s : Records) where
  -- no lock stands in a queue of the new resource
  queued_none : (queue : Queue) → queued queue (made e res) ≡ []
  queued_none Granted = refl
  queued_none Conversion = refl
  queued_none Waiting = refl

  -- each queue is as it was, with the new resource
  same_queue : (x : ℕ) (queue : Queue) (rs : List StoredResource)
      → option_map_or (queued queue) (resource_at x (rs ++ made e res ∷ [])) [] ≡ option_map_or (queued queue)
      (resource_at x rs) []
  same_queue x queue [] =
      elim (cases_eq res x) [
        | inl same ↦ rw (eq-eqb res x same) (queued_none queue)
        | inr differs ↦ rw (ne_eqb res x differs) refl
      ]
  same_queue x queue (r ∷ rest) =
      elim (cases_eq r.at x) [
        | inl same ↦ rw (eq-eqb r.at x same) refl
        | inr differs ↦ rw (ne_eqb r.at x differs) (same_queue x queue rest)
      ]

  -- each place has the locks that it had
  same_locks : (place : Place) → locks_at place (with_made e res room s) ≡ locks_at place s
  same_locks (Queued x queue) = same_queue x queue s.resources

  -- no lock is made with it
  was_stored : (at : ℕ) (row : LockState) → Stores (with_made e res room s) at row → Stores s at row
  was_stored at row stored = (stored.0, subst (IsIn (record { at = at; row = row })) (same_locks stored.0) stored.1)

  pub above_still : (lkid : ℕ) → IsAboveEachLock lkid s → IsAboveEachLock lkid (with_made e res room s)
  above_still lkid above at row stored = above at row (was_stored at row stored)

  -- a parent is stored still
  pub parent_still : (parent : Option ℕ) (row : LockState) → IsParentOf parent row s → IsParentOf parent row (with_made e res room s)
  parent_still None row is = is
  parent_still (Some at) row is =
      (is.0, ((is.1.0.0, subst (IsIn (record { at = at; row = is.0 })) (sym (same_locks is.1.0.0)) is.1.0.1), is.1.1))

  -- each resource is in the domain of its key
  keyed_with : IsKeyed e.site.domain e.site.key → AreKeyed s.resources → AreKeyed (with_made e res room s).resources
  keyed_with keyed all x among =
      elim (made_cases (made e res) s.resources x among) [
        | inl is ↦ subst (λ (r : StoredResource). IsKeyed r.domain r.key) (sym is) keyed
        | inr was ↦ all x was
      ]

  -- what held between two steps holds still
  pub rest_still : IsSound (with_made e res room s) → IsKeyed e.site.domain e.site.key → IsAtRest s → IsAtRest (with_made e res room s)
  rest_still sound_made keyed rest = record {
    keyed = keyed_with keyed rest.keyed;
    rising = all_rise_still s (with_made e res room s) (λ at row stored. (row, (was_stored at row stored, same_lock row))) refl rest.rising;
    sound = sound_made;
  }

  -- the new resource stands under its handle
  pub made_found : FindsResource (with_made e res room s) e.site.key (Some res)
  made_found = (made e res, (made_last (made e res) s.resources, refl, refl))

  -- ---- the entry, with it and without it

  module _ (keyed : IsKeyed e.site.domain e.site.key) (rest : IsAtRest s) (free : IsNewKey e.site.key s) where
    -- the lock finds the same resource
    same_for : resource_for e (plain_resources (with_made e res room s)) ≡ resource_for e (plain_resources s)
    same_for =
        ap (λ o. unwrap_or o (plain.new_resource e.serial e.site))
        (find-key e.site.domain e.site.key keyed (with_made e res room s).resources (made e res)
        (keyed_with keyed rest.keyed) (made_last (made e res) s.resources) refl only)
        ∙ sym (ap (λ o. unwrap_or o (plain.new_resource e.serial e.site)) (find-free e.site.domain e.site.key keyed s.resources rest.keyed free))
      where
        only : (x : StoredResource) → IsIn x (with_made e res room s).resources → x.key ≡ e.site.key → x ≡ made e res
        only x among same = elim (made_cases (made e res) s.resources x among) [ inl is ↦ is | inr was ↦ absurd (free x was same) ]

    -- its entry leaves the same resources
    same_after : resources_after_entry e.serial e.site (new_row e) e.at_once (plain_resources (with_made e res room s))
        ≡ resources_after_entry e.serial e.site (new_row e) e.at_once (plain_resources s)
    same_after = of_list s.resources rest.keyed free
      where
        of_list : (rs : List StoredResource) → AreKeyed rs → IsKeyFree e.site.key rs
            → resources_after_entry e.serial e.site (new_row e) e.at_once (map plain_resource (rs ++ made e res ∷ []))
            ≡ resources_after_entry e.serial e.site (new_row e) e.at_once (map plain_resource rs)
        of_list [] all free =
            elim (key_cases e.site.domain e.site.key keyed (made e res) keyed) [
              | inl here ↦ rw (here.0) refl
              | inr other ↦ absurd (other.1 refl)
            ]
        of_list (x ∷ xs) all free =
            elim (key_cases e.site.domain e.site.key keyed x (all x (inl refl))) [
              | inl here ↦ absurd (free x (inl refl) here.1)
              | inr other ↦ rw (other.0) (ap (λ ys. plain_resource x ∷ ys) (of_list xs (λ y there. all y (inr there)) (λ y there. free y (inr there))))
            ]

    -- the lock has entered, and its resource was made for it
    pub entered_made : (new : Records) → IsEntered e res (with_made e res room s) new → IsEntered e res s new
    entered_made new entered = record {
      taken =
          let taken = entered.taken in
          let added = taken.added in
          record {
            entered = taken.entered ∙ same_after;
            added = record {
              lock = added.lock;
              fresh = λ stored. added.fresh (
                stored.0,
                (
                  stored.1.0,
                  subst (IsIn (record { at = added.lock; row = stored.0 })) (sym (same_locks stored.1.0)) stored.1.1,
                ),
              );
              row = added.row;
              stands = added.stands;
              same = added.same;
              own_locks = added.own_locks;
              others = λ place. added.others place ∙ ap (without_lock added.lock) (same_locks place);
            };
            others = taken.others ∙ without_made s.resources;
            there = taken.there;
            rest = taken.rest;
          };
      processes = entered.processes;
      owner = entered.owner;
      value_block = subst (λ b. IfSome (resource_at res new.resources) (λ r. r.value_block ≡ b)) (ap (λ r. r.value_block) same_for) entered.value_block;
    }
      where
        without_made : (rs : List StoredResource) → without_resource res (rs ++ made e res ∷ []) ≡ without_resource res rs
        without_made [] = rw (eq-eqb res res refl) refl
        without_made (r ∷ rest) =
            elim (r.at == res) as (λ b. cond (not b) (r ∷ without_resource res (rest ++ made e res ∷ [])) (without_resource res (rest ++ made e res ∷ []))
            ≡ cond (not b) (r ∷ without_resource res rest) (without_resource res rest)) [
              | true ↦ without_made rest
              | false ↦ ap (λ xs. r ∷ xs) (without_made rest)
            ]
