-- What stays if one resource is replaced by another of the same handle.
use Rattle.std.proofs.Common.{◌≡◌, ◌≢◌, ◌⊎◌, ℕ, List, [], ◌∷◌, map, cond, Some, IsSome, refl, sym, ap, ◌∙◌, subst, inl, inr, eq-eqb, ne_eqb}
use Rattle.std.specs.Prelude.{◌==◌}
use Rattle.std.proofs.lemmas.Bool.{cases_eq}
use Rattle.std.specs.Option.{option_map_or}
use Rattle.vlm_words.specs.State.{Resource}
use Rattle.vlm_words.specs.declared.locks.LockState.{LockState}
use Rattle.vlm_words.specs.declared.resources.Queue.{Queue}
use Rattle.vlm_collections.specs.Lists.{IsIn}
use Rattle.vlm_records.specs.declared.handles.Place.{Place}
use Rattle.vlm_records.specs.declared.handles.Place.TheVariants.{Queued}
use Rattle.vlm_store.specs.Plain.{plain_resource, plain_resources}
use Rattle.vlm_store.specs.Records.{HasNoSublocks, HasResource, IsRowOf, IsSound, Records, SameButNotices, StoredLock}
use Rattle.vlm_store.specs.Records.{StoredResource, Stores, but_notices, locks_at, on_resource, queued, resource_at}
use Rattle.vlm_store.specs.Records.{without_resource}
use Rattle.vlm_words.specs.Resources.{IsKeyed}
use Rattle.vlm_locks.specs.Rest.{IsAtRest, IsReplaced, OthersStay}
use Rattle.vlm_locks.specs.Staying.{LocksStay}
use Rattle.vlm_locks.proofs.Rising.{AllRise, all_rise_still, same_own}
use Rattle.vlm_locks.proofs.GrantsKeepResources.{same_back, same_lock}
use Rattle.vlm_locks.proofs.QueuedLocks.{resource_among}
use Rattle.vlm_locks.proofs.FoundByHandle.{resource_alone, resource_at-at, resource_at-put}

-- a resource of the list after is the new one, or it was there and has another handle
replaced_cases : (res : ℕ) (left : StoredResource) (rs : List StoredResource) (x : StoredResource) → IsIn x (on_resource res (λ r. left) rs)
    → (x ≡ left) ⊎ IsIn x rs
replaced_cases res left [] x among = absurd among
replaced_cases res left (r ∷ rest) x among =
    elim among [
      | inl here ↦ elim (cases_eq r.at res) [
        | inl same ↦ inl (sym here ∙ ap (λ b. cond b left r) (eq-eqb r.at res same))
        | inr differs ↦ inr (inl (sym (ap (λ b. cond b left r) (ne_eqb r.at res differs)) ∙ here))
      ]
      | inr there ↦ elim (replaced_cases res left rest x there) [ inl is ↦ inl is | inr was ↦ inr (inr was) ]
    ]

-- a resource is replaced, and then notices alone change
pub noticed_replaced : (res : ℕ) (had left : StoredResource) (old mid new : Records) → IsReplaced res had left old mid
    → SameButNotices mid new → IsReplaced res had left old new
noticed_replaced res had left old mid new replaced same = record {
  was = replaced.was;
  same = replaced.same;
  resources = same.resources ∙ replaced.resources;
  processes = same.processes ∙ replaced.processes;
}

-- where status blocks alone are written no lock gets one below it
pub no_sublocks_still : (old new : Records) → map but_notices new.processes ≡ map but_notices old.processes → (at : ℕ)
    → HasNoSublocks at old → HasNoSublocks at new
no_sublocks_still old new same at childless p own among here =
    let was = same_own old.processes new.processes same p among in
    childless was.0 own was.1.0 (subst (IsIn own) (sym was.1.1) here)

module _ (res : ℕ) (had left : StoredResource) (old new : Records) (replaced : IsReplaced res had left old new) where
  had_at : had.at ≡ res
  had_at = resource_at-at res old.resources had replaced.was

  pub left_at : left.at ≡ res
  left_at = ap (λ (r : StoredResource). r.at) replaced.same ∙ had_at

  -- all other resources are as they were
  pub others_stay : OthersStay res old new
  others_stay = ap (without_resource res) replaced.resources ∙ without_put old.resources
    where
      without_put : (rs : List StoredResource) → without_resource res (on_resource res (λ r. left) rs) ≡ without_resource res rs
      without_put [] = refl
      without_put (r ∷ rest) =
          elim (cases_eq r.at res) [
            | inl same ↦ rw (eq-eqb r.at res same, eq-eqb left.at res left_at) (without_put rest)
            | inr differs ↦ rw (ne_eqb r.at res differs, ne_eqb r.at res differs) (ap (λ rs. r ∷ rs) (without_put rest))
          ]

  -- the new one is found
  pub found_left : resource_at res new.resources ≡ Some left
  found_left = ap (resource_at res) replaced.resources ∙ resource_at-put res left old.resources had left_at replaced.was

  -- another is found as it was
  found_beside : (x : ℕ) (rs : List StoredResource) → x ≢ res → resource_at x (on_resource res (λ r. left) rs) ≡ resource_at x rs
  found_beside x [] differs = refl
  found_beside x (r ∷ rest) differs =
      elim (cases_eq r.at res) [
        | inl same ↦ rw (
          eq-eqb r.at res same,
          ne_eqb left.at x (λ e. differs (sym e ∙ left_at)),
          ne_eqb r.at x (λ e. differs (sym e ∙ same)),
        ) (found_beside x rest differs)
        | inr other ↦ rw (ne_eqb r.at res other) (ap (λ o. cond (r.at == x) (Some r) o) (found_beside x rest differs))
      ]

  -- the resource is there
  pub still_there : HasResource res new
  still_there = subst IsSome (sym found_left) refl

  -- each resource keeps its key and its domain
  pub keyed_still : ((r : StoredResource) → IsIn r old.resources → IsKeyed r.domain r.key) → (x : StoredResource)
      → IsIn x new.resources → IsKeyed x.domain x.key
  keyed_still keyed x among =
      elim (replaced_cases res left old.resources x (subst (IsIn x) replaced.resources among)) [
        | inl is ↦ subst (λ (r : StoredResource). IsKeyed r.domain r.key) (sym is)
            (subst (λ (r : StoredResource). IsKeyed r.domain r.key) (sym replaced.same) (keyed had (resource_among res old.resources had replaced.was)))
        | inr was ↦ keyed x was
      ]

  -- a lock that is stored after stands on the new one, or was stored
  pub stored_cases : {P : ℕ → LockState → Type 0} → ((queue : Queue) (k : StoredLock) → IsIn k (queued queue left) → P k.at k.row)
      → ((at : ℕ) (row : LockState) → Stores old at row → P at row) → (at : ℕ) (row : LockState) → Stores new at row → P at row
  stored_cases {P} here else at row stored = by_place stored.0 stored.1
    where
      by_place : (place : Place) → IsIn (record { at = at; row = row }) (locks_at place new) → P at row
      by_place (Queued x queue) among =
          elim (cases_eq x res) [
            | inl same ↦ here queue (record { at = at; row = row })
                (subst (IsIn (record { at = at; row = row })) (ap (λ k. locks_at (Queued k queue) new) same
                ∙ ap (λ o. option_map_or (queued queue) o []) found_left) among)
            | inr differs ↦ else at row (
              Queued x queue,
              subst (λ o. IsIn (record { at = at; row = row }) (option_map_or (queued queue) o []))
                  (ap (resource_at x) replaced.resources ∙ found_beside x old.resources differs) among,
            )
          ]

  -- locks are in the order that they had, if no lock joins
  pub rises : LocksStay left had → IsAtRest old → AllRise new new.processes
  rises none_join rest =
      all_rise_still old new
      (stored_cases {P = λ at row. IsRowOf at row old} was_here
      (λ at row stored. (row, (stored, same_lock row)))) replaced.processes rest.rising
    where
      was_here : (queue : Queue) (k : StoredLock) → IsIn k (queued queue left) → IsRowOf k.at k.row old
      was_here queue k among =
          let still = none_join queue k among in (
            still.row,
            (
              (
                Queued res still.queue,
                subst (IsIn (record { at = k.at; row = still.row }))
                    (sym (ap (λ o. option_map_or (queued still.queue) o []) replaced.was)) still.among,
              ),
              same_back k.row still.row still.same,
            ),
          )

  -- what held between two steps holds still
  pub rests : LocksStay left had → IsSound new → IsAtRest old → IsAtRest new
  rests none_join sound rest = record {
    keyed = keyed_still rest.keyed;
    rising = rises none_join rest;
    sound = sound;
  }

  -- of the plain resources just that one changes, if the change leaves the others
  pub plain_replaced : (change : Resource → Resource) → IsSound old → change (plain_resource had) ≡ plain_resource left
      → ((x : StoredResource) → IsIn x old.resources → x.at ≢ res → change (plain_resource x) ≡ plain_resource x)
      → plain_resources new ≡ map change (plain_resources old)
  plain_replaced change sound here there =
      ap (map plain_resource) replaced.resources
      ∙ twice old.resources (λ x among. elim (cases_eq x.at res) [
        | inl same ↦
            ap (λ b. plain_resource (cond b left x)) (eq-eqb x.at res same) ∙ sym here
            ∙ ap (λ r. change (plain_resource r)) (sym (resource_alone res old.resources had x sound.resources_apart replaced.was among same))
        | inr differs ↦ ap (λ b. plain_resource (cond b left x)) (ne_eqb x.at res differs) ∙ sym (there x among differs)
      ])
    where
      twice : (rs : List StoredResource) → ((x : StoredResource) → IsIn x rs → plain_resource (cond (x.at == res) left x) ≡ change (plain_resource x))
          → map plain_resource (on_resource res (λ r. left) rs) ≡ map change (map plain_resource rs)
      twice [] each = refl
      twice (x ∷ rest) each =
          ap (λ y. y ∷ map plain_resource (on_resource res (λ r. left) rest)) (each x (inl refl))
          ∙ ap (λ ys. change (plain_resource x) ∷ ys) (twice rest (λ y there. each y (inr there)))
