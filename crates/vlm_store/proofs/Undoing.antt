-- A removal undoes an addition.
use Rattle.std.proofs.Common.{◌≡◌, ◌≢◌, ℕ, List, [], ◌∷◌, ◌++◌, map, filter, true, false, not, cond, Option, None, Some}
use Rattle.std.proofs.Common.{IsSome, refl, ap, ◌∙◌, subst, inl, inr, eq-eqb, ne_eqb, append-nil}
use Rattle.std.specs.Prelude.{◌==◌}
use Rattle.std.proofs.lemmas.Bool.{cases_eq}
use Rattle.vlm_collections.specs.Lists.{IsIn, without}
use Rattle.vlm_collections.proofs.HandleLists.{without_absent as handle_absent, without_head, without_past}
use Rattle.vlm_words.specs.declared.locks.LockState.{LockState}
use Rattle.vlm_words.specs.declared.steps.Declaration.{Declaration}
use Rattle.vlm_words.specs.declared.resources.Queue.TheVariants.{Granted, Conversion, Waiting}
use Rattle.vlm_words.specs.declared.resources.Site.{Site}
use Rattle.vlm_records.specs.declared.handles.Place.{Place}
use Rattle.vlm_records.specs.declared.handles.Place.TheVariants.{Queued}
use Rattle.vlm_store.specs.Records.{HasProcess, HasResource, OwnLock, StoredProcess, new_own, new_stored_process}
use Rattle.vlm_store.specs.Records.{process_at, process_with_lock, process_without_lock, with_new_lock, with_sublock}
use Rattle.vlm_store.specs.Records.{without_process, without_stored_lock, without_sublock, IsSound, Records, StoredLock}
use Rattle.vlm_store.specs.Records.{StoredResource, is_place, joining, leaving, new_stored_resource, resource_at}
use Rattle.vlm_store.specs.Records.{resource_with, without_lock, without_resource, HasLock, IsLock}
use Rattle.vlm_store.proofs.Records.{queue_without}

without_last : (at : ℕ) (row : LockState) (locks : List StoredLock) → without_lock at (locks ++ record { at = at; row = row } ∷ []) ≡ without_lock at locks
without_last at row [] = rw (eq-eqb at at refl) refl
without_last at row (k ∷ rest) =
    elim (k.at == at) as (λ b. cond (not b) (k ∷ without_lock at (rest ++ record { at = at; row = row } ∷ []))
    (without_lock at (rest ++ record { at = at; row = row } ∷ []))
    ≡ cond (not b) (k ∷ without_lock at rest) (without_lock at rest)) [
      | true ↦ without_last at row rest
      | false ↦ ap (λ xs. k ∷ xs) (without_last at row rest)
    ]

handles_last : (at : ℕ) (handles : List ℕ) → ¬ IsIn at handles → without at (handles ++ at ∷ []) ≡ handles
handles_last at [] absent = without_head at at [] refl
handles_last at (k ∷ rest) absent =
    without_past at k (rest ++ at ∷ []) (λ same. absent (inl same)) ∙ ap (λ xs. k ∷ xs) (handles_last at rest (λ there. absent (inr there)))

own_last : (at : ℕ) (own : List OwnLock) → filter (λ (o : OwnLock). not (o.at == at)) (own ++ new_own at) ≡ filter (λ (o : OwnLock). not (o.at == at)) own
own_last at [] = rw (eq-eqb at at refl) refl
own_last at (o ∷ rest) =
    elim (o.at == at) as (λ b. cond (not b) (o ∷ filter (λ (x : OwnLock). not (x.at == at)) (rest ++ new_own at))
    (filter (λ (x : OwnLock). not (x.at == at)) (rest ++ new_own at))
    ≡ cond (not b) (o ∷ filter (λ (x : OwnLock). not (x.at == at)) rest) (filter (λ (x : OwnLock). not (x.at == at)) rest)) [
      | true ↦ own_last at rest
      | false ↦ ap (λ xs. o ∷ xs) (own_last at rest)
    ]

-- a process that is added and removed again
pub process_undone : (s : Records) (at pid : ℕ) (d : Declaration) → ¬ HasProcess at s
    → record s { processes = without_process at (s.processes ++ new_stored_process at pid d ∷ []) } ≡ s
process_undone s at pid d absent = ap (λ x. record s { processes = x }) (each s.processes absent)
  where
    each : (ps : List StoredProcess) → ¬ IsSome (process_at at ps) → without_process at (ps ++ new_stored_process at pid d ∷ []) ≡ ps
    each [] absent = rw (eq-eqb at at refl) refl
    each (p ∷ ps) absent =
        elim (cases_eq p.at at) [
          | inl same ↦ absurd (absent (rw (eq-eqb p.at at same) refl))
          | inr differs ↦ rw (ne_eqb p.at at differs) (ap (λ xs. p ∷ xs) (each ps (λ there. absent (rw (ne_eqb p.at at differs) there))))
        ]

module _ (s : Records) (at : ℕ) (sound : IsSound s) (absent : ¬ IsLock at s) where
  resource_same : (r : StoredResource) → IsIn r s.resources → resource_with (leaving at) r ≡ r
  resource_same r among =
      let stays = queue_without s sound at r among (λ queue row found. absent (row, inl (Queued r.at queue, found))) in
      rw (stays Granted, stays Conversion, stays Waiting) refl

  -- the locks of a process are as they were
  own_same : (p : StoredProcess) → IsIn p s.processes → (parent : Option ℕ) (own : List OwnLock) → ((o : OwnLock) → IsIn o own → IsIn o p.own)
      → map (without_sublock at) (filter (λ (o : OwnLock). not (o.at == at)) (map (with_sublock parent at) own)) ≡ own
  own_same p among parent [] within = refl
  own_same p among parent (o ∷ rest) within =
      let stored = sound.owned.owns p o among (within o (inl refl)) in
      let differs : o.at ≢ at = λ same. absent (stored.0, subst (λ x. HasLock s x stored.0) same stored.1.0) in
      let none : ¬ IsIn at o.sublocks = λ found. let below = sound.owned.below p o at among (within o (inl refl)) found in absent (below.1, below.2.1) in
      rw (at_same parent o, ne_eqb o.at at differs)
      (ap (λ x. x ∷ map (without_sublock at) (filter (λ (o : OwnLock). not (o.at == at)) (map (with_sublock parent at) rest))) (sublocks_same parent o none)
      ∙ ap (λ xs. o ∷ xs) (own_same p among parent rest (λ x there. within x (inr there))))
    where
      at_same : (parent : Option ℕ) (o : OwnLock) → (with_sublock parent at o).at ≡ o.at
      at_same None o = refl
      at_same (Some up) o = elim (o.at == up) as (λ b. (cond b (record o { sublocks = o.sublocks ++ at ∷ [] }) o).at ≡ o.at) [ true ↦ refl | false ↦ refl ]

      sublocks_same : (parent : Option ℕ) (o : OwnLock) → ¬ IsIn at o.sublocks → without_sublock at (with_sublock parent at o) ≡ o
      sublocks_same None o none = ap (λ x. record { at = o.at; sublocks = x; loose = o.loose }) (handle_absent at o.sublocks none)
      sublocks_same (Some up) o none =
          elim (o.at == up) as (λ b. without_sublock at (cond b (record o { sublocks = o.sublocks ++ at ∷ [] }) o) ≡ o) [
            | true ↦ ap (λ x. record { at = o.at; sublocks = x; loose = o.loose }) (handles_last at o.sublocks none)
            | false ↦ ap (λ x. record { at = o.at; sublocks = x; loose = o.loose }) (handle_absent at o.sublocks none)
          ]

  process_same : (p : StoredProcess) → IsIn p s.processes → (owner : ℕ) (parent : Option ℕ) → process_without_lock at (process_with_lock owner parent at p) ≡ p
  process_same p among owner parent =
      ap (λ x. record p { own = x })
      (elim (p.at == owner) as
      (λ b. map (without_sublock at)
      (filter (λ (o : OwnLock). not (o.at == at))
      (map (with_sublock parent at) p.own ++ cond b (new_own at) [])) ≡ p.own) [
        | true ↦ ap (map (without_sublock at)) (own_last at (map (with_sublock parent at) p.own)) ∙ own_same p among parent p.own (λ o here. here)
        | false ↦ ap (λ xs. map (without_sublock at) (filter (λ (o : OwnLock). not (o.at == at)) xs))
            (append-nil (map (with_sublock parent at) p.own)) ∙ own_same p among parent p.own (λ o here. here)
      ])

  module _ (row : LockState) (to : Place) where
    -- no list shows it, once it has left
    left_joined : (place : Place) (locks : List StoredLock) → without_lock at (joining to (record { at = at; row = row }) place locks) ≡ without_lock at locks
    left_joined place locks =
        elim (is_place place to) as (λ b. without_lock at (cond b (locks ++ record { at = at; row = row } ∷ []) locks) ≡ without_lock at locks) [
          | true ↦ without_last at row locks
          | false ↦ refl
        ]

    joined_same : (r : StoredResource) → IsIn r s.resources → resource_with (leaving at) (resource_with (joining to (record { at = at; row = row })) r) ≡ r
    joined_same r among =
        let granted = left_joined (Queued r.at Granted) r.granted in
        let converting = left_joined (Queued r.at Conversion) r.converting in
        let waiting = left_joined (Queued r.at Waiting) r.waiting in
        (λ i. record r { granted = granted i; converting = converting i; waiting = waiting i }) ∙ resource_same r among

    resources_same : (rs : List StoredResource) → ((r : StoredResource) → IsIn r rs → IsIn r s.resources)
        → map (resource_with (leaving at)) (map (resource_with (joining to (record { at = at; row = row }))) rs) ≡ rs
    resources_same [] within = refl
    resources_same (r ∷ rest) within =
        ap (λ x. x ∷ map (resource_with (leaving at))
        (map (resource_with (joining to (record { at = at; row = row }))) rest))
        (joined_same r (within r (inl refl)))
        ∙ ap (λ xs. r ∷ xs) (resources_same rest (λ x there. within x (inr there)))

  pub lock_undone : (row : LockState) (owner : ℕ) (parent : Option ℕ) (to : Place) → without_stored_lock at (with_new_lock at row owner parent to s) ≡ s
  lock_undone row owner parent to =
      ap (λ x. record (without_stored_lock at (with_new_lock at row owner parent to s)) { resources = x }) (resources_same row to s.resources (λ r here. here))
      ∙ ap (λ x. record s { processes = x }) (each s.processes (λ p here. here))
    where
      each : (ps : List StoredProcess) → ((p : StoredProcess) → IsIn p ps → IsIn p s.processes)
          → map (process_without_lock at) (map (process_with_lock owner parent at) ps) ≡ ps
      each [] within = refl
      each (p ∷ rest) within =
          ap (λ x. x ∷ map (process_without_lock at) (map (process_with_lock owner parent at) rest)) (process_same p (within p (inl refl)) owner parent)
          ∙ ap (λ xs. p ∷ xs) (each rest (λ x there. within x (inr there)))

pub resource_undone : (s : Records) (res serial : ℕ) (site : Site) → ¬ HasResource res s
    → record s { resources = without_resource res (s.resources ++ new_stored_resource res serial site ∷ []) } ≡ s
resource_undone s res serial site absent = ap (λ x. record s { resources = x }) (each s.resources absent)
  where
    each : (rs : List StoredResource) → ¬ IsSome (resource_at res rs) → without_resource res (rs ++ new_stored_resource res serial site ∷ []) ≡ rs
    each [] absent = rw (eq-eqb res res refl) refl
    each (r ∷ rs) absent =
        elim (cases_eq r.at res) [
          | inl same ↦ absurd (absent (rw (eq-eqb r.at res same) refl))
          | inr differs ↦ rw (ne_eqb r.at res differs) (ap (λ xs. r ∷ xs) (each rs (λ there. absent (rw (ne_eqb r.at res differs) there))))
        ]
