-- What a caller sees of the processes and their locks, and how it changes as the tables do.
use Rattle.std.proofs.Common.{◌≡◌, ◌≢◌, ℕ, true, false, cond, List, [], ◌∷◌, ◌++◌, map, filter, not, Option, None, Some}
use Rattle.std.proofs.Common.{IsSome, slice_get, refl, sym, ap, ◌∙◌, subst, inl, inr, eq-eqb, ne_eqb, ◌⊎◌}
use Rattle.std.specs.Prelude.{◌==◌, if◌then◌else◌}
use Rattle.std.proofs.lemmas.Bool.{cases_eq}
use Rattle.std.specs.Option.{option_map}
use Rattle.std.proofs.lemmas.Option.{same_Some, slice_get-map}
use Rattle.vlm_collections.specs.Lists.{IsApart, IsIn, first_handle, handle_after, without}
use Rattle.vlm_collections.proofs.Images.{IsIn-image, IsIn-told}
use Rattle.vlm_collections.proofs.HandleLists.{without_head, without_past}
use Rattle.vlm_store.specs.Records.{AreProcessesApart, OwnLock, StoredProcess, new_own, on_stored, process_after}
use Rattle.vlm_store.specs.Records.{process_at, process_with_lock, process_without_lock, with_sublock, without_process}
use Rattle.vlm_store.specs.Records.{without_sublock, process_with_loose, with_loose}
use Rattle.vlm_store.specs.Holdings.{Holding, faced, own_of, process_under, processes_of}
use Rattle.vlm_words.specs.declared.locks.LockState.{LockState}

-- ---- what is seen

-- a process that is in the order is found
process_found : (h : Holding) (at : ℕ) (ps : List ℕ) → IsIn at ps → process_at at (map (process_under h) ps) ≡ Some (process_under h at)
process_found h at [] found = absurd found
process_found h at (p ∷ ps) found =
    elim (cases_eq p at) [
      | inl same ↦ rw (eq-eqb p at same) (ap (λ x. Some (process_under h x)) same)
      | inr differs ↦ rw (ne_eqb p at differs) (process_found h at ps (elim found [ inl here ↦ absurd (differs here) | inr there ↦ there ]))
    ]

process_there : (h : Holding) (at : ℕ) (ps : List ℕ) → IsSome (process_at at (map (process_under h) ps)) → IsIn at ps
process_there h at [] found = cc
process_there h at (p ∷ ps) found =
    elim (cases_eq p at) [
      | inl same ↦ inl same
      | inr differs ↦ inr (process_there h at ps (rw (ne_eqb p at differs) at found))
    ]

pub process_at-found : (h : Holding) (at : ℕ) → IsIn at h.order → process_at at (processes_of h) ≡ Some (process_under h at)
unfolding processes_of
process_at-found h at found = process_found h at h.order found

pub HasProcess-order : (h : Holding) (at : ℕ) → IsSome (process_at at (processes_of h)) → IsIn at h.order
unfolding processes_of
HasProcess-order h at found = process_there h at h.order found

-- the processes that a caller sees
process_among : (h : Holding) (ps : List ℕ) (p : StoredProcess) → IsIn p (map (process_under h) ps) → IsIn p.at ps × (process_under h p.at ≡ p)
process_among h = IsIn-told (process_under h) (λ (x : StoredProcess). x.at) (λ p. refl)

among_process : (h : Holding) (ps : List ℕ) (at : ℕ) → IsIn at ps → IsIn (process_under h at) (map (process_under h) ps)
among_process h = IsIn-image (process_under h)

pub seen_process : (h : Holding) (p : StoredProcess) → IsIn p (processes_of h) → IsIn p.at h.order × (process_under h p.at ≡ p)
unfolding processes_of
seen_process h p found = process_among h h.order p found

pub process_seen : (h : Holding) (at : ℕ) → IsIn at h.order → IsIn (process_under h at) (processes_of h)
unfolding processes_of
process_seen h at found = among_process h h.order at found

-- the locks of a process that a caller sees
pub own_among : (h : Holding) (ks : List ℕ) (own : OwnLock) → IsIn own (map (own_of h) ks)
    → IsIn own.at ks × (h.below own.at ≡ own.sublocks) × (h.loose own.at ≡ own.loose)
own_among h ks own found = let of = IsIn-told (own_of h) (λ (x : OwnLock). x.at) (λ k. refl) ks own found in
    (of.0, ap (λ (x : OwnLock). x.sublocks) of.1, ap (λ (x : OwnLock). x.loose) of.1)

pub among_own : (h : Holding) (ks : List ℕ) (at : ℕ) → IsIn at ks → IsIn (own_of h at) (map (own_of h) ks)
among_own h = IsIn-image (own_of h)

-- handles and IDs are apart
processes_apart : (h : Holding) (ps : List ℕ) → IsApart ps
    → ((a b : ℕ) → IsIn a ps → IsIn b ps → (h.faces a).plain.pid ≡ (h.faces b).plain.pid → a ≡ b)
    → AreProcessesApart (map (process_under h) ps)
processes_apart h [] apart pids = tt
processes_apart h (x ∷ ps) apart pids = (
  λ other found.
      let seen = process_among h ps other found in
      let absent : ¬ (other.at ≡ x) = λ same. apart.0 (subst (λ y. IsIn y ps) same seen.0) in
      (absent, λ same. absent (pids other.at x (inr seen.0) (inl refl) (ap (λ (y : StoredProcess). y.process.pid) seen.1 ∙ same))),
  processes_apart h ps apart.1 (λ a b here there. pids a b (inr here) (inr there)),
)

pub AreProcessesApart-processes_of : (h : Holding) → IsApart h.order
    → ((a b : ℕ) → IsIn a h.order → IsIn b h.order → (h.faces a).plain.pid ≡ (h.faces b).plain.pid → a ≡ b)
    → AreProcessesApart (processes_of h)
unfolding processes_of
AreProcessesApart-processes_of h apart pids = processes_apart h h.order apart pids

-- ---- how it changes

own_map : (old new : Holding) → ((k : ℕ) → new.below k ≡ old.below k) → ((k : ℕ) → new.loose k ≡ old.loose k)
    → (ks : List ℕ) → map (own_of new) ks ≡ map (own_of old) ks
own_map old new below loose [] = refl
own_map old new below loose (k ∷ ks) =
    ap (λ b. record { at = k; sublocks = b; loose = new.loose k } ∷ map (own_of new) ks) (below k)
    ∙ ap (λ x. record { at = k; sublocks = old.below k; loose = x } ∷ map (own_of new) ks) (loose k)
    ∙ ap (λ rest. own_of old k ∷ rest) (own_map old new below loose ks)

module _ (old new : Holding) (below : (k : ℕ) → new.below k ≡ old.below k) (loose : (k : ℕ) → new.loose k ≡ old.loose k) where
  process_same : (p : ℕ) → new.faces p ≡ old.faces p → new.own p ≡ old.own p → process_under new p ≡ process_under old p
  process_same p faces own =
      ap (λ face. faced p face (map (own_of new) (new.own p))) faces
      ∙ ap (faced p (old.faces p)) (ap (map (own_of new)) own ∙ own_map old new below loose (old.own p))

  -- all is the same
  pub processes_same : ((p : ℕ) → new.faces p ≡ old.faces p) → ((p : ℕ) → new.own p ≡ old.own p) → new.order ≡ old.order → processes_of new ≡ processes_of old
  unfolding processes_of
  processes_same faces own order = ap (map (process_under new)) order ∙ each old.order
    where
      each : (ps : List ℕ) → map (process_under new) ps ≡ map (process_under old) ps
      each [] = refl
      each (p ∷ ps) = ap (λ x. x ∷ map (process_under new) ps) (process_same p (faces p) (own p)) ∙ ap (λ rest. process_under old p ∷ rest) (each ps)

  -- a process is made
  pub process_made : (at : ℕ) (made : StoredProcess) → ((p : ℕ) → p ≢ at → new.faces p ≡ old.faces p)
      → ((p : ℕ) → p ≢ at → new.own p ≡ old.own p) → ¬ IsIn at old.order
      → new.order ≡ old.order ++ at ∷ [] → process_under new at ≡ made → processes_of new ≡ processes_of old ++ made ∷ []
  unfolding processes_of
  process_made at made faces own absent order is = ap (map (process_under new)) order ∙ each old.order absent
    where
      each : (ps : List ℕ) → ¬ IsIn at ps → map (process_under new) (ps ++ at ∷ []) ≡ map (process_under old) ps ++ made ∷ []
      each [] absent = ap (λ x. x ∷ []) is
      each (p ∷ ps) absent =
          let differs : p ≢ at = λ same. absent (inl same) in
          ap (λ x. x ∷ map (process_under new) (ps ++ at ∷ [])) (process_same p (faces p differs) (own p differs))
          ∙ ap (λ rest. process_under old p ∷ rest) (each ps (λ there. absent (inr there)))

  -- a process is removed
  pub process_removed : (at : ℕ) → ((p : ℕ) → p ≢ at → new.faces p ≡ old.faces p)
      → ((p : ℕ) → p ≢ at → new.own p ≡ old.own p) → new.order ≡ without at old.order
      → processes_of new ≡ without_process at (processes_of old)
  unfolding processes_of
  process_removed at faces own order = ap (map (process_under new)) order ∙ each old.order
    where
      each : (ps : List ℕ) → map (process_under new) (without at ps) ≡ without_process at (map (process_under old) ps)
      each [] = refl
      each (p ∷ ps) =
          elim (cases_eq p at) [
            | inl same ↦ ap (map (process_under new)) (without_head at p ps same) ∙ each ps ∙ rw (eq-eqb p at same) refl
            | inr differs ↦
                ap (map (process_under new)) (without_past at p ps differs)
                ∙ rw (ne_eqb p at differs)
                (ap (λ x. x ∷ map (process_under new) (without at ps))
                (process_same p (faces p differs) (own p differs))
                ∙ ap (λ rest. process_under old p ∷ rest) (each ps))
          ]

  -- what a process shows is written
  pub process_written : (at : ℕ) (change : StoredProcess → StoredProcess)
      → ((locks : List OwnLock) → faced at (new.faces at) locks ≡ change (faced at (old.faces at) locks))
      → ((p : ℕ) → p ≢ at → new.faces p ≡ old.faces p) → ((p : ℕ) → new.own p ≡ old.own p) → new.order ≡ old.order
      → processes_of new ≡ on_stored at change (processes_of old)
  unfolding processes_of
  process_written at change here others own order = ap (map (process_under new)) order ∙ each old.order
    where
      written : (p : ℕ) → p ≡ at → process_under new p ≡ change (process_under old p)
      written p same =
          ap (faced p (new.faces p)) (ap (map (own_of new)) (own p) ∙ own_map old new below loose (old.own p))
          ∙ subst (λ x. faced x (new.faces x) (map (own_of old) (old.own p)) ≡ change
          (faced x (old.faces x) (map (own_of old) (old.own p)))) (sym same) (here (map (own_of old) (old.own p)))

      each : (ps : List ℕ) → map (process_under new) ps ≡ on_stored at change (map (process_under old) ps)
      each [] = refl
      each (p ∷ ps) =
          elim (cases_eq p at) [
            | inl same ↦
                rw (eq-eqb p at same) (ap (λ x. x ∷ map (process_under new) ps) (written p same) ∙ ap (λ rest. change (process_under old p) ∷ rest) (each ps))
            | inr differs ↦
                rw (ne_eqb p at differs)
                (ap (λ x. x ∷ map (process_under new) ps) (process_same p (others p differs) (own p))
                ∙ ap (λ rest. process_under old p ∷ rest) (each ps))
          ]

map_append_one : (h : Holding) (ks : List ℕ) (at : ℕ) → map (own_of h) (ks ++ at ∷ []) ≡ map (own_of h) ks ++ own_of h at ∷ []
map_append_one h [] at = refl
map_append_one h (k ∷ ks) at = ap (λ rest. own_of h k ∷ rest) (map_append_one h ks at)

append_nothing : (xs : List OwnLock) → xs ++ [] ≡ xs
append_nothing [] = refl
append_nothing (x ∷ xs) = ap (λ rest. x ∷ rest) (append_nothing xs)

-- a lock is made
module _ (old new : Holding) (owner : ℕ) (parent : Option ℕ) (at : ℕ) (faces : (p : ℕ) → new.faces p ≡ old.faces p) (order : new.order ≡ old.order)
    (own_here : new.own owner ≡ old.own owner ++ at ∷ []) (own_others : (p : ℕ) → p ≢ owner → new.own p ≡ old.own p) (childless : new.below at ≡ [])
    (below_here : (k : ℕ) → parent ≡ Some k → new.below k ≡ old.below k ++ at ∷ []) (below_others : (k : ℕ) → parent ≢ Some k → new.below k ≡ old.below k)
    (loose : (k : ℕ) → new.loose k ≡ old.loose k) (queued : new.loose at ≡ None) where
  abbrev own_with : ℕ → List ℕ → Option LockState → OwnLock
  own_with k below row = record { at = k; sublocks = below; loose = row }

  same_loose : (k : ℕ) (below : List ℕ) → own_with k below (new.loose k) ≡ own_with k below (old.loose k)
  same_loose k below = ap (own_with k below) (loose k)

  sublock_of : (k : ℕ) (up : Option ℕ) → parent ≡ up → own_of new k ≡ with_sublock up at (own_of old k)
  sublock_of k None is = ap (λ b. record { at = k; sublocks = b; loose = new.loose k }) (below_others k (λ e. cc)) ∙ same_loose k (old.below k)
  sublock_of k (Some up) is =
      elim (cases_eq k up) [
        | inl same ↦ rw (eq-eqb k up same)
            (ap (λ b. record { at = k; sublocks = b; loose = new.loose k }) (below_here k (is ∙ ap Some (sym same)))
            ∙ same_loose k (old.below k ++ at ∷ []))
        | inr differs ↦ rw (ne_eqb k up differs)
            (ap (λ b. record { at = k; sublocks = b; loose = new.loose k })
            (below_others k (λ e. differs (sym (same_Some up k (sym is ∙ e))))) ∙ same_loose k (old.below k))
      ]

  each_own : (ks : List ℕ) → map (own_of new) ks ≡ map (with_sublock parent at) (map (own_of old) ks)
  each_own [] = refl
  each_own (k ∷ ks) = ap (λ x. x ∷ map (own_of new) ks) (sublock_of k parent refl) ∙ ap (λ rest. with_sublock parent at (own_of old k) ∷ rest) (each_own ks)

  with_owner : (p : ℕ) → map (own_of new) (new.own p) ≡ map (with_sublock parent at) (map (own_of old) (old.own p)) ++ (if p == owner then new_own at else [])
  with_owner p =
      elim (cases_eq p owner) [
        | inl same ↦
            rw (eq-eqb p owner same)
            (ap (λ x. map (own_of new) (new.own x)) same ∙ ap (map (own_of new)) own_here ∙ map_append_one new (old.own owner) at
            ∙ ap (λ b. map (own_of new) (old.own owner) ++ record { at = at; sublocks = b; loose = new.loose at } ∷ []) childless
            ∙ ap (λ x. map (own_of new) (old.own owner) ++ record { at = at; sublocks = []; loose = x } ∷ []) queued
            ∙ ap (λ xs. xs ++ new_own at) (each_own (old.own owner))
            ∙ ap (λ x. map (with_sublock parent at) (map (own_of old) (old.own x)) ++ new_own at) (sym same))
        | inr differs ↦ rw (ne_eqb p owner differs) (ap (map (own_of new)) (own_others p differs) ∙ each_own (old.own p) ∙ sym (append_nothing _))
      ]

  pub lock_joined : processes_of new ≡ map (process_with_lock owner parent at) (processes_of old)
  unfolding processes_of
  lock_joined = ap (map (process_under new)) order ∙ each old.order
    where
      one : (p : ℕ) → process_under new p ≡ process_with_lock owner parent at (process_under old p)
      one p =
          ap (λ face. faced p face (map (own_of new) (new.own p))) (faces p) ∙ ap (faced p (old.faces p)) (with_owner p)

      each : (ps : List ℕ) → map (process_under new) ps ≡ map (process_with_lock owner parent at) (map (process_under old) ps)
      each [] = refl
      each (p ∷ ps) = ap (λ x. x ∷ map (process_under new) ps) (one p) ∙ ap (λ rest. process_with_lock owner parent at (process_under old p) ∷ rest) (each ps)

-- a lock is gone
module _ (old new : Holding) (at : ℕ) (faces : (p : ℕ) → new.faces p ≡ old.faces p) (order : new.order ≡ old.order)
    (own : (p : ℕ) → new.own p ≡ without at (old.own p))
    (below : (k : ℕ) → k ≢ at → new.below k ≡ without at (old.below k)) (loose : (k : ℕ) → k ≢ at → new.loose k ≡ old.loose k) where
  each_left : (ks : List ℕ) → map (own_of new) (without at ks) ≡ map (without_sublock at) (filter (λ (o : OwnLock). not (o.at == at)) (map (own_of old) ks))
  each_left [] = refl
  each_left (k ∷ ks) =
      elim (cases_eq k at) [
        | inl same ↦ ap (map (own_of new)) (without_head at k ks same) ∙ each_left ks ∙ rw (eq-eqb k at same) refl
        | inr differs ↦
            ap (map (own_of new)) (without_past at k ks differs)
            ∙ rw (ne_eqb k at differs)
            (ap (λ b. record { at = k; sublocks = b; loose = new.loose k } ∷ map (own_of new) (without at ks)) (below k differs)
            ∙ ap (λ x. record { at = k; sublocks = without at (old.below k); loose = x } ∷ map (own_of new)
            (without at ks)) (loose k differs)
            ∙ ap (λ rest. without_sublock at (own_of old k) ∷ rest) (each_left ks))
      ]

  pub lock_left : processes_of new ≡ map (process_without_lock at) (processes_of old)
  unfolding processes_of
  lock_left = ap (map (process_under new)) order ∙ each old.order
    where
      one : (p : ℕ) → process_under new p ≡ process_without_lock at (process_under old p)
      one p =
          ap (λ face. faced p face (map (own_of new) (new.own p))) (faces p)
          ∙ ap (faced p (old.faces p)) (ap (map (own_of new)) (own p) ∙ each_left (old.own p))

      each : (ps : List ℕ) → map (process_under new) ps ≡ map (process_without_lock at) (map (process_under old) ps)
      each [] = refl
      each (p ∷ ps) = ap (λ x. x ∷ map (process_under new) ps) (one p) ∙ ap (λ rest. process_without_lock at (process_under old p) ∷ rest) (each ps)

-- a lock is loose, or is loose no more
module _ (old new : Holding) (at : ℕ) (row : Option LockState) (faces : (p : ℕ)
    → new.faces p ≡ old.faces p) (order : new.order ≡ old.order) (own : (p : ℕ) → new.own p ≡ old.own p)
    (below : (k : ℕ) → new.below k ≡ old.below k) (here : new.loose at ≡ row) (others : (k : ℕ) → k ≢ at → new.loose k ≡ old.loose k) where
  each_loose : (ks : List ℕ) → map (own_of new) ks ≡ map (with_loose at row) (map (own_of old) ks)
  each_loose [] = refl
  each_loose (k ∷ ks) =
      ap (λ b. record { at = k; sublocks = b; loose = new.loose k } ∷ map (own_of new) ks) (below k)
      ∙ ap (λ x. x ∷ map (own_of new) ks) (one_loose (cases_eq k at))
      ∙ ap (λ rest. with_loose at row (own_of old k) ∷ rest) (each_loose ks)
    where
      one_loose : (k ≡ at) ⊎ (k ≢ at) → record { at = k; sublocks = old.below k; loose = new.loose k } ≡ with_loose at row (own_of old k)
      one_loose (inl same) = rw (eq-eqb k at same) (ap (λ x. record { at = k; sublocks = old.below k; loose = x }) (ap new.loose same ∙ here))
      one_loose (inr differs) = rw (ne_eqb k at differs) (ap (λ x. record { at = k; sublocks = old.below k; loose = x }) (others k differs))

  pub lock_loosened : processes_of new ≡ map (process_with_loose at row) (processes_of old)
  unfolding processes_of
  lock_loosened = ap (map (process_under new)) order ∙ each old.order
    where
      one : (p : ℕ) → process_under new p ≡ process_with_loose at row (process_under old p)
      one p =
          ap (λ face. faced p face (map (own_of new) (new.own p))) (faces p)
          ∙ ap (faced p (old.faces p)) (ap (map (own_of new)) (own p) ∙ each_loose (old.own p))

      each : (ps : List ℕ) → map (process_under new) ps ≡ map (process_with_loose at row) (map (process_under old) ps)
      each [] = refl
      each (p ∷ ps) = ap (λ x. x ∷ map (process_under new) ps) (one p) ∙ ap (λ rest. process_with_loose at row (process_under old p) ∷ rest) (each ps)

-- the process after another is the one under the handle after its own
after_under : (h : Holding) (at : ℕ) (ps : List ℕ) → process_after at (map (process_under h) ps) ≡ option_map (λ k. (h.faces k).plain) (handle_after at ps)
after_under h at [] = refl
after_under h at (p ∷ rest) =
    elim (p == at) as (λ b. cond b
    (option_map (λ (x : StoredProcess). x.process) (slice_get (map (process_under h) rest) 0))
    (process_after at (map (process_under h) rest))
    ≡ option_map (λ k. (h.faces k).plain) (cond b (first_handle rest) (handle_after at rest))) [
      | true ↦ first_under rest
      | false ↦ after_under h at rest
    ]
  where
    first_under : (ks : List ℕ)
        → option_map (λ (x : StoredProcess). x.process) (slice_get (map (process_under h) ks) 0) ≡ option_map
        (λ k. (h.faces k).plain) (first_handle ks)
    first_under [] = refl
    first_under (k ∷ ks) = refl

pub process_after-is : (h : Holding) (at : ℕ) → process_after at (processes_of h) ≡ option_map (λ k. (h.faces k).plain) (handle_after at h.order)
unfolding processes_of
process_after-is h at = after_under h at h.order

-- the process at an index is what stands under the handle at that index
pub process_at-index : (h : Holding) (index : ℕ)
    → slice_get (map (λ (p : StoredProcess). p.process) (processes_of h)) index ≡ option_map (λ at. (h.faces at).plain)
    (slice_get h.order index)
unfolding processes_of
process_at-index h index =
    slice_get-map (λ (p : StoredProcess). p.process) (map (process_under h) h.order) index
    ∙ ap (option_map (λ (p : StoredProcess). p.process)) (slice_get-map (process_under h) h.order index)
    ∙ both (slice_get h.order index)
  where
    both : (o : Option ℕ) → option_map (λ (p : StoredProcess). p.process) (option_map (process_under h) o) ≡ option_map (λ at. (h.faces at).plain) o
    both None = refl
    both (Some at) = refl
