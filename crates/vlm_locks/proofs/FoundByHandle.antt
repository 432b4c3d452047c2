-- Records that are found by their handles.
use Rattle.std.proofs.Common.{◌≡◌, ℕ, List, [], ◌∷◌, map, cond, Some, IsSome, refl, sym, ap, ◌∙◌, inl, inr, eq-eqb, ne_eqb}
use Rattle.std.specs.Prelude.{◌==◌}
use Rattle.std.proofs.lemmas.Bool.{cases_eq}
use Rattle.std.proofs.lemmas.Option.{none-some, same_Some}
use Rattle.vlm_collections.specs.Lists.{IsIn}
use Rattle.vlm_store.specs.Records.{AreResourcesApart, HasProcess, HasResource, IsProcess, IsSound, Records, StoredProcess}
use Rattle.vlm_store.specs.Records.{StoredResource, on_resource, process_at, resource_at, SameButNotices, but_notices}
use Rattle.vlm_store.proofs.Dues.{due_is}
use Rattle.vlm_store.proofs.Records.{map_on, resource_is}

process_found : (at : ℕ) (p : StoredProcess) (ps : List StoredProcess) → IsIn p ps → p.at ≡ at → IsSome (process_at at ps)
process_found at p [] among is = absurd among
process_found at p (x ∷ ps) among is =
    elim (cases_eq x.at at) [
      | inl same ↦ rw (eq-eqb x.at at same) refl
      | inr differs ↦
          rw (ne_eqb x.at at differs)
          (elim among [
            | inl here ↦ absurd (differs (ap (λ (y : StoredProcess). y.at) here ∙ is))
            | inr there ↦ process_found at p ps there is
          ])
    ]

-- a process of this handle and this ID is one of this handle
pub process_there : (s : Records) (at pid : ℕ) → IsProcess at pid s → HasProcess at s
process_there s at pid is = process_found at is.0 s.processes is.1.0 is.1.1

-- a process of this handle has an ID
pub process_here : (s : Records) → IsSound s → (at : ℕ) → HasProcess at s → (pid : ℕ) × IsProcess at pid s
process_here s sound at there =
    let its = due_is at s sound.processes_apart there in (its.0.process.pid, (its.0, (its.1.1.0, its.1.1.1, refl)))

-- the handle of a resource leads to a resource
pub resource_there : (s : Records) (res : ℕ) (r : StoredResource) → IsIn r s.resources → r.at ≡ res → HasResource res s
resource_there s res r among at_res = of_list s.resources among
  where
    of_list : (rs : List StoredResource) → IsIn r rs → IsSome (resource_at res rs)
    of_list [] among = absurd among
    of_list (x ∷ rs) among =
        elim (cases_eq x.at res) [
          | inl same ↦ rw (eq-eqb x.at res same) refl
          | inr differs ↦ elim among [
            | inl is ↦ absurd (differs (ap (λ (y : StoredResource). y.at) is ∙ at_res))
            | inr there ↦ rw (ne_eqb x.at res differs) (of_list rs there)
          ]
        ]

-- the resource that is found has the key
pub resource_at-at : (res : ℕ) (rs : List StoredResource) (r : StoredResource) → resource_at res rs ≡ Some r → r.at ≡ res
resource_at-at res [] r found = absurd (none-some r found)
resource_at-at res (x ∷ rs) r found =
    elim (cases_eq x.at res) [
      | inl same ↦ ap (λ (y : StoredResource). y.at) (sym (same_Some x r (rw (eq-eqb x.at res same) at found))) ∙ same
      | inr differs ↦ resource_at-at res rs r (rw (ne_eqb x.at res differs) at found)
    ]

-- a resource of the key of the one that is found is that one
pub resource_alone : (res : ℕ) (rs : List StoredResource) (r x : StoredResource) → AreResourcesApart rs
    → resource_at res rs ≡ Some r → IsIn x rs → x.at ≡ res → x ≡ r
resource_alone res rs r x apart found among same =
    same_Some x r (sym (resource_is x rs apart among) ∙ ap (λ k. resource_at k rs) same ∙ found)

-- the resource in its own place
pub on_resource-own : (res : ℕ) (r : StoredResource) (rs : List StoredResource) → AreResourcesApart rs
    → resource_at res rs ≡ Some r → on_resource res (λ x. r) rs ≡ rs
on_resource-own res r rs apart found = map_on (λ x. cond (x.at == res) r x) (λ x. x) rs each ∙ same rs
  where
    each : (x : StoredResource) → IsIn x rs → cond (x.at == res) r x ≡ x
    each x among =
        elim (cases_eq x.at res) [
          | inl is ↦ rw (eq-eqb x.at res is) (sym (resource_alone res rs r x apart found among is))
          | inr differs ↦ rw (ne_eqb x.at res differs) refl
        ]

    same : (xs : List StoredResource) → map (λ x. x) xs ≡ xs
    same [] = refl
    same (x ∷ xs) = ap (λ rest. x ∷ rest) (same xs)

-- what is put in the place of a resource is found there
pub resource_at-put : (res : ℕ) (left : StoredResource) (rs : List StoredResource) (r : StoredResource) → left.at ≡ res
    → resource_at res rs ≡ Some r → resource_at res (on_resource res (λ x. left) rs) ≡ Some left
resource_at-put res left [] r keyed found = absurd (none-some r found)
resource_at-put res left (x ∷ rs) r keyed found =
    elim (cases_eq x.at res) [
      | inl same ↦ rw (eq-eqb x.at res same, eq-eqb left.at res keyed) refl
      | inr differs ↦ rw (ne_eqb x.at res differs, ne_eqb x.at res differs) (resource_at-put res left rs r keyed (rw (ne_eqb x.at res differs) at found))
    ]

-- what is put in the place of a resource is changed there
pub on_resource-put : (res : ℕ) (left : StoredResource) (change : StoredResource → StoredResource) (rs : List StoredResource) → left.at ≡ res
    → on_resource res change (on_resource res (λ x. left) rs) ≡ on_resource res (λ x. change left) rs
on_resource-put res left change [] keyed = refl
on_resource-put res left change (x ∷ rs) keyed =
    elim (cases_eq x.at res) [
      | inl same ↦ rw (eq-eqb x.at res same, eq-eqb left.at res keyed) (ap (λ rest. change left ∷ rest) (on_resource-put res left change rs keyed))
      | inr differs ↦ rw (ne_eqb x.at res differs, ne_eqb x.at res differs) (ap (λ rest. x ∷ rest) (on_resource-put res left change rs keyed))
    ]

-- a process of the old list is in the new one, but for its status blocks
process_kept : (old new : List StoredProcess) → map but_notices new ≡ map but_notices old → (p : StoredProcess) → IsIn p old
    → (q : StoredProcess) × (IsIn q new × (but_notices q ≡ but_notices p))
process_kept [] new same p among = absurd among
process_kept (x ∷ old) [] same p among = cc
process_kept (x ∷ old) (y ∷ new) same p among =
    elim among [
      | inl here ↦ (let first : but_notices y ≡ but_notices x = cc in (y, (inl refl, first ∙ ap (λ (z : StoredProcess). but_notices z) here)))
      | inr there ↦ let later = process_kept old new (cc) p there in (later.0, (inr later.1.0, later.1.1))
    ]

-- a living process lives on where status blocks are written
pub process_still : (s t : Records) (at pid : ℕ) → SameButNotices s t → IsProcess at pid s → IsProcess at pid t
process_still s t at pid same is =
    let kept = process_kept s.processes t.processes same.processes is.0 is.1.0 in
    (kept.0, (kept.1.0, ap (λ (p : StoredProcess). p.at) kept.1.1 ∙ is.1.1, ap (λ (p : StoredProcess). p.process.pid) kept.1.1 ∙ is.1.2))
