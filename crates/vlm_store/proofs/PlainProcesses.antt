-- The processes without their handles, as callers see them.
use Rattle.std.proofs.Common.{◌≡◌, ◌≢◌, ℕ, List, [], ◌∷◌, map, None, Some, refl, sym, ap, ◌∙◌, inl, inr, eq-eqb, ne_eqb}
use Rattle.std.specs.Prelude.{◌==◌, if◌then◌else◌}
use Rattle.std.proofs.lemmas.Bool.{cases_eq}
use Rattle.vlm_words.specs.State.{Process, process_of}
use Rattle.vlm_collections.specs.Lists.{IsIn}
use Rattle.vlm_store.specs.Records.{AreProcessesApart, StoredProcess, on_stored, process_at}

-- the process of an ID
module _ (p : StoredProcess) where
  pub process_of-stored : (ps : List StoredProcess) → AreProcessesApart ps → IsIn p ps
      → process_of (map (λ (x : StoredProcess). x.process) ps) p.process.pid ≡ Some p.process
  process_of-stored [] apart found = absurd found
  process_of-stored (x ∷ ps) apart found =
      elim found [
        | inl here ↦ rw (eq-eqb x.process.pid p.process.pid (ap (λ (y : StoredProcess). y.process.pid) here)) (ap (λ (y : StoredProcess). Some y.process) here)
        | inr there ↦ rw (ne_eqb x.process.pid p.process.pid (λ same. (apart.0 p there).1 (sym same))) (process_of-stored ps apart.1 there)
      ]

  -- the process of a handle
  pub process_at-stored : (ps : List StoredProcess) → AreProcessesApart ps → IsIn p ps → process_at p.at ps ≡ Some p
  process_at-stored [] apart found = absurd found
  process_at-stored (x ∷ ps) apart found =
      elim found [
        | inl here ↦ rw (eq-eqb x.at p.at (ap (λ (y : StoredProcess). y.at) here)) (ap Some here)
        | inr there ↦ rw (ne_eqb x.at p.at (λ same. (apart.0 p there).0 (sym same))) (process_at-stored ps apart.1 there)
      ]

  -- a change by the handle is one by the ID
  module _ (change : StoredProcess → StoredProcess) (plain : Process → Process) (is : (x : StoredProcess) → (change x).process ≡ plain x.process) where
    on_others : (ps : List StoredProcess) → ((x : StoredProcess) → IsIn x ps → (x.at ≢ p.at) × (x.process.pid ≢ p.process.pid))
        → map (λ (x : StoredProcess). x.process) (on_stored p.at change ps) ≡ map
        (λ (x : Process). if x.pid == p.process.pid then plain x else x) (map (λ (x : StoredProcess). x.process) ps)
    on_others [] others = refl
    on_others (x ∷ ps) others =
        let differs = others x (inl refl) in
        rw (ne_eqb x.at p.at differs.0, ne_eqb x.process.pid p.process.pid differs.1)
        (ap (λ rest. x.process ∷ rest) (on_others ps (λ y there. others y (inr there))))

    pub plain-on_stored : (ps : List StoredProcess) → AreProcessesApart ps → IsIn p ps
        → map (λ (x : StoredProcess). x.process) (on_stored p.at change ps) ≡ map
        (λ (x : Process). if x.pid == p.process.pid then plain x else x) (map (λ (x : StoredProcess). x.process) ps)
    plain-on_stored [] apart found = absurd found
    plain-on_stored (x ∷ ps) apart found =
        elim found [
          | inl here ↦
              rw (eq-eqb x.at p.at (ap (λ (y : StoredProcess). y.at) here), eq-eqb x.process.pid p.process.pid (ap (λ (y : StoredProcess). y.process.pid) here))
              (ap (λ q. q ∷ map (λ (y : StoredProcess). y.process) (on_stored p.at change ps)) (is x)
              ∙ ap (λ rest. plain x.process ∷ rest)
              (on_others ps (λ y there. (
                (λ same. (apart.0 y there).0 (same ∙ sym (ap (λ (z : StoredProcess). z.at) here))),
                (λ same. (apart.0 y there).1 (same ∙ sym (ap (λ (z : StoredProcess). z.process.pid) here))),
              ))))
          | inr there ↦
              rw (ne_eqb x.at p.at (λ same. (apart.0 p there).0 (sym same)), ne_eqb x.process.pid p.process.pid (λ same. (apart.0 p there).1 (sym same)))
              (ap (λ rest. x.process ∷ rest) (plain-on_stored ps apart.1 there))
        ]

-- no process has the ID
pub process_of-none : (pid : ℕ) (ps : List StoredProcess) → ((p : StoredProcess) → IsIn p ps → ¬ (p.process.pid ≡ pid))
    → process_of (map (λ (x : StoredProcess). x.process) ps) pid ≡ None
process_of-none pid [] absent = refl
process_of-none pid (x ∷ ps) absent = rw (ne_eqb x.process.pid pid (absent x (inl refl))) (process_of-none pid ps (λ p there. absent p (inr there)))

-- what each process shows stays, where the one that is changed shows what it showed
pub shown-on_stored : {X : Type 0} (shown : StoredProcess → X) (at : ℕ) (change : StoredProcess → StoredProcess)
    → ((p : StoredProcess) → shown (change p) ≡ shown p) → (ps : List StoredProcess)
    → map shown (on_stored at change ps) ≡ map shown ps
shown-on_stored shown at change same [] = refl
shown-on_stored shown at change same (x ∷ ps) =
    elim (cases_eq x.at at) [
      | inl is ↦ rw (eq-eqb x.at at is) (ap (λ y. y ∷ map shown (on_stored at change ps)) (same x)
          ∙ ap (λ rest. shown x ∷ rest) (shown-on_stored shown at change same ps))
      | inr differs ↦ rw (ne_eqb x.at at differs) (ap (λ rest. shown x ∷ rest) (shown-on_stored shown at change same ps))
    ]

-- a change that changes nothing
pub on_stored-same : (at : ℕ) (ps : List StoredProcess) → on_stored at (λ p. p) ps ≡ ps
on_stored-same at [] = refl
on_stored-same at (x ∷ ps) =
    elim (cases_eq x.at at) [
      | inl is ↦ rw (eq-eqb x.at at is) (ap (λ rest. x ∷ rest) (on_stored-same at ps))
      | inr differs ↦ rw (ne_eqb x.at at differs) (ap (λ rest. x ∷ rest) (on_stored-same at ps))
    ]
