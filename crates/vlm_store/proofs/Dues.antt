-- What the processes are owed, by handle and by ID.
use Rattle.std.proofs.Common.{◌≡◌, ◌≤◌, ℕ, List, [], ◌∷◌, Some, IsSome, find, refl, sym, subst, ap, ◌∙◌, inl, inr, eq-eqb, ne_eqb}
use Rattle.std.specs.Prelude.{◌==◌, IfSome}
use Rattle.std.specs.Option.{option_map_or}
use Rattle.std.proofs.lemmas.Bool.{cases_eq}
use Rattle.vlm_collections.specs.Lists.{IsIn}
use Rattle.vlm_store.proofs.PlainProcesses.{process_at-stored}
use Rattle.vlm_store.specs.Records.{AreProcessesApart, DueChanges, DuesStay, HasProcess, IsOwed, IsSound, Records, StoredProcess, due_of, on_stored, process_at}

-- how many ASTs the process with this ID is owed, among these
abbrev due_among : ℕ → List StoredProcess → ℕ
due_among pid ps = option_map_or (λ (p : StoredProcess). p.due) (find (λ (p : StoredProcess). p.process.pid == pid) ps) 0

-- the process at its handle
pub due-stored : (p : StoredProcess) (ps : List StoredProcess) → AreProcessesApart ps → IsIn p ps → due_among p.process.pid ps ≡ p.due
due-stored p [] apart found = absurd found
due-stored p (x ∷ ps) apart found =
    elim found [
      | inl here ↦ rw (eq-eqb x.process.pid p.process.pid (ap (λ (y : StoredProcess). y.process.pid) here)) (ap (λ (y : StoredProcess). y.due) here)
      | inr there ↦ rw (ne_eqb x.process.pid p.process.pid (λ same. (apart.0 p there).1 (sym same))) (due-stored p ps apart.1 there)
    ]

module _ (at : ℕ) (change : StoredProcess → StoredProcess) (named : (x : StoredProcess) → (change x).process.pid ≡ x.process.pid) where
  -- what a process is owed stays, where the change of the one that has its ID leaves it
  due-others : (pid : ℕ) (ps : List StoredProcess) → ((x : StoredProcess) → IsIn x ps → x.at ≡ at → x.process.pid ≡ pid → (change x).due ≡ x.due)
      → due_among pid (on_stored at change ps) ≡ due_among pid ps
  due-others pid [] same = refl
  due-others pid (x ∷ ps) same =
      elim (cases_eq x.at at) [
        | inl here ↦
            elim (cases_eq x.process.pid pid) [
              | inl is ↦
                  rw (eq-eqb x.at at here, eq-eqb x.process.pid pid is, eq-eqb (change x).process.pid pid (named x ∙ is)) (same x (inl refl) here is)
              | inr other ↦
                  rw (eq-eqb x.at at here, ne_eqb x.process.pid pid other, ne_eqb (change x).process.pid pid (λ e. other (sym (named x) ∙ e)))
                  (due-others pid ps (λ y there. same y (inr there)))
            ]
        | inr differs ↦
            elim (cases_eq x.process.pid pid) [
              | inl is ↦ rw (ne_eqb x.at at differs, eq-eqb x.process.pid pid is) refl
              | inr other ↦ rw (ne_eqb x.at at differs, ne_eqb x.process.pid pid other) (due-others pid ps (λ y there. same y (inr there)))
            ]
      ]

  -- each process is owed what it was, where the change leaves that
  pub dues-on_stored : ((x : StoredProcess) → (change x).due ≡ x.due) → (s : Records) → DuesStay s (record s { processes = on_stored at change s.processes })
  dues-on_stored same s pid = due-others pid s.processes (λ x there here is. same x)

  module _ (due : ℕ → ℕ) (is : (x : StoredProcess) → (change x).due ≡ due x.due) (p : StoredProcess) (here : p.at ≡ at) where
    -- what the process of the handle is owed changes
    due-here : (ps : List StoredProcess) → AreProcessesApart ps → IsIn p ps
        → due_among p.process.pid (on_stored at change ps) ≡ due (due_among p.process.pid ps)
    due-here [] apart found = absurd found
    due-here (x ∷ ps) apart found =
        elim found [
          | inl same ↦
              let pid : x.process.pid ≡ p.process.pid = ap (λ (y : StoredProcess). y.process.pid) same in
              rw (
                eq-eqb x.at at (ap (λ (y : StoredProcess). y.at) same ∙ here),
                eq-eqb x.process.pid p.process.pid pid,
                eq-eqb (change x).process.pid p.process.pid (named x ∙ pid),
              ) (is x)
          | inr there ↦
              rw (
                ne_eqb x.at at (λ same. (apart.0 p there).0 (here ∙ sym same)),
                ne_eqb x.process.pid p.process.pid (λ same. (apart.0 p there).1 (sym same)),
              )
              (due-here ps apart.1 there)
        ]

    -- what the others are owed stays
    pub due-on_stored : (s : Records) → AreProcessesApart s.processes → IsIn p s.processes
        → DueChanges p.process.pid due s (record s { processes = on_stored at change s.processes })
    due-on_stored s apart found other =
        elim (cases_eq other p.process.pid) [
          | inl same ↦
              rw (eq-eqb other p.process.pid same)
              (ap (λ pid. due_among pid (on_stored at change s.processes)) same ∙ due-here s.processes apart found
              ∙ ap (λ pid. due (due_among pid s.processes)) (sym same))
          | inr differs ↦
              rw (ne_eqb other p.process.pid differs)
              (due-others other s.processes (λ x there at_x is. absurd (differs (sym is ∙ one s.processes apart x there found (at_x ∙ sym here)))))
        ]
      where
        one : (ps : List StoredProcess) → AreProcessesApart ps → (x : StoredProcess) → IsIn x ps → IsIn p ps → x.at ≡ p.at → x.process.pid ≡ p.process.pid
        one [] apart x there found same = absurd there
        one (y ∷ ps) apart x there found same =
            elim there [
              | inl first ↦
                  elim found [
                    | inl also ↦ ap (λ (z : StoredProcess). z.process.pid) (sym first ∙ also)
                    | inr later ↦ absurd ((apart.0 p later).0 (sym same ∙ ap (λ (z : StoredProcess). z.at) (sym first)))
                  ]
              | inr later ↦
                  elim found [
                    | inl also ↦ absurd ((apart.0 x later).0 (same ∙ ap (λ (z : StoredProcess). z.at) (sym also)))
                    | inr both ↦ one ps apart.1 x later both same
                  ]
            ]

-- the process at a handle, and what it is owed
pub due_is : (at : ℕ) (s : Records) → AreProcessesApart s.processes → HasProcess at s
    → (p : StoredProcess) × ((process_at at s.processes ≡ Some p) × (IsIn p s.processes × (p.at ≡ at)) × (due_of p.process.pid s ≡ p.due))
due_is at s apart has =
    let found = stored s.processes has in (found.0, (found.1.0, found.1.1, due-stored found.0 s.processes apart found.1.1.0))
  where
    stored : (ps : List StoredProcess) → IsSome (process_at at ps) → (p : StoredProcess) × ((process_at at ps ≡ Some p) × (IsIn p ps × (p.at ≡ at)))
    stored [] has = cc
    stored (x ∷ ps) has =
        elim (cases_eq x.at at) [
          | inl here ↦ (x, (rw (eq-eqb x.at at here) refl, (inl refl, here)))
          | inr differs ↦ (let later = stored ps (rw (ne_eqb x.at at differs) at has) in
              (later.0, (rw (ne_eqb x.at at differs) later.1.0, (inr later.1.1.0, later.1.1.1))))
        ]

-- what the process at its handle is owed, where some process of the handle is owed it
pub owed_there : (at count : ℕ) (s : Records) → IsSound s → IsOwed at count s → IfSome (process_at at s.processes) (λ p. count ≤ p.due)
owed_there at count s sound owed =
    let p = owed.process.0 in
    let found : process_at at s.processes ≡ Some p = ap (λ x. process_at x s.processes) (sym owed.process.1.1)
    ∙ process_at-stored p s.processes sound.processes_apart owed.process.1.0 in
    let due : due_of owed.pid s ≡ p.due = ap (λ pid. due_of pid s) (sym owed.process.1.2) ∙ due-stored p s.processes sound.processes_apart owed.process.1.0 in
    rw found (subst (λ n. count ≤ n) due owed.due)
