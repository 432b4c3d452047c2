-- Where memory is refused for the resource of a new lock, the ASTs that were owed for the lock are forgiven.
use Rattle.std.proofs.Common.{◌≡◌, ◌+◌, ◌-◌, ℕ, Bool, cond, List, [], ◌∷◌, Some, Result, Ok, Err, OnOk, refl, sym, ap, ◌∙◌, subst, inl, inr, arith}
use Rattle.std.proofs.Common.{eq-eqb, ne_eqb}
use Rattle.std.proofs.lemmas.Bool.{cases_eq}
use Rattle.vlm_words.specs.Dues.{routines_of}
use Rattle.vlm_store.specs.Records.{IsNoLess, IsOwed, IsProcess, IsUnchanged, Records, Rooms, StoredProcess, due_of, on_stored, owed_less, owed_more}
use Rattle.vlm_store.proofs.RoomShown.{no_less_then}
use Rattle.vlm_locks.specs.declared.new_locks.NewLock.{NewLock}
use Rattle.vlm_locks.specs.Entering.{IsOwing, IsReady}

-- what was owed is forgiven
forgiven : (at count : ℕ) (ps : List StoredProcess) → on_stored at (owed_less count) (on_stored at (owed_more count) ps) ≡ ps
forgiven at count [] = refl
forgiven at count (p ∷ ps) =
    elim (cases_eq p.at at) [
      | inl same ↦
          rw (eq-eqb p.at at same)
          (rw (eq-eqb p.at at same)
          (ap (λ (due : ℕ). record p { due = due } ∷ on_stored at (owed_less count) (on_stored at (owed_more count) ps)) (less p.due)
          ∙ ap (λ rest. p ∷ rest) (forgiven at count ps)))
      | inr differs ↦ rw (ne_eqb p.at at differs) (rw (ne_eqb p.at at differs) (ap (λ rest. p ∷ rest) (forgiven at count ps)))
    ]
  where
    less : (due : ℕ) → due + count - count ≡ due
    less due = omega arith

-- no AST more is nothing more
owed_none : (at : ℕ) (ps : List StoredProcess) → on_stored at (owed_more 0) ps ≡ ps
owed_none at [] = refl
owed_none at (p ∷ ps) =
    elim (cases_eq p.at at) [
      | inl same ↦
          rw (eq-eqb p.at at same)
          (ap (λ (due : ℕ). record p { due = due } ∷ on_stored at (owed_more 0) ps) (same_due p.due) ∙ ap (λ rest. p ∷ rest) (owed_none at ps))
      | inr differs ↦ rw (ne_eqb p.at at differs) (ap (λ rest. p ∷ rest) (owed_none at ps))
    ]
  where
    same_due : (due : ℕ) → due + 0 ≡ due
    same_due due = omega arith

pub owed_nothing : (at count : ℕ) → count ≡ 0 → (s : Records) → s ≡ record s { processes = on_stored at (owed_more count) s.processes }
owed_nothing at count none s =
    ap (λ (ps : List StoredProcess). record s { processes = ps }) (sym (owed_none at s.processes))
    ∙ ap (λ n. record s { processes = on_stored at (owed_more n) s.processes }) (sym none)

module _ (e : NewLock) (s : Records) where
  abbrev count : ℕ
  count = routines_of (Some e.asked)

  -- room was made for the lock, and then the ASTs are owed
  pub owing : {T E : Type 0} (r : Result T E) (mid o : Records) → IsUnchanged s mid
      → OnOk r (o ≡ record mid { processes = on_stored e.owner (owed_more count) mid.processes }) → OnOk r (IsOwing e s o)
  owing (Ok x) mid o unchanged exact =
      let room : o.room ≡ mid.room = ap (λ (t : Records). t.room) exact in
      record {
        processes =
            exact
            ∙ ap (λ (t : Records). record t { processes = on_stored e.owner (owed_more count) t.processes }) unchanged.same
            ∙ ap (λ (r : Rooms). record s { processes = on_stored e.owner (owed_more count) s.processes; room = r }) (sym room);
        locks_room = subst (λ (r : Rooms). IsNoLess s.room.locks r.locks) (sym room) unchanged.locks;
        resources_room = subst (λ (r : Rooms). IsNoLess s.room.resources r.resources) (sym room) unchanged.resources;
        processes_room = subst (λ (r : Rooms). IsNoLess s.room.processes r.processes) (sym room) unchanged.processes;
      }
  owing (Err x) mid o unchanged exact = tt

  module _ (o back : Records) (owes : IsOwing e s o) (unchanged : IsUnchanged o back) where
    -- memory is refused: they are owed still
    pub owed_still : IsProcess e.owner e.pid o → IsReady e s o → IsOwed e.owner count back
    owed_still lives ready = record {
      pid = e.pid;
      process = subst (IsProcess e.owner e.pid) (sym unchanged.same) lives;
      due =
          omega (
            arith,
            ap (due_of e.pid) unchanged.same,
            ready.owed e.pid,
            ap (λ (b : Bool). cond b (due_of e.pid s + count) (due_of e.pid s)) (eq-eqb e.pid e.pid refl),
          );
    }

    -- without them all is as before
    pub forgiven_all : (t : Records) → t ≡ record back { processes = on_stored e.owner (owed_less count) back.processes } → IsUnchanged s t
    forgiven_all t less =
        let room : t.room ≡ back.room = ap (λ (x : Records). x.room) less in
        let was : back ≡ record s { processes = on_stored e.owner (owed_more count) s.processes; room = back.room } =
        unchanged.same ∙ ap (λ (x : Records). record x { room = back.room }) owes.processes in
        record {
          same =
              less
              ∙ ap (λ (x : Records). record x { processes = on_stored e.owner (owed_less count) x.processes }) was
              ∙ ap (λ (ps : List StoredProcess). record s { processes = ps; room = back.room }) (forgiven e.owner count s.processes)
              ∙ ap (λ (r : Rooms). record s { room = r }) (sym room);
          locks =
              subst (λ (r : Rooms). IsNoLess s.room.locks r.locks) (sym room)
              (no_less_then s.room.locks o.room.locks back.room.locks owes.locks_room unchanged.locks);
          resources =
              subst (λ (r : Rooms). IsNoLess s.room.resources r.resources) (sym room)
              (no_less_then s.room.resources o.room.resources back.room.resources owes.resources_room unchanged.resources);
          processes =
              subst (λ (r : Rooms). IsNoLess s.room.processes r.processes) (sym room)
              (no_less_then s.room.processes o.room.processes back.room.processes owes.processes_room unchanged.processes);
        }
