-- An ID that is not given yet names no lock and no process.
use Rattle.std.proofs.Common.{◌≡◌, ◌≢◌, ◌≤◌, ℕ, List, [], ◌∷◌, map, cond, Option, None, Some, refl, sym, ap, ◌∙◌, inl, inr, arith, eq-eqb}
use Rattle.std.specs.Prelude.{◌==◌}
use Rattle.std.specs.List.{sum_by}
use Rattle.std.specs.Option.{option_map_or}
use Rattle.std.proofs.lemmas.List.Sums.{sum_by-cons}
use Rattle.std.proofs.Math.Nat.{lt_of_not-le}
use Rattle.vlm_words.specs.declared.locks.LockState.{LockState}
use Rattle.vlm_words.specs.declared.resources.Queue.{Queue}
use Rattle.vlm_words.specs.declared.resources.Queue.TheVariants.{Granted, Conversion, Waiting}
use Rattle.vlm_words.specs.declared.steps.Declaration.{Declaration}
use Rattle.vlm_words.specs.declared.steps.Step.TheVariants.{Declare}
use Rattle.vlm_model.specs.Declare.{declare_refusal, next_pid}
use Rattle.vlm_model.specs.Laws.{DeclarationsGiveNewIds, rows_on}
use Rattle.vlm_words.specs.State.{Process}
use Rattle.vlm_model.specs.Stepped.{refused_or, step_change}
use Rattle.vlm_collections.specs.Lists.{IsIn}
use Rattle.vlm_records.specs.declared.handles.Place.{Place}
use Rattle.vlm_records.specs.declared.handles.Place.TheVariants.{Queued}
use Rattle.vlm_store.specs.Plain.{plain_resource, plain_resources}
use Rattle.vlm_store.specs.Records.{IsNewProcess, Records, StoredLock, StoredProcess, StoredResource}
use Rattle.vlm_store.specs.Records.{locks_at, queued, resource_at, rows_of_locks, Stores}
use Rattle.vlm_locks.specs.Rising.{IsAboveEachLock}
use Rattle.vlm_locks.proofs.QueuedLocks.{resource_among}
use Rattle.vlm_machine.specs.Machine.{MachineState, plain_state}
use Rattle.vlm_machine.proofs.GrantedWantNothing.{each_of}

-- ---- locks

-- 1 for a row of this lock
abbrev one_for : ℕ → LockState → ℕ
one_for lkid row = cond (row.lkid == lkid) 1 0

-- a lock in a queue is counted there
counted : (lkid : ℕ) (locks : List StoredLock) (k : StoredLock) → IsIn k locks → k.row.lkid ≡ lkid → 1 ≤ sum_by (one_for lkid) (rows_of_locks locks)
counted lkid [] k among same = absurd among
counted lkid (x ∷ rest) k among same =
    elim among [
      | inl here ↦
          let one : one_for lkid x.row ≡ 1 = ap (λ b. cond b 1 0) (eq-eqb x.row.lkid lkid (ap (λ (y : StoredLock). y.row.lkid) here ∙ same)) in
          omega (arith, one, sum_by-cons (one_for lkid) x.row (rows_of_locks rest))
      | inr there ↦ omega (arith, counted lkid rest k there same, sum_by-cons (one_for lkid) x.row (rows_of_locks rest))
    ]

-- and on its resource
pub counted_on : (lkid : ℕ) (r : StoredResource) (queue : Queue) (k : StoredLock) → IsIn k (queued queue r)
    → k.row.lkid ≡ lkid → 1 ≤ rows_on lkid (plain_resource r)
counted_on lkid r Granted k among same = omega (arith, counted lkid r.granted k among same)
counted_on lkid r Conversion k among same = omega (arith, counted lkid r.converting k among same)
counted_on lkid r Waiting k among same = omega (arith, counted lkid r.waiting k among same)

-- and of all
pub counted_all : (lkid : ℕ) (rs : List StoredResource) (r : StoredResource) → IsIn r rs
    → rows_on lkid (plain_resource r) ≤ sum_by (rows_on lkid) (map plain_resource rs)
counted_all lkid [] r among = absurd among
counted_all lkid (x ∷ rest) r among =
    elim among [
      | inl here ↦
          let same : rows_on lkid (plain_resource x) ≡ rows_on lkid (plain_resource r) = ap (λ (y : StoredResource). rows_on lkid (plain_resource y)) here in
          omega (arith, same, sum_by-cons (rows_on lkid) (plain_resource x) (map plain_resource rest))
      | inr there ↦ omega (arith, counted_all lkid rest r there, sum_by-cons (rows_on lkid) (plain_resource x) (map plain_resource rest))
    ]

-- where no row is counted the ID is new
new_lock : (s : Records) (lkid : ℕ) → sum_by (rows_on lkid) (plain_resources s) ≡ 0 → (at : ℕ) (row : LockState) → Stores s at row → ¬ (row.lkid ≡ lkid)
new_lock s lkid none at row stored same = by_place stored.0 stored.1
  where
    by_place : (place : Place) → IsIn (record { at = at; row = row }) (locks_at place s) → ⊥
    by_place (Queued res queue) among = of_found (resource_at res s.resources) refl among
      where
        of_found : (found : Option StoredResource) → resource_at res s.resources ≡ found
            → IsIn (record { at = at; row = row }) (option_map_or (queued queue) found []) → ⊥
        of_found None is here = here
        of_found (Some r) is here =
            let one : 1 ≤ rows_on lkid (plain_resource r) = counted_on lkid r queue (record { at = at; row = row }) here same in
            let all : rows_on lkid (plain_resource r) ≤ sum_by (rows_on lkid) (plain_resources s) =
            counted_all lkid s.resources r (resource_among res s.resources r is) in
            absurd (omega (arith, one, all, none))

-- where none is counted from an ID on, it is above all
pub above_all : (s : Records) (lkid : ℕ) → ((other : ℕ) → lkid ≤ other → sum_by (rows_on other) (plain_resources s) ≡ 0) → IsAboveEachLock lkid s
above_all s lkid none at row stored = lt_of_not-le (λ from. new_lock s row.lkid (none row.lkid from) at row stored refl)

-- ---- processes

-- where a declaration is not refused, no process has the ID that it gives
pub new_process : (m : MachineState) (d : Declaration) → None ≡ declare_refusal (plain_state m) d → DeclarationsGiveNewIds (plain_state m)
    → IsNewProcess (next_pid (plain_state m) d.node) m.records
new_process m d passed new p among same =
    each_of (λ (q : StoredProcess). q.process) (λ (q : Process). q.pid ≢ next_pid (plain_state m) d.node) m.records.processes
    (new d None (next_pid (plain_state m) d.node) refl
    (ap (λ refusal. (refused_or refusal (plain_state m) (step_change (plain_state m) (Declare d) None)).answer)
    (sym passed)))
    p among same
