-- The reserved ASTs of a process, as one of its locks converts or enters.
use Rattle.std.proofs.Common.{◌≡◌, ◌≤◌, ◌+◌, ℕ, Bool, true, false, List, [], ◌∷◌, ◌++◌, map, find, cond, Option, None}
use Rattle.std.proofs.Common.{Some, IsSome, refl, sym, ap, ◌∙◌, subst, inl, inr, arith, eq-eqb, ne_eqb}
use Rattle.std.specs.Prelude.{◌==◌}
use Rattle.std.specs.List.{sum_by}
use Rattle.std.specs.Option.{option_map_or}
use Rattle.std.proofs.lemmas.Bool.{cases_eq, cond_both}
use Rattle.std.proofs.lemmas.List.Sums.{sum_by-append, sum_by-cons}
use Rattle.vlm_words.specs.declared.locks.Request.{Request}
use Rattle.vlm_words.specs.declared.locks.LockState.{LockState}
use Rattle.vlm_words.specs.declared.resources.Queue.{Queue}
use Rattle.vlm_words.specs.declared.resources.ValueBlock.{ValueBlock}
use Rattle.vlm_words.specs.Rows.{wanting_row, granted_row}
use Rattle.vlm_words.specs.Dues.{due_to, routines_of, row_due}
use Rattle.vlm_records.specs.declared.handles.Place.TheVariants.{Queued}
use Rattle.vlm_store.specs.Records.{DueChanges, DuesStay, HasResource, IsSound, Records, Room, SameButNotices}
use Rattle.vlm_store.specs.Records.{StoredProcess, StoredResource, Stores, due_of, on_resource, process_with_lock}
use Rattle.vlm_store.specs.Records.{with_lock_room, with_new_lock}
use Rattle.vlm_locks.specs.Entering.{IsDueMore, IsReady}
use Rattle.vlm_locks.specs.declared.new_locks.NewLock.{NewLock}
use Rattle.vlm_locks.specs.Owing.{DueMoves, IsPaid, OwedMoves, OwesMore, due_for, due_on}
use Rattle.vlm_locks.specs.declared.located_locks.LocatedLock.{LocatedLock}
use Rattle.vlm_locks.specs.Standing.{IsLocated}
use Rattle.vlm_locks.proofs.ReservedAsts.{due_noticed, due_own, weight}
use Rattle.vlm_locks.proofs.SumsOverLocks.{gone_weighs, joined_weighs}

-- ---- the ASTs of routines are owed

-- more is added where it is this process
added_where : (here : Bool) (due more : ℕ) → cond here (due + more) due ≡ due + cond here more 0
added_where true due more = refl
added_where false due more = omega arith

-- a process is owed so many more
pub owes_more : (owner more : ℕ) (s t : Records) → IsPaid s → DueChanges owner (λ due. due + more) s t → SameButNotices s t → OwesMore owner more t
owes_more owner more s t paid changes same pid =
    changes pid ∙ added_where (pid == owner) (due_of pid s) more
    ∙ ap (λ due. due + cond (pid == owner) more 0) (paid pid ∙ sym (due_noticed s t same pid))

-- and still is where what is owed stays
pub owes_still : (owner more : ℕ) (s t : Records) → DuesStay s t → SameButNotices s t → OwesMore owner more s → OwesMore owner more t
owes_still owner more s t stay same owes pid =
    stay pid ∙ owes pid ∙ ap (λ due. due + cond (pid == owner) more 0) (sym (due_noticed s t same pid))

-- the value block of a resource is nothing that is due
pub due_valued : (pid res : ℕ) (block : ValueBlock) (s : Records)
    → due_for pid (record s { resources = on_resource res (λ r. record r { value_block = block }) s.resources }) ≡ due_for pid s
due_valued pid res block s = each s.resources
  where
    valued : StoredResource → StoredResource
    valued r = record r { value_block = block }

    one : (r : StoredResource) → due_on pid (cond (r.at == res) (record r { value_block = block }) r) ≡ due_on pid r
    one r = cond_both (r.at == res) (record r { value_block = block }) r (λ x. due_on pid x ≡ due_on pid r) (λ _. refl) (λ _. refl)

    each : (rs : List StoredResource) → sum_by (due_on pid) (on_resource res (λ r. record r { value_block = block }) rs) ≡ sum_by (due_on pid) rs
    each [] = refl
    each (r ∷ rs) =
        omega (
          arith,
          sum_by-cons (due_on pid) (cond (r.at == res) (record r { value_block = block }) r) (on_resource res (λ x. record x { value_block = block }) rs),
          sum_by-cons (due_on pid) r rs,
          one r,
          each rs,
        )

-- ---- a conversion

-- the resource of a lock that stands is there
pub found_there : (s : Records) (f : LocatedLock) → IsLocated f s → HasResource f.res s
found_there s f located = subst (λ (o : Option StoredResource). IsSome o) (sym located.found) refl

-- a lock that wanted nothing has this row as it wants the request
module _ (was : LockState) (request : Request) (nothing : was.want ≡ None) (row : LockState) (is : row ≡ wanting_row was request) where
  -- for it the routines of the request are due beside what was
  wanting_due : row_due row ≡ row_due was + routines_of (Some request)
  wanting_due = ap row_due is ∙ omega (arith, ap routines_of nothing)

  wanting_due_to : (pid : ℕ) → due_to pid row ≡ due_to pid was + cond (pid == was.pid) (routines_of (Some request)) 0
  wanting_due_to pid =
      ap (due_to pid) is ∙ elim (cases_eq was.pid pid) [
        | inl same ↦ rw (eq-eqb was.pid pid same, eq-eqb pid was.pid (sym same)) (sym (ap row_due is) ∙ wanting_due)
        | inr differs ↦ rw (ne_eqb was.pid pid differs, ne_eqb pid was.pid (λ e. differs (sym e))) refl
      ]

  module _ (s : Records) (owes : OwesMore was.pid (routines_of (Some request)) s) where
    -- it is owed
    pub wanting_fits : IsSound s → (at : ℕ) → Stores s at was → row_due row ≤ due_of row.pid s
    wanting_fits sound at stored =
        subst (λ (pid : ℕ). row_due row ≤ due_of pid s) (sym (ap (λ (r : LockState). r.pid) is))
        (omega (
          arith,
          wanting_due,
          gone_weighs (weight was.pid) s sound at was stored,
          due_own was,
          owes was.pid,
          ap (λ (b : Bool). cond b (routines_of (Some request)) 0) (eq-eqb was.pid was.pid refl),
        ))

    -- the lock waits for its conversion
    pub paid_later : (t : Records) → DueMoves was row s t → DuesStay s t → IsPaid t
    paid_later t due stay pid = omega (arith, due pid, stay pid, owes pid, wanting_due_to pid)

    -- its conversion is granted at once
    pub paid_at_once : (t : Records) → DueMoves was (granted_row row) s t → OwedMoves row (granted_row row) s t → IsPaid t
    paid_at_once t due owed pid = omega (arith, due pid, owed pid, owes pid, wanting_due_to pid)

-- ---- an entry

-- a process is owed what it was where another lock joins its own
same_dues : (owner : ℕ) (parent : Option ℕ) (at pid : ℕ) (ps : List StoredProcess)
    → option_map_or (λ (p : StoredProcess). p.due) (find (λ (p : StoredProcess). p.process.pid == pid) (map (process_with_lock owner parent at) ps)) 0
    ≡ option_map_or (λ (p : StoredProcess). p.due) (find (λ (p : StoredProcess). p.process.pid == pid) ps) 0
same_dues owner parent at pid [] = refl
same_dues owner parent at pid (p ∷ ps) =
    elim (cases_eq p.process.pid pid) [
      | inl same ↦ rw (eq-eqb p.process.pid pid same) refl
      | inr differs ↦ rw (ne_eqb p.process.pid pid differs) (same_dues owner parent at pid ps)
    ]

-- a lock is made that joins a queue
pub due_entered : (s : Records) → IsSound s
    → (at : ℕ) (row : LockState) (owner : ℕ) (parent : Option ℕ) (res : ℕ) (to : Queue) → HasResource res s
    → (room : Room) (new : Records)
    → new ≡ with_lock_room room (with_new_lock at row owner parent (Queued res to) s) → IsDueMore row s new
due_entered s sound at row owner parent res to there room new added = record {
  due = λ pid. ap (due_for pid) added ∙ joined_weighs (weight pid) (record { at = at; row = row }) res to s sound there;
  dues = λ pid. ap (due_of pid) added ∙ same_dues owner parent at pid s.processes;
}

-- for a resource that is made nothing is due
pub due_with_resource : (r : StoredResource) → ((pid : ℕ) → due_on pid r ≡ 0) → (s : Records) (row : LockState) (mid new : Records)
    → mid.resources ≡ s.resources ++ r ∷ [] → mid.processes ≡ s.processes → IsDueMore row mid new → IsDueMore row s new
due_with_resource r none s row mid new resources processes more = record {
  due = λ pid.
      omega (
        arith,
        more.due pid,
        ap (sum_by (due_on pid)) resources,
        sum_by-append (due_on pid) s.resources (r ∷ []),
        sum_by-cons (due_on pid) r [],
        none pid,
      );
  dues = λ pid. more.dues pid
      ∙ ap (λ (ps : List StoredProcess). option_map_or (λ (p : StoredProcess). p.due)
      (find (λ (p : StoredProcess). p.process.pid == pid) ps) 0) processes;
}

-- what is owed stays for a lock that waits
pub owed_waiting : (row : LockState) (s t : Records) → DuesStay s t → OwedMoves row row s t
owed_waiting row s t stay pid = ap (λ (due : ℕ). due + due_to pid row) (stay pid)

module _ (row : LockState) (unarmed : row.armed ≡ false) where
  new_due : row_due row ≡ routines_of row.want
  new_due = ap (λ (b : Bool). routines_of row.want + cond b 1 0) unarmed ∙ omega arith

  new_due_to : (pid : ℕ) → due_to pid row ≡ cond (pid == row.pid) (routines_of row.want) 0
  new_due_to pid =
      elim (cases_eq row.pid pid) [
        | inl same ↦ rw (eq-eqb row.pid pid same, eq-eqb pid row.pid (sym same)) new_due
        | inr differs ↦ rw (ne_eqb row.pid pid differs, ne_eqb pid row.pid (λ e. differs (sym e))) refl
      ]

  module _ (s : Records) (owes : OwesMore row.pid (routines_of row.want) s) (last : LockState) (t : Records) (more : IsDueMore last s t) where
    -- what is due for a new lock is owed
    pub new_fits : row_due row ≤ due_of row.pid t
    new_fits =
        omega (
          arith,
          new_due,
          more.dues row.pid,
          owes row.pid,
          ap (λ (b : Bool). cond b (routines_of row.want) 0) (eq-eqb row.pid row.pid refl),
        )

    -- and once it has entered, so is what is due for it then
    pub paid_entered : (u : Records) → SameButNotices t u → OwedMoves row last t u → IsPaid u
    paid_entered u same owed pid =
        omega (arith, due_noticed t u same pid, owed pid, more.due pid, more.dues pid, owes pid, new_due_to pid)

-- each process is owed what was due to it, and that of the entry the ASTs of the routines that its request names
pub owes_ready : (e : NewLock) (s t : Records) → IsReady e s t → IsPaid s → OwesMore e.pid (routines_of (Some e.asked)) t
owes_ready e s t ready paid =
    owes_more e.pid (routines_of (Some e.asked)) (record s { room = t.room }) t paid ready.owed
    (record { resources = ready.resources; processes = ready.processes; room = refl; keys = ready.keys })
