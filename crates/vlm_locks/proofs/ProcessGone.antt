-- A process without locks goes from the records.
use Rattle.std.proofs.Common.{◌≡◌, ◌≢◌, ℕ, Bool, true, false, not, cond, List, [], ◌∷◌, map, Some, refl, sym, ap, ◌∙◌, subst, inl, inr, arith, eq-eqb, ne_eqb}
use Rattle.std.specs.Prelude.{◌==◌, find}
use Rattle.std.specs.Option.{option_map_or}
use Rattle.std.specs.List.{sum_by}
use Rattle.std.proofs.lemmas.Bool.{eqb-true}
use Rattle.std.proofs.lemmas.List.Sums.{sum_by-cons}
use Rattle.vlm_words.specs.declared.locks.LockState.{LockState}
use Rattle.vlm_words.specs.declared.resources.Queue.TheVariants.{Granted, Conversion, Waiting}
use Rattle.vlm_words.specs.Dues.{due_to}
use Rattle.vlm_model.specs.Rundown.{processes_but}
use Rattle.vlm_words.specs.State.{Process}
use Rattle.vlm_collections.specs.Lists.{IsIn}
use Rattle.vlm_records.specs.declared.handles.Place.{Place}
use Rattle.vlm_records.specs.declared.handles.Place.TheVariants.{Queued}
use Rattle.vlm_store.specs.Plain.{plain_processes, plain_resources}
use Rattle.vlm_store.specs.Records.{AreProcessesApart, HasNoLocks, IsProcess, IsSound, Records, Room, StoredLock}
use Rattle.vlm_store.specs.Records.{StoredProcess, StoredResource, Stores, due_of, locks_at, own_handles_at}
use Rattle.vlm_store.specs.Records.{with_process_room, without_process}
use Rattle.vlm_locks.specs.Owing.{IsPaid, due_among, due_for, due_on}
use Rattle.vlm_locks.specs.Rest.{IsAtRest}
use Rattle.vlm_locks.specs.Rising.{handles_of_own}
use Rattle.vlm_locks.specs.RunningDown.{AreEnded, CanEndProcesses, SublocksAreOwn, resource_after_rundown}
use Rattle.vlm_locks.specs.Touched.{AreStillNoted, OnlyTouched, Touches}
use Rattle.vlm_locks.proofs.Rising.{rises_still, were_stored}
use Rattle.vlm_locks.proofs.RunsDown.{none_is_own}
use Rattle.vlm_locks.proofs.QueuedLocks.{queued_stored}

-- ---- the processes that are left

one_and_the_same : (p q : StoredProcess) → p ≡ q → (p.at == q.at) ≡ (p.process.pid == q.process.pid)
one_and_the_same p q same =
    eq-eqb p.at q.at (ap (λ (y : StoredProcess). y.at) same) ∙ sym (eq-eqb p.process.pid q.process.pid (ap (λ (y : StoredProcess). y.process.pid) same))

neither : (p q : StoredProcess) → p.at ≢ q.at → p.process.pid ≢ q.process.pid → (p.at == q.at) ≡ (p.process.pid == q.process.pid)
neither p q first second = ne_eqb p.at q.at first ∙ sym (ne_eqb p.process.pid q.process.pid second)

-- the process of a handle has its ID, and no other process has it
same_process : (ps : List StoredProcess) → AreProcessesApart ps → (p q : StoredProcess) → IsIn p ps → IsIn q ps
    → (p.at == q.at) ≡ (p.process.pid == q.process.pid)
same_process [] apart p q none second = absurd none
same_process (x ∷ ps) apart p q (inl here) (inl there) =
    let same : p ≡ q = sym here ∙ there in
    one_and_the_same p q same
same_process (x ∷ ps) apart p q (inl here) (inr there) =
    let differs = apart.0 q there in
    neither p q (λ same. differs.0 (sym same ∙ sym (ap (λ (y : StoredProcess). y.at) here)))
    (λ same. differs.1 (sym same ∙ sym (ap (λ (y : StoredProcess). y.process.pid) here)))
same_process (x ∷ ps) apart p q (inr there) (inl here) =
    let differs = apart.0 p there in
    neither p q (λ same. differs.0 (same ∙ sym (ap (λ (y : StoredProcess). y.at) here)))
    (λ same. differs.1 (same ∙ sym (ap (λ (y : StoredProcess). y.process.pid) here)))
same_process (x ∷ ps) apart p q (inr first) (inr second) = same_process ps apart.1 p q first second

left : (at pid : ℕ) (ps : List StoredProcess) → ((p : StoredProcess) → IsIn p ps → (p.at == at) ≡ (p.process.pid == pid))
    → map (λ p. p.process) (without_process at ps) ≡ processes_but (λ p. p == pid) (map (λ p. p.process) ps)
left at pid [] each = refl
left at pid (p ∷ ps) each =
    of_test (p.at == at) (p.process.pid == pid) (each p (inl refl)) (left at pid ps (λ q there. each q (inr there)))
  where
    of_test : (a b : Bool) → a ≡ b → map (λ (q : StoredProcess). q.process) (without_process at ps) ≡ processes_but (λ q. q == pid) (map (λ q. q.process) ps)
        → map (λ (q : StoredProcess). q.process) (cond (not a) (p ∷ without_process at ps) (without_process at ps))
        ≡ cond (not b) (p.process ∷ processes_but (λ q. q == pid) (map (λ q. q.process) ps)) (processes_but (λ q. q == pid) (map (λ q. q.process) ps))
    of_test true true same rest = rest
    of_test false false same rest = ap (λ (qs : List Process). p.process ∷ qs) rest
    of_test true false same rest = cc
    of_test false true same rest = cc

-- one that is left was there, under another handle
was_left : (at : ℕ) (ps : List StoredProcess) (p : StoredProcess) → IsIn p (without_process at ps) → IsIn p ps
was_left at [] p none = absurd none
was_left at (x ∷ ps) p there = of_test (x.at == at) there (was_left at ps p)
  where
    of_test : (b : Bool) → IsIn p (cond (not b) (x ∷ without_process at ps) (without_process at ps))
        → (IsIn p (without_process at ps) → IsIn p ps) → IsIn p (x ∷ ps)
    of_test true among later = inr (later among)
    of_test false (inl here) later = inl here
    of_test false (inr behind) later = inr (later behind)

-- ---- what they are owed

-- what each other is owed stays, and the one that is gone is owed nothing
owed_left : (at pid : ℕ) (ps : List StoredProcess) → ((p : StoredProcess) → IsIn p ps → (p.at == at) ≡ (p.process.pid == pid)) → (other : ℕ)
    → option_map_or (λ p. p.due) (find (λ p. p.process.pid == other) (without_process at ps)) 0
    ≡ cond (other == pid) 0 (option_map_or (λ p. p.due) (find (λ p. p.process.pid == other) ps) 0)
owed_left at pid [] each other = of_test (other == pid)
  where
    of_test : (b : Bool) → ◌≡◌ {A = ℕ} 0 (cond b 0 0)
    of_test true = refl
    of_test false = refl
owed_left at pid (p ∷ ps) each other =
    of_tests (p.at == at) (p.process.pid == pid) (other == pid) (p.process.pid == other) (each p (inl refl)) refl refl refl
    (owed_left at pid ps (λ q there. each q (inr there)) other)
  where
    of_tests : (a b c d : Bool) → a ≡ b → (p.process.pid == pid) ≡ b → (other == pid) ≡ c → (p.process.pid == other) ≡ d
        → option_map_or (λ (q : StoredProcess). q.due) (find (λ q. q.process.pid == other) (without_process at ps)) 0
        ≡ cond c 0 (option_map_or (λ q. q.due) (find (λ q. q.process.pid == other) ps) 0)
        → option_map_or (λ (q : StoredProcess). q.due) (find (λ q. q.process.pid == other) (cond (not a) (p ∷ without_process at ps) (without_process at ps))) 0
        ≡ cond c 0 (option_map_or (λ q. q.due) (cond d (Some p) (find (λ q. q.process.pid == other) ps)) 0)
    of_tests true true true d same own its is rest = rest
    of_tests true true false true same own its is rest =
        let found : (other == pid) ≡ true = eq-eqb other pid (sym (eqb-true p.process.pid other is) ∙ eqb-true p.process.pid pid own) in
        cc
    of_tests true true false false same own its is rest = rest
    of_tests false false true true same own its is rest =
        let found : (p.process.pid == pid) ≡ true = eq-eqb p.process.pid pid (eqb-true p.process.pid other is ∙ eqb-true other pid its) in
        cc
    of_tests false false true false same own its is rest = rw is rest
    of_tests false false false true same own its is rest = rw is refl
    of_tests false false false false same own its is rest = rw is rest
    of_tests true false c d same own its is rest = cc
    of_tests false true c d same own its is rest = cc

module _ (s : Records) (sound : IsSound s) (owner pid : ℕ) (lives : IsProcess owner pid s) (none : own_handles_at owner s ≡ []) where
  -- no lock is its own, so nothing is due to it
  nothing_due_among : (locks : List StoredLock) → ((k : StoredLock) → IsIn k locks → Stores s k.at k.row) → due_among pid locks ≡ 0
  nothing_due_among [] each = refl
  nothing_due_among (k ∷ locks) each =
      let here : due_to pid k.row ≡ 0 = rw (none_is_own owner pid s sound lives none k.at k.row (each k (inl refl))) refl in
      omega (arith, here, nothing_due_among locks (λ x there. each x (inr there)), sum_by-cons (λ (x : StoredLock). due_to pid x.row) k locks)

  nothing_due_on : (rs : List StoredResource) → ((r : StoredResource) → IsIn r rs → IsIn r s.resources) → sum_by (due_on pid) rs ≡ 0
  nothing_due_on [] among = refl
  nothing_due_on (r ∷ rs) among =
      let its = among r (inl refl) in
      omega (
        arith,
        nothing_due_among r.granted (λ k there. queued_stored s sound r its Granted k there),
        nothing_due_among r.converting (λ k there. queued_stored s sound r its Conversion k there),
        nothing_due_among r.waiting (λ k there. queued_stored s sound r its Waiting k there),
        nothing_due_on rs (λ x there. among x (inr there)),
        sum_by-cons (due_on pid) r rs,
      )

  pub nothing_due : due_for pid s ≡ 0
  nothing_due = nothing_due_on s.resources (λ r there. there)

  its_tests : (p : StoredProcess) → IsIn p s.processes → (p.at == owner) ≡ (p.process.pid == pid)
  its_tests p there =
      ap (λ handle. p.at == handle) (sym lives.1.1)
      ∙ same_process s.processes sound.processes_apart p lives.0 there lives.1.0
      ∙ ap (λ other. p.process.pid == other) lives.1.2

  pub processes_left : map (λ p. p.process) (without_process owner s.processes) ≡ processes_but (λ p. p == pid) (plain_processes s)
  processes_left = left owner pid s.processes its_tests

  module _ (room : Room) where
    -- the records without it
    abbrev gone : Records
    gone = with_process_room room (record s { processes = without_process owner s.processes })

    pub rest_left : IsSound gone → IsAtRest s → IsAtRest gone
    rest_left sound_gone rest = record {
      keyed = rest.keyed;
      rising = λ p among. rises_still s gone p p (were_stored s gone refl) refl (rest.rising p (was_left owner s.processes p among));
      sound = sound_gone;
    }

    pub together_left : SublocksAreOwn s → SublocksAreOwn gone
    together_left together at other row up stored above named = together at other row up (was_stored at row stored) (was_stored other up above) named
      where
        was_stored : (handle : ℕ) (its : LockState) → Stores gone handle its → Stores s handle its
        was_stored handle its there = (there.0, by_place there.0 there.1)
          where
            by_place : (place : Place) → IsIn (record { at = handle; row = its }) (locks_at place gone)
                → IsIn (record { at = handle; row = its }) (locks_at place s)
            by_place (Queued res queue) among = among

    pub paid_left : IsPaid s → IsPaid gone
    paid_left paid other = owed_left owner pid s.processes its_tests other ∙ of_test (other == pid) refl
      where
        of_test : (b : Bool) → (other == pid) ≡ b → cond b 0 (due_of other s) ≡ due_for other s
        of_test true is = sym nothing_due ∙ ap (λ p. due_for p s) (sym (eqb-true other pid is))
        of_test false is = paid other

-- ---- the process ends

-- what is left once the process is run down and gone
pub process_ended : (old mid new : Records) (before noted : Touches) (owner pid : ℕ) (room : Room) → IsSound mid
    → IsProcess owner pid mid → HasNoLocks owner mid
    → new ≡ with_process_room room (record mid { processes = without_process owner mid.processes })
    → plain_resources mid ≡ map (resource_after_rundown (λ p. p == pid)) (plain_resources old) → plain_processes mid ≡ plain_processes old
    → AreStillNoted before.noted noted.noted → OnlyTouched noted.noted old mid → noted.room ≡ before.room → AreEnded (λ p. p == pid) old new before noted
process_ended old mid new before noted owner pid room sound lives none is resources statuses kept only_touched same_room = record {
  resources = ap plain_resources is ∙ resources;
  processes =
      ap plain_processes is ∙ processes_left mid sound owner pid lives (ap handles_of_own none) ∙ ap (processes_but (λ p. p == pid)) statuses;
  kept = kept;
  only_touched = λ r there untouched. only_touched r (subst (λ (s : Records). IsIn r s.resources) is there) untouched;
  same_room = same_room;
}

pub others_can_end : (mid new : Records) (touched : Touches) (owner pid : ℕ) (room : Room) → IsSound mid → IsProcess owner pid mid → HasNoLocks owner mid
    → new ≡ with_process_room room (record mid { processes = without_process owner mid.processes })
    → IsSound new → CanEndProcesses touched mid → CanEndProcesses touched new
others_can_end mid new touched owner pid room sound lives none is sound_new can_end =
    subst (CanEndProcesses touched) (sym is) (record {
      rest = rest_left mid sound owner pid lives (ap handles_of_own none) room (subst IsSound is sound_new) can_end.rest;
      together = together_left mid sound owner pid lives (ap handles_of_own none) room can_end.together;
      granted = can_end.granted;
      paid = paid_left mid sound owner pid lives (ap handles_of_own none) room can_end.paid;
      noted = can_end.noted;
      room = can_end.room;
    })
