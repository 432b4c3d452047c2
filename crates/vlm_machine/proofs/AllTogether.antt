-- A dequeue with DEQALL: the locks that it takes are those that are chosen among the records, and where they are given up
-- together the plain machine has made its step.
use Rattle.std.proofs.Common.{◌≡◌, ◌<◌, ◌≤◌, ◌+◌, ◌-◌, ℕ, Bool, zero, suc, true, false, not, ◌&&◌, ◌||◌, cond, List, []}
use Rattle.std.proofs.Common.{◌∷◌, map, filter, None, refl, sym, ap, ◌∙◌, subst, inl, inr, arith, eq-eqb, ne_eqb}
use Rattle.std.specs.Prelude.{◌==◌}
use Rattle.std.specs.List.{list_any, range_with_len}
use Rattle.std.proofs.lemmas.Bool.{and_parts, cond_both, eqb-true, or_cases, or_right}
use Rattle.vlm_words.specs.declared.locks.LockState.{LockState}
use Rattle.vlm_words.specs.declared.resources.Queue.{Queue}
use Rattle.vlm_words.specs.declared.resources.Queue.TheVariants.{Granted, Conversion, Waiting}
use Rattle.vlm_words.specs.declared.steps.Dequeue.{Dequeue}
use Rattle.vlm_model.specs.Dequeue.{conversion_ending, deq_change, dequeue_lkid, is_dequeued, withdrawal_of, withdrawals_of}
use Rattle.vlm_model.specs.Endings.How.{by_abort}
use Rattle.vlm_words.specs.Flags.{cancel, deqall, has_flag, invvalblk}
use Rattle.vlm_model.specs.OwnLocks.{has_lock_among, is_below, is_lock_among, own_lkids, parent_of}
use Rattle.vlm_words.specs.State.{Process, Resource, State}
use Rattle.vlm_model.specs.Withdrawals.{Withdrawal, processes_after, resource_after_withdrawals, withdrawn_endings}
use Rattle.vlm_model.proofs.Each.{each_filter, each_weaker}
use Rattle.vlm_model.proofs.EndedLocks.{in_filter, is_listed}
use Rattle.vlm_model.proofs.Together.{OfOneEach, dequeues_apart, from_on}
use Rattle.vlm_collections.specs.Lists.{IsIn}
use Rattle.vlm_store.specs.Plain.{plain_processes, plain_resource, plain_resources}
use Rattle.vlm_store.specs.Records.{IsSound, Records, StoredLock, StoredResource, Stores, queued, rows_of_locks}
use Rattle.vlm_locks.specs.declared.joint_withdrawals.Scope.{Scope}
use Rattle.vlm_locks.specs.declared.joint_withdrawals.Scope.TheVariants.{All, Below}
use Rattle.vlm_locks.specs.GivingUp.{AreChosen, AreGivenUp, IsOwnScope, Rise, SublocksGoToo, is_chosen}
use Rattle.vlm_locks.specs.Left.{giving_up, is_among, resource_left}
use Rattle.vlm_locks.specs.Rest.{IsAtRest}
use Rattle.vlm_locks.specs.RunningDown.{CanEndProcesses}
use Rattle.vlm_locks.specs.Touched.{Touches}
use Rattle.vlm_locks.proofs.ChosenLocks.{among_in, one_scope}
use Rattle.vlm_locks.proofs.ParentsNamed.{parent_named}
use Rattle.vlm_locks.proofs.QueuedLocks.{in_queue, queued_stored}
use Rattle.vlm_locks.proofs.ProcessEndsAlike.{given_up_by_rows}
use Rattle.vlm_machine.specs.Admissions.{scope_of}
use Rattle.vlm_machine.specs.Between.{IsBetweenSteps}
use Rattle.vlm_machine.specs.Machine.{MachineState, plain_state}
use Rattle.vlm_machine.specs.Notes.{IsToSweep}
use Rattle.vlm_machine.proofs.EndOfProcess.{to_sweep_left}
use Rattle.vlm_machine.proofs.RunDown.{is_apart}
use Rattle.vlm_machine.proofs.FutureIds.{above_all}

-- the locks that the dequeue takes with DEQALL
abbrev pub taken_lkids : State → Dequeue → List ℕ
taken_lkids s d = filter (is_dequeued s d) (own_lkids (λ pid. pid == d.pid) s)

-- what becomes of each of them
abbrev pub gives_up : Dequeue → ℕ → Withdrawal
gives_up d = giving_up by_abort by_abort (has_flag d.flags invvalblk)

-- ---- the choice

-- the choice takes what the dequeue takes
chosen_is : (top lkid : ℕ) (resources : List Resource) → is_chosen (scope_of top) resources lkid ≡ ((top == 0) || is_below 15 top resources lkid)
chosen_is zero lkid resources = refl
chosen_is (suc n) lkid resources = rw (ne_eqb (suc n) 0 (λ none. cc)) refl

-- ---- rising numbers

rise_range : (first many : ℕ) → Rise (range_with_len first many)
rise_range first zero = tt
rise_range first (suc many) = (
  each_weaker (λ n. first + 1 ≤ n) (λ n. first < n) (λ n from. omega (arith, from)) (range_with_len (first + 1) many) (from_on (first + 1) many),
  rise_range (first + 1) many,
)

rise_filter : (test : ℕ → Bool) (ns : List ℕ) → Rise ns → Rise (filter test ns)
rise_filter test [] rise = tt
rise_filter test (n ∷ ns) rise =
    let rest : Rise (filter test ns) = rise_filter test ns rise.1 in
    cond_both (test n) (n ∷ filter test ns) (filter test ns) Rise (λ _. (each_filter (λ later. n < later) test ns rise.0, rest)) (λ _. rest)

-- ---- lists

-- what a filter leaves was there, and passes
left_by : (test : ℕ → Bool) (ns : List ℕ) (n : ℕ) → IsIn n (filter test ns) → (test n ≡ true) × IsIn n ns
left_by test [] n there = absurd there
left_by test (x ∷ ns) n there = of_test (test x) refl (left_by test ns n) there
  where
    of_test : (b : Bool) → test x ≡ b → (IsIn n (filter test ns) → (test n ≡ true) × IsIn n ns) → IsIn n (cond b (x ∷ filter test ns) (filter test ns))
        → (test n ≡ true) × IsIn n (x ∷ ns)
    of_test true passes behind (inl here) = (ap test (sym here) ∙ passes, inl here)
    of_test true passes behind (inr later) = let rest = behind later in (rest.0, inr rest.1)
    of_test false fails behind left = let rest = behind left in (rest.0, inr rest.1)

-- one of these passes the test that some image passes
one_passes : {A B : Type 0} (f : A → B) (test : B → Bool) (xs : List A) → list_any test (map f xs) ≡ true → (x : A) × (IsIn x xs × (test (f x) ≡ true))
one_passes f test [] some = let no : false ≡ true = some in cc
one_passes f test (x ∷ xs) some = elim (or_cases (test (f x)) (list_any test (map f xs)) some) [
  | inl here ↦ (x, (inl refl, here))
  | inr later ↦ let found = one_passes f test xs later in (found.0, (inr found.1.0, found.1.1))
]

-- and where one does, some image does
some_pass : {A B : Type 0} (f : A → B) (test : B → Bool) (xs : List A) (x : A) → IsIn x xs → test (f x) ≡ true → list_any test (map f xs) ≡ true
some_pass f test [] x there passes = absurd there
some_pass {A} f test (y ∷ xs) x there passes = elim there [
  | inl here ↦ ap (λ b. b || list_any test (map f xs)) (ap (λ (z : A). test (f z)) here ∙ passes)
  | inr later ↦ or_right (test (f y)) (list_any test (map f xs)) (some_pass f test xs x later passes)
]

-- ---- the locks of a process, among the records and in the plain machine

-- a lock of the process in a queue of the resource
abbrev IsOneOn : ℕ → ℕ → StoredResource → Type 0
IsOneOn pid lkid r = (queue : Queue) × (k : StoredLock) × (IsIn k (queued queue r) × (k.row.lkid ≡ lkid) × (k.row.pid ≡ pid))

one_in : (pid lkid : ℕ) (locks : List StoredLock) → list_any (is_lock_among (λ p. p == pid) lkid) (rows_of_locks locks) ≡ true
    → (k : StoredLock) × (IsIn k locks × (k.row.lkid ≡ lkid) × (k.row.pid ≡ pid))
one_in pid lkid locks some =
    let found = one_passes (λ (k : StoredLock). k.row) (is_lock_among (λ p. p == pid) lkid) locks some in
    let k : StoredLock = found.0 in
    let parts = and_parts (k.row.lkid == lkid) (k.row.pid == pid) found.1.1 in
    (k, (found.1.0, eqb-true k.row.lkid lkid parts.0, eqb-true k.row.pid pid parts.1))

one_on : (pid lkid : ℕ) (r : StoredResource) → has_lock_among (λ p. p == pid) lkid (plain_resource r) ≡ true → IsOneOn pid lkid r
one_on pid lkid r some =
    elim (or_cases (on r.granted || on r.converting) (on r.waiting) some) [
      | inl held ↦ elim (or_cases (on r.granted) (on r.converting) held) [
        | inl granted ↦ let found = one_in pid lkid r.granted granted in (Granted, found.0, found.1)
        | inr converting ↦ let found = one_in pid lkid r.converting converting in (Conversion, found.0, found.1)
      ]
      | inr waiting ↦ let found = one_in pid lkid r.waiting waiting in (Waiting, found.0, found.1)
    ]
  where
    on : List StoredLock → Bool
    on locks = list_any (is_lock_among (λ p. p == pid) lkid) (rows_of_locks locks)

some_in : (pid : ℕ) (locks : List StoredLock) (k : StoredLock) → IsIn k locks → k.row.pid ≡ pid
    → list_any (is_lock_among (λ p. p == pid) k.row.lkid) (rows_of_locks locks) ≡ true
some_in pid locks k there owned =
    some_pass (λ (x : StoredLock). x.row) (is_lock_among (λ p. p == pid) k.row.lkid) locks k there
    (rw (eq-eqb k.row.lkid k.row.lkid refl, eq-eqb k.row.pid pid owned) refl)

some_on : (pid : ℕ) (r : StoredResource) (queue : Queue) (k : StoredLock) → IsIn k (queued queue r) → k.row.pid ≡ pid
    → has_lock_among (λ p. p == pid) k.row.lkid (plain_resource r) ≡ true
some_on pid r queue k there owned = of_queue queue there
  where
    on : List StoredLock → Bool
    on locks = list_any (is_lock_among (λ p. p == pid) k.row.lkid) (rows_of_locks locks)

    of_queue : (its : Queue) → IsIn k (queued its r) → (on r.granted || on r.converting || on r.waiting) ≡ true
    of_queue Granted here = rw (some_in pid r.granted k here owned) refl
    of_queue Conversion here = ap (λ b. b || on r.waiting) (or_right (on r.granted) (on r.converting) (some_in pid r.converting k here owned))
    of_queue Waiting here = or_right (on r.granted || on r.converting) (on r.waiting) (some_in pid r.waiting k here owned)

-- ---- the state after

module _ (m : MachineState) (d : Dequeue) (all : has_flag d.flags deqall ≡ true)
    (goes : has_flag d.flags cancel ≡ false) (plain : d.value ≡ None) (short : d.tail ≡ None) where
  -- such a dequeue gives each lock up so
  given_so : (lkid : ℕ) → withdrawal_of d lkid ≡ gives_up d lkid
  given_so lkid =
      ap (λ (stays : Bool). record {
        lkid = lkid;
        waiting = by_abort;
        converting = conversion_ending stays;
        stays = stays;
        value = cond stays None d.value;
        tail = cond stays None d.tail;
        invalidates = has_flag d.flags invvalblk && not stays;
      }) goes
      ∙ rw (plain, short, and_true (has_flag d.flags invvalblk)) refl
    where
      and_true : (b : Bool) → (b && true) ≡ b
      and_true true = refl
      and_true false = refl

  all_given_so : (lkids : List ℕ) → map (withdrawal_of d) lkids ≡ map (gives_up d) lkids
  all_given_so [] = refl
  all_given_so (lkid ∷ lkids) =
      let here : withdrawal_of d lkid ≡ gives_up d lkid = given_so lkid in
      let behind : map (withdrawal_of d) lkids ≡ map (gives_up d) lkids = all_given_so lkids in
      cc

  withdrawals_are : withdrawals_of (plain_state m) d ≡ map (gives_up d) (taken_lkids (plain_state m) d)
  withdrawals_are =
      ap (λ (b : Bool). map (withdrawal_of d) (cond b (taken_lkids (plain_state m) d) (dequeue_lkid (plain_state m) d ∷ []))) all
      ∙ all_given_so (taken_lkids (plain_state m) d)

  -- what becomes of the resources is the same said lock by lock and row by row
  left_by_rows : (resources : List Resource)
      → map (resource_left (is_among (taken_lkids (plain_state m) d)) (has_flag d.flags invvalblk)) resources
      ≡ map (resource_after_withdrawals (withdrawals_of (plain_state m) d)) resources
  left_by_rows resources =
      each_left resources ∙ ap (λ (ws : List Withdrawal). map (resource_after_withdrawals ws) resources) (sym withdrawals_are)
    where
      apart : OfOneEach (map (gives_up d) (taken_lkids (plain_state m) d))
      apart = subst OfOneEach withdrawals_are (dequeues_apart (plain_state m) d)

      each_left : (rs : List Resource)
          → map (resource_left (is_among (taken_lkids (plain_state m) d)) (has_flag d.flags invvalblk)) rs
          ≡ map (resource_after_withdrawals (map (gives_up d) (taken_lkids (plain_state m) d))) rs
      each_left [] = refl
      each_left (r ∷ rs) =
          let here : resource_after_withdrawals (map (gives_up d) (taken_lkids (plain_state m) d)) r
          ≡ resource_left (is_among (taken_lkids (plain_state m) d)) (has_flag d.flags invvalblk) r =
          given_up_by_rows by_abort by_abort (has_flag d.flags invvalblk) (taken_lkids (plain_state m) d) apart r in
          let behind = each_left rs in
          cc

  -- where these locks are gone and their requests have ended, the plain machine has made the change of the dequeue
  pub state_left : (new : Records)
      → plain_resources new ≡ map (resource_left (is_among (taken_lkids (plain_state m) d)) (has_flag d.flags invvalblk)) (plain_resources m.records)
      → plain_processes new
      ≡ processes_after (withdrawn_endings (map (gives_up d) (taken_lkids (plain_state m) d)) (plain_resources m.records)) (plain_processes m.records)
      → plain_state (record m { records = new }) ≡ deq_change (plain_state m) d
  unfolding deq_change
  state_left new resources statuses =
      ap (λ rs. with_parts (plain_processes new) rs) (resources ∙ left_by_rows (plain_resources m.records))
      ∙ ap (λ ps. with_parts ps (map (resource_after_withdrawals (withdrawals_of (plain_state m) d)) (plain_resources m.records)))
      (statuses
      ∙ ap (λ (ws : List Withdrawal). processes_after (withdrawn_endings ws (plain_resources m.records)) (plain_processes m.records)) (sym withdrawals_are))
    where
      with_parts : List Process → List Resource → State
      with_parts ps rs = record (plain_state m) { processes = ps; resources = rs }

-- ---- the locks that are chosen

module _ (m : MachineState) (sound : IsSound m.records) (rest : IsAtRest m.records) (between : IsBetweenSteps (plain_state m)) where
  -- with a chosen lock its sublocks are chosen, since no lock is more than 15 levels below another
  pub sublocks_go_too : (choice : Scope) (pid : ℕ) → IsOwnScope choice pid m.records → SublocksGoToo choice m.records
  sublocks_go_too All pid own at other row up stored stored_up names chosen = refl
  sublocks_go_too (Below top) pid own at other row up stored stored_up names chosen =
      let resources : List Resource = plain_resources m.records in
      let parent : parent_of row.lkid resources ≡ up.lkid = parent_named m.records sound at row stored ∙ names in
      between.chains top 16 row.lkid own.0
      (or_right (parent_of row.lkid resources == top) (is_below 15 top resources (parent_of row.lkid resources))
      (ap (is_below 15 top resources) parent ∙ chosen))

  -- where a lock is stored, some ID was given
  some_given : (at : ℕ) (row : LockState) → Stores m.records at row → 0 < m.next_lkid
  some_given at row stored = omega (arith, above_all m.records m.next_lkid between.ids.none_to_come at row stored)

  -- each lock of the process is one of its own locks
  own_listed : (pid at : ℕ) (row : LockState) → Stores m.records at row → row.pid ≡ pid
      → list_any (λ n. row.lkid == n) (own_lkids (λ p. p == pid) (plain_state m)) ≡ true
  own_listed pid at row stored owned =
      let stands = in_queue m.records at row stored in
      is_listed (λ p. p == pid) (plain_state m) (is_apart (plain_state m) between.ids (some_given at row stored)) row.lkid
      (some_pass plain_resource (has_lock_among (λ p. p == pid) row.lkid) m.records.resources stands.resource stands.there
      (some_on pid stands.resource stands.queue (record { at = at; row = row }) stands.among owned))

  -- and each of these is that of a stored lock of the process
  own_stored : (pid lkid : ℕ) → list_any (has_lock_among (λ p. p == pid) lkid) (plain_resources m.records) ≡ true
      → (at : ℕ) × (row : LockState) × (Stores m.records at row × (row.lkid ≡ lkid) × (row.pid ≡ pid))
  own_stored pid lkid some =
      let found = one_passes plain_resource (has_lock_among (λ p. p == pid) lkid) m.records.resources some in
      let one : IsOneOn pid lkid found.0 = one_on pid lkid found.0 found.1.1 in
      let k : StoredLock = one.1 in
      (k.at, k.row, (queued_stored m.records sound found.0 found.1.0 one.0 k one.2.0, one.2.1, one.2.2))

  module _ (d : Dequeue) where
    -- the locks that the dequeue takes are the chosen ones of the caller
    pub dequeued_are_chosen : (choice : Scope) → choice ≡ scope_of (dequeue_lkid (plain_state m) d)
        → AreChosen choice d.pid m.records (taken_lkids (plain_state m) d)
    dequeued_are_chosen choice is = record {
      rise =
          rise_filter (is_dequeued (plain_state m) d) (own_lkids (λ pid. pid == d.pid) (plain_state m))
          (rise_filter (λ lkid. list_any (has_lock_among (λ pid. pid == d.pid) lkid) (plain_resources m.records)) (range_with_len 1 (m.next_lkid - 1))
          (rise_range 1 (m.next_lkid - 1)));
      each = λ lkid there.
          let left = left_by (is_dequeued (plain_state m) d) (own_lkids (λ pid. pid == d.pid) (plain_state m)) lkid there in
          let own = left_by (λ n. list_any (has_lock_among (λ pid. pid == d.pid) n) (plain_resources m.records))
          (range_with_len 1 (m.next_lkid - 1)) lkid left.1 in
          let found = own_stored d.pid lkid own.0 in
          (found.0, found.1, (found.2.0, found.2.1, found.2.2, same lkid ∙ left.0));
      all = λ at row stored owned chosen.
          among_in row (taken_lkids (plain_state m) d)
          (in_filter (is_dequeued (plain_state m) d) row.lkid (sym (same row.lkid) ∙ chosen) (own_lkids (λ pid. pid == d.pid) (plain_state m))
          (own_listed d.pid at row stored owned));
    }
      where
        same : (lkid : ℕ) → is_chosen choice (plain_resources m.records) lkid ≡ is_dequeued (plain_state m) d lkid
        same lkid =
            ap (λ (c : Scope). is_chosen c (plain_resources m.records) lkid) is
            ∙ chosen_is (dequeue_lkid (plain_state m) d) lkid (plain_resources m.records)

    -- where they are given up together, the plain machine has made the change of the dequeue
    pub state_given_up : has_flag d.flags deqall ≡ true → has_flag d.flags cancel ≡ false → d.value ≡ None → d.tail ≡ None
        → (choice : Scope) → choice ≡ scope_of (dequeue_lkid (plain_state m) d) → (new : Records) (before after : Touches)
        → AreGivenUp choice (has_flag d.flags invvalblk) d.pid m.records new before after
        → plain_state (record m { records = new }) ≡ deq_change (plain_state m) d
    state_given_up all goes plain short choice is new before after given =
        let same : given.lkids ≡ taken_lkids (plain_state m) d =
        one_scope choice d.pid m.records given.lkids (taken_lkids (plain_state m) d) given.chosen (dequeued_are_chosen choice is) in
        state_left m d all goes plain short new
        (given.left.resources ∙ ap (λ (lkids : List ℕ). map (resource_left (is_among lkids) (has_flag d.flags invvalblk)) (plain_resources m.records)) same)
        (given.statuses
        ∙ ap (λ (lkids : List ℕ). processes_after (withdrawn_endings (map (gives_up d) lkids) (plain_resources m.records)) (plain_processes m.records)) same)

-- what is left to sweep is noted
pub to_sweep_given_up : (old new : MachineState) (choice : Scope) (invalidates : Bool) (pid : ℕ) (before after : Touches) → IsBetweenSteps (plain_state old)
    → AreGivenUp choice invalidates pid old.records new.records before after → CanEndProcesses after new.records → IsToSweep after new
to_sweep_given_up old new choice invalidates pid before after between given left =
    to_sweep_left old new (is_among given.lkids) invalidates after between given.left.resources given.left.only_touched left.noted
