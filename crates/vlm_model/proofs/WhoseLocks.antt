-- The process that has the lock of an ID.
use Rattle.std.proofs.Common.{◌≡◌, ◌≤◌, ◌+◌, ◌-◌, ℕ, Bool, true, false, not, List, [], ◌∷◌, flat_map, cond, Option, None, Some, refl, ap, inl, inr, ◌∙◌, arith}
use Rattle.std.specs.Prelude.{◌==◌, ◌&&◌, ◌||◌}
use Rattle.std.specs.List.{AllByRecursion, filter, list_any, range_with_len, sum_by}
use Rattle.std.proofs.lemmas.Bool.{or_cases}
use Rattle.std.proofs.lemmas.List.Sums.{sum_by-cons}
use Rattle.vlm_words.specs.declared.locks.Request.{Request}
use Rattle.vlm_words.specs.declared.locks.LockState.{LockState}
use Rattle.vlm_words.specs.State.{Resource, State}
use Rattle.vlm_model.specs.Endings.{Ending, How, row_endings, wanted_endings}
use Rattle.vlm_words.specs.Rows.{rows_of}
use Rattle.vlm_model.specs.OwnLocks.{has_lock_among, is_lock_among, own_lkids}
use Rattle.vlm_model.specs.Withdrawals.{Withdrawal, queue_endings, withdrawal_endings, withdrawn_endings}
use Rattle.vlm_model.specs.Rundown.{rundown_endings, rundown_of, rundowns}
use Rattle.vlm_model.proofs.IdsApart.{Apart, standing, stands}
use Rattle.vlm_model.proofs.Each.{each_append, each_map, each_weaker}
use Rattle.vlm_model.proofs.Weights.{weigh}
use Rattle.vlm_model.proofs.Withdrawing.{each_end}
use Rattle.vlm_model.proofs.LastingSums.{IsByName}
use Rattle.vlm_model.proofs.Holdings.{locks}
use Rattle.std.proofs.lemmas.Bool.Decides.{eqb_tells}

-- 1 for a row of this ID that is of one of these processes
abbrev pub among : (ℕ → Bool) → ℕ → LockState → ℕ
among is_one lkid row = cond (is_lock_among is_one lkid row) 1 0

-- 1 for a row of this ID that is of another process
abbrev pub strangers : (ℕ → Bool) → ℕ → LockState → ℕ
strangers is_one lkid row = cond ((row.lkid == lkid) && not (is_one row.pid)) 1 0

-- no row of this ID is of another process
abbrev pub NoStrangers : (ℕ → Bool) → List Resource → ℕ → Type 0
NoStrangers is_one resources lkid = sum_by (weigh (strangers is_one lkid)) resources ≡ 0

-- a row of the ID is of one of the processes, or of another one
stands_of : (is_one : ℕ → Bool) (lkid : ℕ) (row : LockState) → stands lkid row ≡ among is_one lkid row + strangers is_one lkid row
stands_of is_one lkid row = of_tests (row.lkid == lkid) (is_one row.pid)
  where
    of_tests : (a b : Bool) → cond a 1 0 ≡ cond (a && b) 1 0 + cond (a && not b) 1 0
    of_tests true true = refl
    of_tests true false = refl
    of_tests false b = refl

rows_of_all : (is_one : ℕ → Bool) (lkid : ℕ) (rows : List LockState)
    → sum_by (stands lkid) rows ≡ sum_by (among is_one lkid) rows + sum_by (strangers is_one lkid) rows
rows_of_all is_one lkid [] = refl
rows_of_all is_one lkid (row ∷ rows) =
    omega (
      arith,
      rows_of_all is_one lkid rows,
      stands_of is_one lkid row,
      sum_by-cons (stands lkid) row rows,
      sum_by-cons (among is_one lkid) row rows,
      sum_by-cons (strangers is_one lkid) row rows,
    )

pub all_of : (is_one : ℕ → Bool) (lkid : ℕ) (resources : List Resource)
    → standing lkid resources ≡ sum_by (weigh (among is_one lkid)) resources + sum_by (weigh (strangers is_one lkid)) resources
all_of is_one lkid [] = refl
all_of is_one lkid (r ∷ rest) =
    omega (
      arith,
      all_of is_one lkid rest,
      rows_of_all is_one lkid r.granted,
      rows_of_all is_one lkid r.converting,
      rows_of_all is_one lkid r.waiting,
      sum_by-cons (weigh (stands lkid)) r rest,
      sum_by-cons (weigh (among is_one lkid)) r rest,
      sum_by-cons (weigh (strangers is_one lkid)) r rest,
    )

-- what is found is counted
rows_counted : (is_one : ℕ → Bool) (lkid : ℕ) (rows : List LockState) → list_any (is_lock_among is_one lkid) rows ≡ true
    → 1 ≤ sum_by (among is_one lkid) rows
rows_counted is_one lkid [] found = cc
rows_counted is_one lkid (row ∷ rows) found =
    elim (or_cases (is_lock_among is_one lkid row) (list_any (is_lock_among is_one lkid) rows) found) [
      | inl here ↦
          (let one : among is_one lkid row ≡ 1 = ap (λ (b : Bool). cond b 1 0) here in
          omega (arith, one, sum_by-cons (among is_one lkid) row rows))
      | inr later ↦ omega (arith, rows_counted is_one lkid rows later, sum_by-cons (among is_one lkid) row rows)
    ]

on_resource_counted : (is_one : ℕ → Bool) (lkid : ℕ) (r : Resource) → has_lock_among is_one lkid r ≡ true → 1 ≤ weigh (among is_one lkid) r
on_resource_counted is_one lkid r held =
    elim (or_cases (list_any (is_lock_among is_one lkid) r.granted || list_any (is_lock_among is_one lkid) r.converting)
    (list_any (is_lock_among is_one lkid) r.waiting) held) [
      | inl first ↦ elim (or_cases (list_any (is_lock_among is_one lkid) r.granted) (list_any (is_lock_among is_one lkid) r.converting) first) [
        | inl granted ↦ omega (arith, rows_counted is_one lkid r.granted granted)
        | inr converting ↦ omega (arith, rows_counted is_one lkid r.converting converting)
      ]
      | inr waiting ↦ omega (arith, rows_counted is_one lkid r.waiting waiting)
    ]

pub held_counted : (is_one : ℕ → Bool) (lkid : ℕ) (resources : List Resource) → list_any (has_lock_among is_one lkid) resources ≡ true
    → 1 ≤ sum_by (weigh (among is_one lkid)) resources
held_counted is_one lkid [] held = cc
held_counted is_one lkid (r ∷ rest) held =
    elim (or_cases (has_lock_among is_one lkid r) (list_any (has_lock_among is_one lkid) rest) held) [
      | inl here ↦ omega (arith, on_resource_counted is_one lkid r here, sum_by-cons (weigh (among is_one lkid)) r rest)
      | inr later ↦ omega (arith, held_counted is_one lkid rest later, sum_by-cons (weigh (among is_one lkid)) r rest)
    ]

-- where a row of the ID is of one of the processes, no other row has it
pub none_strange : (is_one : ℕ → Bool) (s : State) → Apart s → (lkid : ℕ) → list_any (has_lock_among is_one lkid) s.resources ≡ true
    → NoStrangers is_one s.resources lkid
none_strange is_one s apart lkid held =
    omega (arith, all_of is_one lkid s.resources, apart.one_row lkid, held_counted is_one lkid s.resources held)

-- what a filter leaves passes
pub each_passing : {X : Type 0} (test : X → Bool) (xs : List X) → AllByRecursion (λ x. test x ≡ true) (filter test xs)
each_passing test [] = tt
each_passing test (x ∷ xs) =
    elim (test x) as (λ b. test x ≡ b → AllByRecursion (λ y. test y ≡ true) (cond b (x ∷ filter test xs) (filter test xs))) [
      | true ↦ λ is. (is, each_passing test xs)
      | false ↦ λ _. each_passing test xs
    ] refl

-- the own locks of processes are no strangers'
pub own_are_theirs : (is_one : ℕ → Bool) (s : State) → Apart s → AllByRecursion (NoStrangers is_one s.resources) (own_lkids is_one s)
own_are_theirs is_one s apart =
    each_weaker (λ lkid. list_any (has_lock_among is_one lkid) s.resources ≡ true) (NoStrangers is_one s.resources)
    (λ lkid held. none_strange is_one s apart lkid held) (own_lkids is_one s)
    (each_passing (λ lkid. list_any (has_lock_among is_one lkid) s.resources) (range_with_len 1 (s.next_lkid - 1)))

-- a row of a lock of another process is a stranger's
anothers : (is_one : ℕ → Bool) (pid lkid : ℕ) → is_one pid ≡ false → (row : LockState) → locks pid lkid row ≤ strangers is_one lkid row
anothers is_one pid lkid differs row =
    elim (eqb_tells row.pid pid) [
      | inl same ↦ rw (same.0, ap is_one same.1 ∙ differs) (of_tests (row.lkid == lkid))
      | inr other ↦ rw (other.0) (of_none (row.lkid == lkid) (not (is_one row.pid)))
    ]
  where
    of_tests : (a : Bool) → cond (a && true) 1 0 ≤ cond (a && true) 1 0
    of_tests a = omega arith

    of_none : (a b : Bool) → cond (a && false) 1 0 ≤ cond (a && b) 1 0
    of_none true true = omega arith
    of_none true false = omega arith
    of_none false b = omega arith

pub all_anothers : (is_one : ℕ → Bool) (pid lkid : ℕ) → is_one pid ≡ false → (rows : List LockState)
    → sum_by (locks pid lkid) rows ≤ sum_by (strangers is_one lkid) rows
all_anothers is_one pid lkid differs [] = omega arith
all_anothers is_one pid lkid differs (row ∷ rows) =
    omega (
      arith,
      anothers is_one pid lkid differs row,
      all_anothers is_one pid lkid differs rows,
      sum_by-cons (locks pid lkid) row rows,
      sum_by-cons (strangers is_one lkid) row rows,
    )

-- ---- whose requests end

-- the ended request is of one of the processes
abbrev pub IsTheirs : (ℕ → Bool) → Ending → Type 0
IsTheirs is_one ending = is_one ending.pid ≡ true

-- the requests of rows of which none is a stranger's are of the processes
ends_of : (is_one : ℕ → Bool) (lkid : ℕ) (how : How) (rows : List LockState) → sum_by (strangers is_one lkid) rows ≡ 0
    → AllByRecursion (IsTheirs is_one) (queue_endings how lkid rows)
ends_of is_one lkid how [] nothing = tt
ends_of is_one lkid how (row ∷ rows) nothing =
    of_tests (row.lkid == lkid) refl (is_one row.pid) refl (ends_of is_one lkid how rows (omega (arith, nothing, sum_by-cons (strangers is_one lkid) row rows)))
  where
    here : (want : Option Request) → is_one row.pid ≡ true → AllByRecursion (IsTheirs is_one) (wanted_endings how false row.lkid row.pid want)
    here None is = tt
    here (Some request) is = (is, tt)

    of_tests : (a : Bool) → (row.lkid == lkid) ≡ a → (b : Bool) → is_one row.pid ≡ b
        → AllByRecursion (IsTheirs is_one) (queue_endings how lkid rows)
        → AllByRecursion (IsTheirs is_one) (flat_map (row_endings how false) (cond a (row ∷ rows_of lkid rows) (rows_of lkid rows)))
    of_tests false other b is later = later
    of_tests true same true is later =
        each_append (IsTheirs is_one) (row_endings how false row) (queue_endings how lkid rows) (here row.want is) later
    of_tests true same false is later =
        let one : strangers is_one lkid row ≡ 1 = rw (same, is) refl in
        absurd (omega (arith, nothing, one, sum_by-cons (strangers is_one lkid) row rows))

all_ends_of : (is_one : ℕ → Bool) (w : Withdrawal) (resources : List Resource) → NoStrangers is_one resources w.lkid
    → AllByRecursion (IsTheirs is_one) (flat_map (withdrawal_endings w) resources)
all_ends_of is_one w [] nothing = tt
all_ends_of is_one w (r ∷ rest) nothing =
    let both = sum_by-cons (weigh (strangers is_one w.lkid)) r rest in
    each_append (IsTheirs is_one) (withdrawal_endings w r) (flat_map (withdrawal_endings w) rest)
    (each_append (IsTheirs is_one) (queue_endings w.converting w.lkid r.converting) (queue_endings w.waiting w.lkid r.waiting)
    (ends_of is_one w.lkid w.converting r.converting (omega (arith, nothing, both)))
    (ends_of is_one w.lkid w.waiting r.waiting (omega (arith, nothing, both))))
    (all_ends_of is_one w rest (omega (arith, nothing, both)))

-- the requests that end as locks are withdrawn that are no strangers'
pub withdrawn_are_theirs : (is_one : ℕ → Bool) (withdrawals : List Withdrawal) (resources : List Resource)
    → AllByRecursion (λ w. NoStrangers is_one resources w.lkid) withdrawals → AllByRecursion (IsTheirs is_one) (withdrawn_endings withdrawals resources)
withdrawn_are_theirs is_one withdrawals resources nothing =
    each_end (IsTheirs is_one) withdrawals resources
    (each_weaker (λ w. NoStrangers is_one resources w.lkid) (λ w. AllByRecursion (IsTheirs is_one) (flat_map (withdrawal_endings w) resources))
    (λ w none. all_ends_of is_one w resources none) withdrawals nothing)

-- the locks that go as processes end are these processes'
pub rundowns_are_theirs : (is_one : ℕ → Bool) (s : State) → Apart s → AllByRecursion (λ w. NoStrangers is_one s.resources w.lkid) (rundowns is_one s)
rundowns_are_theirs is_one s apart =
    each_map (NoStrangers is_one s.resources) (λ w. NoStrangers is_one s.resources w.lkid) rundown_of (λ lkid none. none) (own_lkids is_one s)
    (own_are_theirs is_one s apart)

-- and the requests that end are
pub rundown_ends_are_theirs : (is_one : ℕ → Bool) (s : State) → Apart s → AllByRecursion (IsTheirs is_one) (rundown_endings is_one s)
rundown_ends_are_theirs is_one s apart = withdrawn_are_theirs is_one (rundowns is_one s) s.resources (rundowns_are_theirs is_one s apart)

-- ---- how many locks a process has

-- 1 for a row of a lock of the process
abbrev pub owned : ℕ → LockState → ℕ
owned pid row = cond (row.pid == pid) 1 0

-- how many locks the process has
abbrev pub owning : ℕ → List Resource → ℕ
owning pid resources = sum_by (weigh (owned pid)) resources

-- a row is counted by its process
pub owned_named : (pid : ℕ) → IsByName (owned pid)
owned_named pid row held want armed = refl
