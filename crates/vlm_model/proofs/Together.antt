-- Withdrawing locks together gives the same state as withdrawing them one after another.
use Rattle.std.proofs.Common.{◌≡◌, ◌≢◌, ◌≤◌, ◌+◌, ◌-◌, ℕ, Bool, zero, suc, true, false, not, List, [], ◌∷◌, ◌++◌, map, cond, refl, sym, ap, ◌∙◌, arith}
use Rattle.std.specs.Prelude.{◌&&◌, ◌||◌, ◌==◌}
use Rattle.std.specs.List.{AllByRecursion, filter, flat_map, list_any, range_with_len}
use Rattle.std.proofs.lemmas.Bool.{cond_both}
use Rattle.std.proofs.lemmas.Bool.Decides.{nat_tests}
use Rattle.vlm_words.specs.declared.locks.LockState.{LockState}
use Rattle.vlm_words.specs.declared.steps.Dequeue.{Dequeue}
use Rattle.vlm_model.specs.Endings.{How, row_endings}
use Rattle.vlm_words.specs.Flags.{deqall, has_flag}
use Rattle.vlm_words.specs.Rows.{rows_of, rows_without}
use Rattle.vlm_words.specs.State.{Resource, State}
use Rattle.vlm_model.specs.Withdrawals.{Withdrawal, has_writer, is_held_by_writer, is_writer, queue_endings}
use Rattle.vlm_model.specs.Withdrawals.{resource_after_cancel, resource_after_each, resource_after_going}
use Rattle.vlm_model.specs.Withdrawals.{resource_after_withdrawals, resource_after_writer, resource_without}
use Rattle.vlm_model.specs.Withdrawals.{row_after_cancel, value_block_after_writer, withdrawal_endings}
use Rattle.vlm_model.specs.Withdrawals.{withdrawn_endings}
use Rattle.vlm_model.specs.OwnLocks.{has_lock_among, own_lkids}
use Rattle.vlm_model.specs.Dequeue.{dequeue_lkid, dequeued_lkids, is_dequeued, withdrawal_of, withdrawals_of}
use Rattle.vlm_model.specs.Rundown.{rundown_of, rundowns}
use Rattle.vlm_model.proofs.Each.{each_weaker}
use Rattle.vlm_model.proofs.Pairs.{EachPair, each_pair_filter}

-- each withdrawal is of a lock of its own
abbrev pub OfOneEach : List Withdrawal → Type 0
OfOneEach withdrawals = EachPair (λ w v. w.lkid ≢ v.lkid) withdrawals

-- ---- one lock goes, and the others stay

-- what holds of rows of another lock alone finds the same where the rows of this lock are gone
other_is_there : (lkid : ℕ) (test : LockState → Bool) → ((row : LockState) → row.lkid ≡ lkid → test row ≡ false) → (rows : List LockState)
    → list_any test (rows_without lkid rows) ≡ list_any test rows
other_is_there lkid test none [] = refl
other_is_there lkid test none (row ∷ rows) = of_test (row.lkid == lkid) refl (other_is_there lkid test none rows)
  where
    of_test : (b : Bool) → (row.lkid == lkid) ≡ b → list_any test (rows_without lkid rows) ≡ list_any test rows
        → list_any test (cond (not b) (row ∷ rows_without lkid rows) (rows_without lkid rows)) ≡ (test row || list_any test rows)
    of_test true is rest =
        let named : row.lkid ≡ lkid = grind (arith, nat_tests, is) in
        rw (none row named) rest
    of_test false is rest = ap (λ (b : Bool). test row || b) rest

-- the rows of another lock
pub other_rows : (lkid other : ℕ) → lkid ≢ other → (rows : List LockState) → rows_of other (rows_without lkid rows) ≡ rows_of other rows
other_rows lkid other apart [] = refl
other_rows lkid other apart (row ∷ rows) = of_test (row.lkid == lkid) refl (other_rows lkid other apart rows)
  where
    of_test : (b : Bool) → (row.lkid == lkid) ≡ b → rows_of other (rows_without lkid rows) ≡ rows_of other rows
        → rows_of other (cond (not b) (row ∷ rows_without lkid rows) (rows_without lkid rows))
        ≡ cond (row.lkid == other) (row ∷ rows_of other rows) (rows_of other rows)
    of_test true is rest =
        let no : (row.lkid == other) ≡ false = grind (arith, nat_tests, is, apart) in
        rw no rest
    of_test false is rest = ap (λ (kept : List LockState). cond (row.lkid == other) (row ∷ kept) kept) rest

-- another lock that may write is there still
other_writer : (lkid other : ℕ) → lkid ≢ other → (rows : List LockState) → has_writer other (rows_without lkid rows) ≡ has_writer other rows
other_writer lkid other apart rows =
    other_is_there lkid (λ row. (row.lkid == other) && is_writer row.held)
    (λ row is. let no : (row.lkid == other) ≡ false = grind (arith, nat_tests, is, apart) in rw no refl) rows

-- and is none of those that are granted again
none_among_cancelled : (lkid other : ℕ) → lkid ≢ other → (granted rows : List LockState)
    → has_writer other (granted ++ map row_after_cancel (rows_of lkid rows)) ≡ has_writer other granted
none_among_cancelled lkid other apart [] [] = refl
none_among_cancelled lkid other apart [] (row ∷ rows) =
    of_test (row.lkid == lkid) refl (none_among_cancelled lkid other apart [] rows)
  where
    of_test : (b : Bool) → (row.lkid == lkid) ≡ b → has_writer other (map row_after_cancel (rows_of lkid rows)) ≡ false
        → has_writer other (map row_after_cancel (cond b (row ∷ rows_of lkid rows) (rows_of lkid rows))) ≡ false
    of_test true is rest =
        let no : (row.lkid == other) ≡ false = grind (arith, nat_tests, is, apart) in
        rw no rest
    of_test false is rest = rest
none_among_cancelled lkid other apart (row ∷ granted) rows =
    ap (λ (b : Bool). (row.lkid == other) && is_writer row.held || b) (none_among_cancelled lkid other apart granted rows)

-- a lock that goes or stays leaves what another holds
going_leaves_writer : (w v : Withdrawal) → w.lkid ≢ v.lkid → (r : Resource)
    → is_held_by_writer v.lkid (resource_after_going w r) ≡ is_held_by_writer v.lkid r
unfolding resource_without resource_after_cancel
going_leaves_writer w v apart r =
    cond_both w.stays (resource_after_cancel w.lkid r) (resource_without w.lkid r)
    (λ left. is_held_by_writer v.lkid left ≡ is_held_by_writer v.lkid r)
    (λ _. rw (none_among_cancelled w.lkid v.lkid apart r.granted r.converting, other_writer w.lkid v.lkid apart r.converting) refl)
    (λ _. rw (other_writer w.lkid v.lkid apart r.granted, other_writer w.lkid v.lkid apart r.converting) refl)

-- what one lock leaves in the value block and that another goes may come in either order
going_before_writing : (w v : Withdrawal) → w.lkid ≢ v.lkid → (r : Resource)
    → resource_after_going w (resource_after_writer v r) ≡ resource_after_writer v (resource_after_going w r)
unfolding resource_without resource_after_cancel
going_before_writing w v apart r = of_test (is_held_by_writer v.lkid r) refl
  where
    written : (q : Resource) → Resource
    written q = record q { value_block = value_block_after_writer v q.value_block }

    goes_written : resource_after_going w (written r) ≡ written (resource_after_going w r)
    goes_written =
        elim w.stays as (λ (b : Bool). cond b (resource_after_cancel w.lkid (written r)) (resource_without w.lkid (written r))
        ≡ written (cond b (resource_after_cancel w.lkid r) (resource_without w.lkid r))) [
          | true ↦ refl
          | false ↦ refl
        ]

    of_test : (b : Bool) → is_held_by_writer v.lkid r ≡ b
        → resource_after_going w (cond b (written r) r) ≡ resource_after_writer v (resource_after_going w r)
    of_test true is = rw (going_leaves_writer w v apart r, is) goes_written
    of_test false is = rw (going_leaves_writer w v apart r, is) refl

going_before_each : (w : Withdrawal) (withdrawals : List Withdrawal) → AllByRecursion (λ v. w.lkid ≢ v.lkid) withdrawals → (r : Resource)
    → resource_after_going w (resource_after_each resource_after_writer withdrawals r)
    ≡ resource_after_each resource_after_writer withdrawals (resource_after_going w r)
going_before_each w [] apart r = refl
going_before_each w (v ∷ withdrawals) apart r =
    going_before_each w withdrawals apart.1 (resource_after_writer v r)
    ∙ ap (resource_after_each resource_after_writer withdrawals) (going_before_writing w v apart.0 r)

-- ---- one after another

-- a resource after withdrawals is the resource after the first of them, and then after the others
pub one_after_another : (w : Withdrawal) (withdrawals : List Withdrawal) → AllByRecursion (λ v. w.lkid ≢ v.lkid) withdrawals → (r : Resource)
    → resource_after_withdrawals (w ∷ withdrawals) r ≡ resource_after_withdrawals withdrawals (resource_after_withdrawals (w ∷ []) r)
one_after_another w withdrawals apart r =
    ap (resource_after_each resource_after_going withdrawals) (going_before_each w withdrawals apart (resource_after_writer w r))

-- the same of all resources
pub all_one_after_another : (w : Withdrawal) (withdrawals : List Withdrawal) → AllByRecursion (λ v. w.lkid ≢ v.lkid) withdrawals
    → (resources : List Resource)
    → map (resource_after_withdrawals (w ∷ withdrawals)) resources
    ≡ map (resource_after_withdrawals withdrawals) (map (resource_after_withdrawals (w ∷ [])) resources)
all_one_after_another w withdrawals apart [] = refl
all_one_after_another w withdrawals apart (r ∷ rest) =
    let here = one_after_another w withdrawals apart r in
    let behind = all_one_after_another w withdrawals apart rest in
    cc

-- the request of another lock ends as it would
queue_ends_same : (how : How) (lkid other : ℕ) → lkid ≢ other → (rows : List LockState)
    → queue_endings how other (rows_without lkid rows) ≡ queue_endings how other rows
queue_ends_same how lkid other apart rows = ap (flat_map (row_endings how false)) (other_rows lkid other apart rows)

ends_after_going : (w v : Withdrawal) → w.lkid ≢ v.lkid → (r : Resource)
    → withdrawal_endings v (resource_after_going w r) ≡ withdrawal_endings v r
unfolding resource_without resource_after_cancel
ends_after_going w v apart r =
    let converting = queue_ends_same v.converting w.lkid v.lkid apart r.converting in
    let waiting = queue_ends_same v.waiting w.lkid v.lkid apart r.waiting in
    cond_both w.stays (resource_after_cancel w.lkid r) (resource_without w.lkid r)
    (λ left. withdrawal_endings v left ≡ withdrawal_endings v r) (λ _. rw (converting, waiting) refl) (λ _. rw (converting, waiting) refl)

ends_same : (w v : Withdrawal) → w.lkid ≢ v.lkid → (r : Resource)
    → withdrawal_endings v (resource_after_withdrawals (w ∷ []) r) ≡ withdrawal_endings v r
ends_same w v apart r =
    cond_both (is_held_by_writer w.lkid r) (record r { value_block = value_block_after_writer w r.value_block }) r
    (λ left. withdrawal_endings v (resource_after_going w left) ≡ withdrawal_endings v r)
    (λ _. ends_after_going w v apart (record r { value_block = value_block_after_writer w r.value_block }))
    (λ _. ends_after_going w v apart r)

all_ends_same : (w v : Withdrawal) → w.lkid ≢ v.lkid → (resources : List Resource)
    → flat_map (withdrawal_endings v) (map (resource_after_withdrawals (w ∷ [])) resources) ≡ flat_map (withdrawal_endings v) resources
all_ends_same w v apart [] = refl
all_ends_same w v apart (r ∷ rest) =
    let here = ends_same w v apart r in
    let behind = all_ends_same w v apart rest in
    cc

-- the requests of other locks end as they would, where one lock has been withdrawn
pub others_end_same : (w : Withdrawal) (withdrawals : List Withdrawal) → AllByRecursion (λ v. w.lkid ≢ v.lkid) withdrawals
    → (resources : List Resource)
    → withdrawn_endings withdrawals (map (resource_after_withdrawals (w ∷ [])) resources) ≡ withdrawn_endings withdrawals resources
others_end_same w [] apart resources = refl
others_end_same w (v ∷ withdrawals) apart resources =
    let here = all_ends_same w v apart.0 resources in
    let behind = others_end_same w withdrawals apart.1 resources in
    cc

-- ---- each lock once

pub from_on : (first many : ℕ) → AllByRecursion (λ n. first ≤ n) (range_with_len first many)
from_on first zero = tt
from_on first (suc many) = (
  omega arith,
  each_weaker (λ n. first + 1 ≤ n) (λ n. first ≤ n) (λ n above. omega (arith, above))
      (range_with_len (first + 1) many) (from_on (first + 1) many),
)

-- numbers in order are apart
pub range_apart : (first many : ℕ) → EachPair (λ a b. a ≢ b) (range_with_len first many)
range_apart first zero = tt
range_apart first (suc many) = (
  each_weaker (λ n. first + 1 ≤ n) (λ n. first ≢ n) (λ n above same. omega (arith, above, same)) (range_with_len (first + 1) many) (from_on (first + 1) many),
  range_apart (first + 1) many,
)

-- withdrawals of locks that are apart
of_each_lkid : (f : ℕ → Withdrawal) → ((lkid : ℕ) → (f lkid).lkid ≡ lkid) → (lkids : List ℕ) → EachPair (λ a b. a ≢ b) lkids
    → OfOneEach (map f lkids)
of_each_lkid f named [] apart = tt
of_each_lkid f named (lkid ∷ lkids) apart = (others lkids apart.0, of_each_lkid f named lkids apart.1)
  where
    others : (rest : List ℕ) → AllByRecursion (λ n. lkid ≢ n) rest → AllByRecursion (λ v. (f lkid).lkid ≢ v.lkid) (map f rest)
    others [] each = tt
    others (n ∷ rest) each = (λ same. each.0 (sym (named lkid) ∙ same ∙ named n), others rest each.1)

own_apart : (is_one : ℕ → Bool) (s : State) → EachPair (λ a b. a ≢ b) (own_lkids is_one s)
own_apart is_one s =
    each_pair_filter (λ a b. a ≢ b) (λ lkid. list_any (has_lock_among is_one lkid) s.resources) (range_with_len 1 (s.next_lkid - 1))
    (range_apart 1 (s.next_lkid - 1))

-- the locks of processes that end
pub rundowns_apart : (is_one : ℕ → Bool) (s : State) → OfOneEach (rundowns is_one s)
rundowns_apart is_one s = of_each_lkid rundown_of (λ lkid. refl) (own_lkids is_one s) (own_apart is_one s)

-- the locks that a dequeue gives up
pub dequeues_apart : (s : State) (d : Dequeue) → OfOneEach (withdrawals_of s d)
dequeues_apart s d =
    of_each_lkid (withdrawal_of d) (λ lkid. refl) (dequeued_lkids s d)
    (cond_both (has_flag d.flags deqall) (filter (is_dequeued s d) (own_lkids (λ pid. pid == d.pid) s)) (dequeue_lkid s d ∷ [])
    (EachPair (λ a b. a ≢ b))
    (λ _. each_pair_filter (λ a b. a ≢ b) (is_dequeued s d) (own_lkids (λ pid. pid == d.pid) s) (own_apart (λ pid. pid == d.pid) s))
    (λ _. (tt, tt)))
