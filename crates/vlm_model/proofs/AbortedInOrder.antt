-- A dequeue with DEQALL aborts the requests of the locks that it takes, by rising ID.
use Rattle.std.proofs.Common.{◌≡◌, ◌≤◌, ◌<◌, ◌+◌, ◌-◌, ℕ, Bool, zero, suc, true, false, List, [], ◌∷◌, ◌++◌, map}
use Rattle.std.proofs.Common.{flat_map, length, cond, Option, None, Some, refl, sym, ap, subst, arith}
use Rattle.std.specs.Prelude.{⊤, ◌==◌, All, AllPairs}
use Rattle.std.specs.List.{AllByRecursion, list_any, range_with_len, sum_by}
use Rattle.std.proofs.lemmas.Bool.{eqb-true}
use Rattle.std.proofs.lemmas.List.{length-append}
use Rattle.std.proofs.lemmas.List.Elements.{All-from_recursion}
use Rattle.std.proofs.lemmas.List.Sums.{sum_by-cons}
use Rattle.vlm_words.specs.declared.conditions.Cond.TheVariants.{Normal}
use Rattle.vlm_words.specs.declared.locks.Request.{Request}
use Rattle.vlm_words.specs.declared.locks.LockState.{LockState}
use Rattle.vlm_words.specs.declared.steps.Answer.TheVariants.{Plain}
use Rattle.vlm_words.specs.declared.steps.Dequeue.{Dequeue}
use Rattle.vlm_words.specs.declared.steps.Step.TheVariants.{Deq}
use Rattle.vlm_words.specs.Flags.{cancel, deqall, has_flag}
use Rattle.vlm_words.specs.State.{Resource, State}
use Rattle.vlm_model.specs.Endings.{Ending, How, row_endings, wanted_endings}
use Rattle.vlm_model.specs.Endings.How.{by_abort}
use Rattle.vlm_model.specs.Dequeue.{conversion_ending, deq_endings, dequeue_lkid, is_dequeued, withdrawal_of}
use Rattle.vlm_model.specs.OwnLocks.{has_lock_among, own_lkids}
use Rattle.vlm_words.specs.Rows.{rows_of}
use Rattle.vlm_model.specs.Runs.{History, Run}
use Rattle.vlm_model.specs.Stepped.{stepped}
use Rattle.vlm_model.specs.Withdrawals.{queue_endings, withdrawal_endings, withdrawn_endings}
use Rattle.vlm_model.proofs.IdsApart.{Apart, apart_always, standing, stands}
use Rattle.vlm_model.proofs.Each.{each_append, each_map, each_so, each_weaker}
use Rattle.vlm_model.proofs.Pairs.{AllPairs-from_recursion, EachPair, each_pair_filter}
use Rattle.vlm_model.proofs.PassedChecks.{flags_go_together}
use Rattle.vlm_model.proofs.Together.{from_on}
use Rattle.vlm_model.proofs.Weights.{weigh}
use Rattle.vlm_model.proofs.Withdrawing.{each_end}
use Rattle.vlm_model.specs.TakenBelow.{AbortsByRisingId}
use Rattle.vlm_model.proofs.TakenBelow.{is_caller, normal_passes, taken_lkids}

-- ---- the end of one lock's request

-- the ending is the abort of this lock's request
abbrev IsAbortOf : ℕ → Ending → Type 0
IsAbortOf lkid ending = (ending.how ≡ by_abort) × (ending.lkid ≡ lkid)

queue_aborts : (lkid : ℕ) (rows : List LockState) → AllByRecursion (IsAbortOf lkid) (queue_endings by_abort lkid rows)
queue_aborts lkid [] = tt
queue_aborts lkid (row ∷ rows) = of_test (row.lkid == lkid) refl (queue_aborts lkid rows)
  where
    of_want : row.lkid ≡ lkid → (want : Option Request) → AllByRecursion (IsAbortOf lkid) (wanted_endings by_abort false row.lkid row.pid want)
    of_want same None = tt
    of_want same (Some request) = ((refl, same), tt)

    of_test : (b : Bool) → (row.lkid == lkid) ≡ b → AllByRecursion (IsAbortOf lkid) (queue_endings by_abort lkid rows)
        → AllByRecursion (IsAbortOf lkid) (flat_map (row_endings by_abort false) (cond b (row ∷ rows_of lkid rows) (rows_of lkid rows)))
    of_test true is behind =
        each_append (IsAbortOf lkid) (row_endings by_abort false row) (queue_endings by_abort lkid rows) (of_want (eqb-true row.lkid lkid is) row.want) behind
    of_test false is behind = behind

all_aborts : (d : Dequeue) → has_flag d.flags cancel ≡ false → (lkid : ℕ) (resources : List Resource)
    → AllByRecursion (IsAbortOf lkid) (flat_map (withdrawal_endings (withdrawal_of d lkid)) resources)
all_aborts d plain lkid [] = tt
all_aborts d plain lkid (r ∷ rest) =
    each_append (IsAbortOf lkid) (withdrawal_endings (withdrawal_of d lkid) r) (flat_map (withdrawal_endings (withdrawal_of d lkid)) rest)
    (each_append (IsAbortOf lkid) (queue_endings (conversion_ending (has_flag d.flags cancel)) lkid r.converting) (queue_endings by_abort lkid r.waiting)
    (subst (λ (b : Bool). AllByRecursion (IsAbortOf lkid) (queue_endings (conversion_ending b) lkid r.converting)) (sym plain) (queue_aborts lkid r.converting))
    (queue_aborts lkid r.waiting))
    (all_aborts d plain lkid rest)

-- a lock has no more of them than rows
queue_ends_once : (how : How) (lkid : ℕ) (rows : List LockState) → length (queue_endings how lkid rows) ≤ sum_by (stands lkid) rows
queue_ends_once how lkid [] = omega arith
queue_ends_once how lkid (row ∷ rows) = of_test (row.lkid == lkid) refl (queue_ends_once how lkid rows)
  where
    one : (want : Option Request) → length (wanted_endings how false row.lkid row.pid want) ≤ 1
    one None = omega arith
    one (Some request) = omega arith

    of_test : (b : Bool) → (row.lkid == lkid) ≡ b → length (queue_endings how lkid rows) ≤ sum_by (stands lkid) rows
        → length (flat_map (row_endings how false) (cond b (row ∷ rows_of lkid rows) (rows_of lkid rows))) ≤ sum_by (stands lkid) (row ∷ rows)
    of_test true is behind =
        let counted : stands lkid row ≡ 1 = ap (λ (b : Bool). cond b 1 0) is in
        omega (
          arith,
          behind,
          counted,
          one row.want,
          length-append (row_endings how false row) (queue_endings how lkid rows),
          sum_by-cons (stands lkid) row rows,
        )
    of_test false is behind = omega (arith, behind, sum_by-cons (stands lkid) row rows)

all_end_once : (d : Dequeue) (lkid : ℕ) (resources : List Resource)
    → length (flat_map (withdrawal_endings (withdrawal_of d lkid)) resources) ≤ standing lkid resources
all_end_once d lkid [] = omega arith
all_end_once d lkid (r ∷ rest) =
    omega (
      arith,
      all_end_once d lkid rest,
      queue_ends_once (conversion_ending (has_flag d.flags cancel)) lkid r.converting,
      queue_ends_once by_abort lkid r.waiting,
      length-append (queue_endings (conversion_ending (has_flag d.flags cancel)) lkid r.converting) (queue_endings by_abort lkid r.waiting),
      length-append (withdrawal_endings (withdrawal_of d lkid) r) (flat_map (withdrawal_endings (withdrawal_of d lkid)) rest),
      sum_by-cons (weigh (stands lkid)) r rest,
    )

-- ---- the ends of all, in their order

-- one list before another
pairs_of_both : {X : Type 0} (R : X → X → Type 0) (xs ys : List X) → EachPair R xs → EachPair R ys → AllByRecursion (λ x. AllByRecursion (R x) ys) xs
    → EachPair R (xs ++ ys)
pairs_of_both R [] ys first second across = second
pairs_of_both R (x ∷ xs) ys first second across =
    (each_append (R x) xs ys first.0 across.0, pairs_of_both R xs ys first.1 second across.1)

-- numbers in order rise
range_rises : (first many : ℕ) → EachPair (λ a b. a < b) (range_with_len first many)
range_rises first zero = tt
range_rises first (suc many) = (
  each_weaker (λ n. first + 1 ≤ n) (λ n. first < n) (λ n above. omega (arith, above)) (range_with_len (first + 1) many) (from_on (first + 1) many),
  range_rises (first + 1) many,
)

-- and so do the locks that are taken
taken_rise : (s : State) (d : Dequeue) → EachPair (λ a b. a < b) (taken_lkids s d)
taken_rise s d =
    each_pair_filter (λ a b. a < b) (is_dequeued s d) (own_lkids (is_caller d) s)
    (each_pair_filter (λ a b. a < b) (λ lkid. list_any (has_lock_among (is_caller d) lkid) s.resources) (range_with_len 1 (s.next_lkid - 1))
    (range_rises 1 (s.next_lkid - 1)))

-- the lock of one stands before that of the other
abbrev IsBefore : Ending → Ending → Type 0
IsBefore a b = a.lkid < b.lkid

-- the ends of the requests of these locks
abbrev ends : State → Dequeue → List ℕ → List Ending
ends s d lkids = withdrawn_endings (map (withdrawal_of d) lkids) s.resources

module _ (s : State) (d : Dequeue) (apart : Apart s) (plain : has_flag d.flags cancel ≡ false) where
  -- what is so of the ends of each lock
  of_each_lock : (P : Ending → Type 0) (Q : ℕ → Type 0) → ((lkid : ℕ) → Q lkid → (ending : Ending) → IsAbortOf lkid ending → P ending)
      → (lkids : List ℕ) → AllByRecursion Q lkids → AllByRecursion P (ends s d lkids)
  of_each_lock P Q so lkids each =
      each_end P (map (withdrawal_of d) lkids) s.resources
      (each_map Q (λ w. AllByRecursion P (flat_map (withdrawal_endings w) s.resources)) (withdrawal_of d)
      (λ lkid of. each_weaker (IsAbortOf lkid) P (so lkid of)
      (flat_map (withdrawal_endings (withdrawal_of d lkid)) s.resources) (all_aborts d plain lkid s.resources))
      lkids each)

  few_pairs : (endings : List Ending) → length endings ≤ 1 → EachPair IsBefore endings
  few_pairs [] few = tt
  few_pairs (a ∷ []) few = (tt, tt)
  few_pairs (a ∷ b ∷ endings) few = absurd (omega (arith, few))

  ends_rise : (lkids : List ℕ) → EachPair (λ a b. a < b) lkids → EachPair IsBefore (ends s d lkids)
  ends_rise [] rises = tt
  ends_rise (lkid ∷ lkids) rises =
      pairs_of_both IsBefore (flat_map (withdrawal_endings (withdrawal_of d lkid)) s.resources) (ends s d lkids)
      (few_pairs (flat_map (withdrawal_endings (withdrawal_of d lkid)) s.resources)
      (omega (arith, all_end_once d lkid s.resources, apart.one_row lkid)))
      (ends_rise lkids rises.1)
      (each_weaker (IsAbortOf lkid) (λ a. AllByRecursion (IsBefore a) (ends s d lkids))
      (λ a abort. each_weaker (λ b. lkid < b.lkid) (IsBefore a) (λ b above. omega (arith, above, abort.1)) (ends s d lkids)
      (of_each_lock (λ b. lkid < b.lkid) (λ n. lkid < n) (λ n above b is. omega (arith, above, is.1)) lkids rises.0))
      (flat_map (withdrawal_endings (withdrawal_of d lkid)) s.resources) (all_aborts d plain lkid s.resources))

-- after every run such a dequeue aborts by rising ID
pub aborts_always : (history : History) (old : State) → Run history old → (d : Dequeue) (choice : Option LockState) → has_flag d.flags deqall ≡ true
    → (stepped old (Deq d) choice).answer ≡ Plain Normal → AbortsByRisingId old d choice
aborts_always history old run d choice all answered =
    let apart : Apart old = apart_always history old run in
    let plain : has_flag d.flags cancel ≡ false = flags_go_together old d (normal_passes old d choice answered) all in
    let taken : ends old d (taken_lkids old d) ≡ deq_endings old d =
    ap (λ (b : Bool). ends old d (cond b (taken_lkids old d) (dequeue_lkid old d ∷ []))) (sym all) in
    record {
      aborts = subst (All (λ ending. ending.how ≡ by_abort)) taken
          (All-from_recursion (λ ending. ending.how ≡ by_abort) (ends old d (taken_lkids old d))
          (of_each_lock old d apart plain (λ ending. ending.how ≡ by_abort) (λ n. ⊤) (λ n _ ending is. is.0) (taken_lkids old d)
          (each_so (λ n. ⊤) (λ n. tt) (taken_lkids old d))));
      rises = subst (AllPairs IsBefore) taken
          (AllPairs-from_recursion IsBefore (ends old d (taken_lkids old d))
          (ends_rise old d apart plain (taken_lkids old d) (taken_rise old d)));
    }
