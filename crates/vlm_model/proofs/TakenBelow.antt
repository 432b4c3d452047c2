-- A dequeue with DEQALL takes the locks below the one that it names, or all of its caller, and no other.
use Rattle.std.proofs.Common.{◌≡◌, ◌≢◌, ◌≤◌, ◌+◌, ℕ, Bool, zero, suc, true, false, not, ◌&&◌, ◌||◌, List, [], ◌∷◌, ◌++◌}
use Rattle.std.proofs.Common.{map, filter, cond, Option, None, Some, inl, inr, refl, sym, ap, subst, ◌∙◌, arith}
use Rattle.std.specs.Prelude.{◌==◌, Any, nat_lt}
use Rattle.std.specs.List.{AllByRecursion, AllZip, list_any, sum_by}
use Rattle.std.proofs.lemmas.Bool.{and_parts, eq-eqb, eqb-true, or_cases, or_right}
use Rattle.std.proofs.lemmas.Bool.Decides.{nat_tests}
use Rattle.std.proofs.lemmas.List.Folds.{Any-from_list_any}
use Rattle.std.proofs.lemmas.List.Sums.{sum_by-append, sum_by-cons}
use Rattle.vlm_words.specs.declared.conditions.Cond.TheVariants.{Ivlockid, Normal}
use Rattle.vlm_words.specs.declared.conditions.Cond.{Cond}
use Rattle.vlm_words.specs.declared.locks.LockState.{LockState}
use Rattle.vlm_words.specs.declared.steps.Answer.TheVariants.{Plain}
use Rattle.vlm_words.specs.declared.steps.Dequeue.{Dequeue}
use Rattle.vlm_words.specs.declared.steps.Step.TheVariants.{Deq}
use Rattle.vlm_words.specs.Flags.{deqall, has_flag}
use Rattle.vlm_words.specs.State.{Resource, State}
use Rattle.vlm_model.specs.Checks.{caller_refusal, holds_lock, lock_refusal, or_else, which_refusal}
use Rattle.vlm_model.specs.Dequeue.{cancel_refusal, deq_change, deq_flags_refusal, deq_refusal, dequeue_lkid}
use Rattle.vlm_model.specs.Dequeue.{dequeued_lock_refusal, is_dequeued, leaves_none, sublocks_refusal, withdrawal_of}
use Rattle.vlm_model.specs.OwnLocks.{is_below, own_lkids, parent_of}
use Rattle.vlm_words.specs.Resources.{is_domain}
use Rattle.vlm_words.specs.Rows.{rows_without}
use Rattle.vlm_model.specs.Runs.{History, Run}
use Rattle.vlm_model.specs.Stepped.{refused_or, step_change, stepped}
use Rattle.vlm_model.specs.Withdrawals.{Withdrawal, resource_after_withdrawals}
use Rattle.vlm_model.proofs.Trees.{all_dequeued_go, Tree, tree_always}
use Rattle.vlm_model.proofs.IdsApart.{Apart, apart_always}
use Rattle.vlm_model.proofs.LocksBelow.{HasRoot, IsRowIn, StandsAtMost, at_root, below_up, nothing_is_above_0}
use Rattle.vlm_model.proofs.LocksBelow.{parent_is, parent_of_0, root_of, rows_on, rows_rooted, stands_so, up_at_most}
use Rattle.vlm_model.proofs.GivenUpTrees.{as_listed, converting_on, found_on, granted_on, is_in, of_listed, or_below, own_are_closed, waiting_on, was_listed}
use Rattle.vlm_model.proofs.Each.{Any-cases, Any-none, Any-weaker, each_member, each_weaker}
use Rattle.vlm_model.proofs.Holdings.{held_by}
use Rattle.vlm_model.proofs.Keys.{withdrawals_keep_place}
use Rattle.vlm_model.proofs.EndedLocks.{AllGo, RowsLeft, in_filter, is_listed, row_listed, rows_left, rows_left_behind}
use Rattle.vlm_model.proofs.ReleasedValues.{any_and_each, any_so, any_with_member}
use Rattle.vlm_model.proofs.PassedChecks.{both_pass, flags_go_together, test_passes}
use Rattle.vlm_model.proofs.Reasons.{dequeue_breaks}
use Rattle.vlm_model.proofs.Rooted.{AllRooted, is_parent, is_rooted, is_up, position}
use Rattle.vlm_model.proofs.Weights.{weigh}
use Rattle.vlm_model.proofs.WhoseLocks.{NoStrangers, each_passing, own_are_theirs, strangers}
use Rattle.vlm_model.specs.TakenBelow.{HasParent, IsDescendant, IsDequeued, LosesLocks, LosesRows, TakesThoseBelowAlone}
use Rattle.vlm_model.specs.TakenBelow.{has_parent_below, is_sublock, none_left, row_goes, row_stays}

-- ---- the chain of parents, and the walk along it

-- the row of a lock, where the lock stands
row_at : (s : State) (lkid parent : ℕ) (C : Type 0)
    → ((row : LockState) (r : Resource) → IsRowIn (rows_on r) row → Any (λ x. r ≡ x) s.resources → row.lkid ≡ lkid → row.parent ≡ parent → C)
    → HasParent s lkid parent → C
row_at s lkid parent C so has =
    any_so C s.resources
    (Any-weaker (λ r. Any (λ row. (row.lkid ≡ lkid) × (row.parent ≡ parent)) (rows_on r) × Any (λ x. r ≡ x) s.resources) (λ r. C)
    (λ r on. any_so C (rows_on r)
    (Any-weaker (λ row. ((row.lkid ≡ lkid) × (row.parent ≡ parent)) × IsRowIn (rows_on r) row) (λ row. C)
    (λ row is. so row r is.1 on.1 is.0.0 is.0.1) (rows_on r)
    (any_with_member (λ row. (row.lkid ≡ lkid) × (row.parent ≡ parent)) (rows_on r) on.0)))
    s.resources
    (any_with_member (λ r. Any (λ row. (row.lkid ≡ lkid) × (row.parent ≡ parent)) (rows_on r)) s.resources has))

-- a row tells of its lock and its parent
row_tells : (s : State) (row : LockState) (r : Resource) → IsRowIn (rows_on r) row → Any (λ x. r ≡ x) s.resources → (lkid parent : ℕ)
    → row.lkid ≡ lkid → row.parent ≡ parent → HasParent s lkid parent
row_tells s row r there among lkid parent named above =
    Any-weaker (λ x. r ≡ x) (λ x. Any (λ y. (y.lkid ≡ lkid) × (y.parent ≡ parent)) (rows_on x))
    (λ x same. subst (λ (q : Resource). Any (λ y. (y.lkid ≡ lkid) × (y.parent ≡ parent)) (rows_on q)) same
    (Any-weaker (λ y. row ≡ y) (λ y. (y.lkid ≡ lkid) × (y.parent ≡ parent))
    (λ y is. (ap (λ (z : LockState). z.lkid) (sym is) ∙ named, ap (λ (z : LockState). z.parent) (sym is) ∙ above)) (rows_on r) there))
    s.resources among

-- the parent that a lock has is the one that is found
parent_told : (s : State) → Apart s → (lkid parent : ℕ) → HasParent s lkid parent → parent_of lkid s.resources ≡ parent
parent_told s apart lkid parent has =
    row_at s lkid parent (parent_of lkid s.resources ≡ parent)
    (λ row r there among named above. ap (λ (n : ℕ). parent_of n s.resources) (sym named) ∙ parent_is s apart row r there among ∙ above) has

-- 0 is below no lock
none_below_0 : (s : State) → Apart s → (top : ℕ) → top ≢ 0 → (lkid : ℕ) → lkid ≡ 0 → IsDescendant s top lkid → ⊥
none_below_0 s apart top some lkid none (is_sublock has) =
    some (sym (parent_told s apart lkid top has) ∙ ap (λ (n : ℕ). parent_of n s.resources) none ∙ parent_of_0 s apart)
none_below_0 s apart top some lkid none (has_parent_below {parent} has above) =
    none_below_0 s apart top some parent
    (sym (parent_told s apart lkid parent has) ∙ ap (λ (n : ℕ). parent_of n s.resources) none ∙ parent_of_0 s apart) above

module _ (s : State) (apart : Apart s) (tree : Tree s) where
  -- a lock that the walk finds below another has a chain of parents to it
  chain_of_walk : (top : ℕ) → top ≢ 0 → (levels level lkid : ℕ) → StandsAtMost s.resources level lkid
      → is_below levels top s.resources lkid ≡ true → IsDescendant s top lkid
  chain_of_walk top some zero level lkid standing below = let no : false ≡ true = below in cc
  chain_of_walk top some (suc levels) level lkid standing below =
      stands_so s apart tree.rooted (IsDescendant s top lkid) level lkid
      (λ row r low there among named root.
      of_row row r low there among named (ap (λ (n : ℕ). parent_of n s.resources) (sym named) ∙ parent_is s apart row r there among) root
      (chain_of_walk top some levels level row.parent))
      standing
    where
      of_row : (row : LockState) (r : Resource) → r.level ≤ level → IsRowIn (rows_on r) row → Any (λ x. r ≡ x) s.resources → row.lkid ≡ lkid
          → parent_of lkid s.resources ≡ row.parent → HasRoot s.resources r row
          → (StandsAtMost s.resources level row.parent → is_below levels top s.resources row.parent ≡ true
          → IsDescendant s top row.parent) → IsDescendant s top lkid
      of_row row r low there among named is root higher =
          elim (or_cases (parent_of lkid s.resources == top) (is_below levels top s.resources (parent_of lkid s.resources)) below) [
            | inl here ↦ is_sublock (row_tells s row r there among lkid top named (sym is ∙ eqb-true (parent_of lkid s.resources) top here))
            | inr above ↦ of_root root (subst (λ (n : ℕ). is_below levels top s.resources n ≡ true) is above)
          ]
        where
          of_root : HasRoot s.resources r row → is_below levels top s.resources row.parent ≡ true → IsDescendant s top lkid
          of_root (at_root none) above =
              let nothing : is_below levels top s.resources row.parent ≡ false =
              ap (λ (n : ℕ). is_below levels top s.resources n) none ∙ nothing_is_above_0 s apart top levels some in
              let no : true ≡ false = sym above ∙ nothing in cc
          of_root (below_up up) above =
              has_parent_below (row_tells s row r there among lkid row.parent named refl)
              (higher (up_at_most s.resources r row level (omega (arith, low)) up) above)

  -- the parent of a lock stands one level above it
  parent_at_most : (level lkid parent : ℕ) → parent ≢ 0 → HasParent s lkid parent → StandsAtMost s.resources (suc level) lkid
      → StandsAtMost s.resources level parent
  parent_at_most level lkid parent some has standing =
      stands_so s apart tree.rooted (StandsAtMost s.resources level parent) (suc level) lkid
      (λ row r low there among named root.
      of_root row r low (sym (parent_is s apart row r there among) ∙ ap (λ (n : ℕ). parent_of n s.resources) named ∙ parent_told s apart lkid parent has) root)
      standing
    where
      of_root : (row : LockState) (r : Resource) → r.level ≤ suc level → row.parent ≡ parent → HasRoot s.resources r row → StandsAtMost s.resources level parent
      of_root row r low is (at_root none) = absurd (some (sym is ∙ none))
      of_root row r low is (below_up up) = subst (λ (n : ℕ). StandsAtMost s.resources level n) is (up_at_most s.resources r row level low up)

  -- a lock on a root has no parent
  none_above_root : (lkid parent : ℕ) → parent ≢ 0 → HasParent s lkid parent → StandsAtMost s.resources 0 lkid → ⊥
  none_above_root lkid parent some has standing =
      stands_so s apart tree.rooted ⊥ 0 lkid
      (λ row r low there among named root.
      of_root row r low (sym (parent_is s apart row r there among) ∙ ap (λ (n : ℕ). parent_of n s.resources) named ∙ parent_told s apart lkid parent has) root)
      standing
    where
      of_root : (row : LockState) (r : Resource) → r.level ≤ 0 → row.parent ≡ parent → HasRoot s.resources r row → ⊥
      of_root row r low is (at_root none) = some (sym is ∙ none)
      of_root row r low is (below_up up) =
          any_so ⊥ s.resources
          (Any-weaker (λ x. is_up (position r) row.pid row.parent x ≡ true) (λ x. ⊥)
          (λ x on.
          let parts = and_parts (is_parent (position r) x) (nat_lt 0 (held_by row.pid row.parent x)) on in
          let place = and_parts ((x.serial == r.parent) && is_domain x.domain r.domain) (r.level == x.level + 1) parts.0 in
          absurd (omega (arith, low, eqb-true r.level (x.level + 1) place.1)))
          s.resources (Any-from_list_any (is_up (position r) row.pid row.parent) s.resources up))

  -- a lock that has a chain of parents to another is found below it, by as many steps as it has levels
  walk_of_chain : (top : ℕ) → top ≢ 0 → (lkid : ℕ) → IsDescendant s top lkid → (level : ℕ) → StandsAtMost s.resources level lkid
      → is_below level top s.resources lkid ≡ true
  walk_of_chain top some lkid (is_sublock has) zero standing = absurd (none_above_root lkid top some has standing)
  walk_of_chain top some lkid (is_sublock has) (suc level) standing =
      let here : (parent_of lkid s.resources == top) ≡ true = eq-eqb (parent_of lkid s.resources) top (parent_told s apart lkid top has) in
      rw here refl
  walk_of_chain top some lkid (has_parent_below {parent} has above) zero standing =
      absurd (none_above_root lkid parent (λ none. none_below_0 s apart top some parent none above) has standing)
  walk_of_chain top some lkid (has_parent_below {parent} has above) (suc level) standing =
      or_right (parent_of lkid s.resources == top) (is_below level top s.resources (parent_of lkid s.resources))
      (subst (λ (n : ℕ). is_below level top s.resources n ≡ true) (sym (parent_told s apart lkid parent has))
      (walk_of_chain top some parent above level
      (parent_at_most level lkid parent (λ none. none_below_0 s apart top some parent none above) has standing)))

-- ---- whose the locks are

-- one element weighs no more than all
one_weighs : {X : Type 0} (f : X → ℕ) (x : X) (xs : List X) → Any (λ y. x ≡ y) xs → f x ≤ sum_by f xs
one_weighs f x [] there = absurd (Any-none (λ y. x ≡ y) there)
one_weighs f x (y ∷ xs) there = elim (Any-cases (λ z. x ≡ z) y xs there) [
  | inl same ↦ omega (arith, ap f same, sum_by-cons f y xs)
  | inr later ↦ omega (arith, one_weighs f x xs later, sum_by-cons f y xs)
]

-- a row of a lock of which no row is a stranger's is of one of the processes
is_theirs : (is_one : ℕ → Bool) (s : State) (row : LockState) (r : Resource) → IsRowIn (rows_on r) row → Any (λ x. r ≡ x) s.resources
    → NoStrangers is_one s.resources row.lkid → is_one row.pid ≡ true
is_theirs is_one s row r there among none = of_test (is_one row.pid) refl
  where
    f : LockState → ℕ
    f = strangers is_one row.lkid

    of_test : (b : Bool) → is_one row.pid ≡ b → b ≡ true
    of_test true is = refl
    of_test false other =
        let one : strangers is_one row.lkid row ≡ 1 = rw (eq-eqb row.lkid row.lkid refl, other) refl in
        absurd (omega (
          arith,
          one,
          none,
          one_weighs f row (rows_on r) there,
          one_weighs (weigh f) r s.resources among,
          sum_by-append f (r.granted ++ r.converting) r.waiting,
          sum_by-append f r.granted r.converting,
        ))

-- ---- which locks are listed

-- the caller of a dequeue
abbrev pub is_caller : Dequeue → ℕ → Bool
is_caller d pid = pid == d.pid

-- the locks that a dequeue with DEQALL withdraws
abbrev pub taken_lkids : State → Dequeue → List ℕ
taken_lkids s d = filter (is_dequeued s d) (own_lkids (is_caller d) s)

-- a lock that is named, and not 0, is one of the caller's
named_is_own : (s : State) (d : Dequeue) → Apart s → deq_refusal s d ≡ None → dequeue_lkid s d ≢ 0
    → is_in (dequeue_lkid s d) (own_lkids (is_caller d) s) ≡ true
unfolding deq_refusal dequeued_lock_refusal lock_refusal
named_is_own s d apart passed some =
    let lkid : ℕ = dequeue_lkid s d in
    let flags = both_pass (caller_refusal s d.pid) _ passed in
    let which = both_pass (deq_flags_refusal d) _ flags.1 in
    let lock = both_pass (which_refusal s d.pid d.lock) _ which.1 in
    let named = both_pass (dequeued_lock_refusal s d) (or_else (cancel_refusal s d) (sublocks_refusal s (leaves_none d) lkid)) lock.1 in
    is_listed (is_caller d) s apart lkid
    (test_passes (list_any (holds_lock d.pid lkid) s.resources) Ivlockid
    (subst (λ (b : Bool). cond b None (cond (list_any (holds_lock d.pid lkid) s.resources) None (Some Ivlockid)) ≡ None)
    (of_flag (has_flag d.flags deqall)) named.0))
  where
    of_flag : (all : Bool) → (all && (dequeue_lkid s d == 0)) ≡ false
    of_flag true = grind (arith, nat_tests, some)
    of_flag false = refl

module _ (s : State) (d : Dequeue) (apart : Apart s) (tree : Tree s) (passed : deq_refusal s d ≡ None) where
  -- where the lock of a row stands
  low_at : (row : LockState) (r : Resource) → IsRowIn (rows_on r) row → Any (λ x. r ≡ x) s.resources → StandsAtMost s.resources 15 row.lkid
  low_at row r there among =
      Any-weaker (λ x. (r ≡ x) × (x.level ≤ 15)) (λ x. (x.level ≤ 15) × Any (λ y. y.lkid ≡ row.lkid) (rows_on x))
      (λ x on. (
        on.1,
        subst (λ (q : Resource). Any (λ y. y.lkid ≡ row.lkid) (rows_on q)) on.0
            (Any-weaker (λ y. row ≡ y) (λ y. y.lkid ≡ row.lkid) (λ y same. ap (λ (z : LockState). z.lkid) (sym same)) (rows_on r) there),
      ))
      s.resources (any_and_each (λ x. r ≡ x) (λ x. x.level ≤ 15) s.resources tree.low among)

  -- the resource has its level and its rows their parents
  root_at : (row : LockState) (r : Resource) → IsRowIn (rows_on r) row → Any (λ x. r ≡ x) s.resources → HasRoot s.resources r row × (r.level ≤ 15)
  root_at row r there among =
      any_so (HasRoot s.resources r row × (r.level ≤ 15)) s.resources
      (Any-weaker (λ x. ((r ≡ x) × (x.level ≤ 15)) × AllRooted s.resources x) (λ x. HasRoot s.resources r row × (r.level ≤ 15))
      (λ x on. (
        any_so (HasRoot s.resources r row) (rows_on r)
            (Any-weaker (λ y. (row ≡ y) × (is_rooted s.resources (position r) y ≡ true)) (λ y. HasRoot s.resources r row)
            (λ y so. root_of s.resources r row (subst (λ (z : LockState). is_rooted s.resources (position r) z ≡ true) (sym so.0) so.1)) (rows_on r)
            (any_and_each (λ y. row ≡ y) (λ y. is_rooted s.resources (position r) y ≡ true) (rows_on r)
            (rows_rooted s.resources r (subst (AllRooted s.resources) (sym on.0.0) on.1)) there)),
        subst (λ (q : Resource). q.level ≤ 15) (sym on.0.0) on.0.1,
      ))
      s.resources
      (any_and_each (λ x. (r ≡ x) × (x.level ≤ 15)) (AllRooted s.resources) s.resources tree.rooted
      (any_and_each (λ x. r ≡ x) (λ x. x.level ≤ 15) s.resources tree.low among)))

  -- a lock whose parent lock is one of the caller's is one of the caller's
  with_parent : (lkid parent : ℕ) → HasParent s lkid parent → is_in parent (own_lkids (is_caller d) s) ≡ true
      → is_in lkid (own_lkids (is_caller d) s) ≡ true
  with_parent lkid parent has own =
      row_at s lkid parent (is_in lkid (own_lkids (is_caller d) s) ≡ true)
      (λ row r there among named above.
      let at = root_at row r there among in
      subst (λ (n : ℕ). is_in n (own_lkids (is_caller d) s) ≡ true) named
      (own_are_closed s apart tree.rooted (is_caller d) row r there among at.0 at.1
      (subst (λ (n : ℕ). is_in n (own_lkids (is_caller d) s) ≡ true) (sym above) own)))
      has

  -- and so is each lock below one of the caller's
  below_is_own : (top : ℕ) → is_in top (own_lkids (is_caller d) s) ≡ true → (lkid : ℕ) → IsDescendant s top lkid
      → is_in lkid (own_lkids (is_caller d) s) ≡ true
  below_is_own top own lkid (is_sublock has) = with_parent lkid top has own
  below_is_own top own lkid (has_parent_below {parent} has above) = with_parent lkid parent has (below_is_own top own parent above)

  -- a row of an own lock is the caller's
  own_is_callers : (row : LockState) (r : Resource) → IsRowIn (rows_on r) row → Any (λ x. r ≡ x) s.resources
      → is_in row.lkid (own_lkids (is_caller d) s) ≡ true → row.pid ≡ d.pid
  own_is_callers row r there among own =
      eqb-true row.pid d.pid
      (is_theirs (is_caller d) s row r there among
      (of_listed (NoStrangers (is_caller d) s.resources) row.lkid (own_lkids (is_caller d) s) (own_are_theirs (is_caller d) s apart) own))

  -- a lock that is listed is taken, and the caller's
  listed_is_taken : (row : LockState) (r : Resource) → IsRowIn (rows_on r) row → Any (λ x. r ≡ x) s.resources
      → is_in row.lkid (taken_lkids s d) ≡ true → IsDequeued s d row × (row.pid ≡ d.pid)
  listed_is_taken row r there among listed = (of_top (dequeue_lkid s d) refl takes, callers)
    where
      callers : row.pid ≡ d.pid
      callers = own_is_callers row r there among (was_listed (is_dequeued s d) row.lkid (own_lkids (is_caller d) s) listed)

      takes : is_dequeued s d row.lkid ≡ true
      takes =
          of_listed (λ n. is_dequeued s d n ≡ true) row.lkid (taken_lkids s d) (each_passing (is_dequeued s d) (own_lkids (is_caller d) s)) listed

      of_top : (top : ℕ) → dequeue_lkid s d ≡ top → ((top == 0) || is_below 15 top s.resources row.lkid) ≡ true → IsDequeued s d row
      of_top zero is taken = inl (is, callers)
      of_top (suc n) is taken =
          inr (
            (λ none. absurd (omega (arith, is, none))),
            subst (λ (top : ℕ). IsDescendant s top row.lkid) (sym is)
                (chain_of_walk s apart tree (suc n) (λ same. absurd (omega (arith, same))) 15 15 row.lkid (low_at row r there among)
                (or_below n (is_below 15 (suc n) s.resources row.lkid) taken)),
          )

  -- and one that is taken is listed
  taken_is_listed : (row : LockState) (r : Resource) → IsRowIn (rows_on r) row → Any (λ x. r ≡ x) s.resources
      → IsDequeued s d row → is_in row.lkid (taken_lkids s d) ≡ true
  taken_is_listed row r there among (inl all) =
      in_filter (is_dequeued s d) row.lkid takes (own_lkids (is_caller d) s)
      (row_listed (is_caller d) s apart r among row.lkid
      (found_on s apart tree.rooted (is_caller d) row r there (eq-eqb row.pid d.pid all.1)))
    where
      takes : is_dequeued s d row.lkid ≡ true
      takes = rw (eq-eqb (dequeue_lkid s d) 0 all.0) refl
  taken_is_listed row r there among (inr below) =
      in_filter (is_dequeued s d) row.lkid takes (own_lkids (is_caller d) s)
      (below_is_own (dequeue_lkid s d) (named_is_own s d apart passed below.0) row.lkid below.1)
    where
      takes : is_dequeued s d row.lkid ≡ true
      takes =
          or_right (dequeue_lkid s d == 0) (is_below 15 (dequeue_lkid s d) s.resources row.lkid)
          (walk_of_chain s apart tree (dequeue_lkid s d) below.0 row.lkid below.1 15 (low_at row r there among))

-- ---- the rows that are left

-- the lock is among those that are withdrawn
abbrev is_withdrawn : List Withdrawal → LockState → Bool
is_withdrawn withdrawals row = list_any (λ w. row.lkid == w.lkid) withdrawals

none_of_none : (withdrawals : List Withdrawal) → rows_left withdrawals [] ≡ []
none_of_none [] = refl
none_of_none (w ∷ withdrawals) = none_of_none withdrawals

-- a row whose lock is withdrawn is not left
one_goes : (withdrawals : List Withdrawal) (row : LockState) (rows : List LockState) → is_withdrawn withdrawals row ≡ true
    → rows_left withdrawals (row ∷ rows) ≡ rows_left withdrawals rows
one_goes [] row rows is = let no : false ≡ true = is in cc
one_goes (w ∷ withdrawals) row rows is =
    of_test (row.lkid == w.lkid) is (one_goes withdrawals row (rows_without w.lkid rows))
  where
    of_test : (b : Bool) → (b || is_withdrawn withdrawals row) ≡ true
        → (is_withdrawn withdrawals row ≡ true → rows_left withdrawals (row ∷ rows_without w.lkid rows) ≡ rows_left withdrawals (rows_without w.lkid rows))
        → rows_left withdrawals (cond (not b) (row ∷ rows_without w.lkid rows) (rows_without w.lkid rows)) ≡ rows_left withdrawals (rows_without w.lkid rows)
    of_test true here later = refl
    of_test false here later = later here

-- and any other is, where it stood
one_stays : (withdrawals : List Withdrawal) (row : LockState) (rows : List LockState) → is_withdrawn withdrawals row ≡ false
    → rows_left withdrawals (row ∷ rows) ≡ row ∷ rows_left withdrawals rows
one_stays [] row rows is = refl
one_stays (w ∷ withdrawals) row rows is =
    of_test (row.lkid == w.lkid) is (one_stays withdrawals row (rows_without w.lkid rows))
  where
    of_test : (b : Bool) → (b || is_withdrawn withdrawals row) ≡ false
        → (is_withdrawn withdrawals row ≡ false
        → rows_left withdrawals (row ∷ rows_without w.lkid rows) ≡ row ∷ rows_left withdrawals
        (rows_without w.lkid rows))
        → rows_left withdrawals
        (cond (not b) (row ∷ rows_without w.lkid rows) (rows_without w.lkid rows)) ≡ row ∷ rows_left withdrawals
        (rows_without w.lkid rows)
    of_test true none later = cc
    of_test false none later = later none

-- a withdrawn lock is taken, and the caller's, and one that is taken is withdrawn
abbrev IsTakenRightly : State → Dequeue → List Withdrawal → LockState → Type 0
IsTakenRightly s d withdrawals row =
    (is_withdrawn withdrawals row ≡ true → IsDequeued s d row × (row.pid ≡ d.pid)) × (IsDequeued s d row → is_withdrawn withdrawals row ≡ true)

queue_loses : (s : State) (d : Dequeue) (withdrawals : List Withdrawal) (rows : List LockState) → AllByRecursion (IsTakenRightly s d withdrawals) rows
    → LosesRows d.pid (IsDequeued s d) rows (rows_left withdrawals rows)
queue_loses s d withdrawals [] each = subst (λ (left : List LockState). LosesRows d.pid (IsDequeued s d) [] left) (sym (none_of_none withdrawals)) none_left
queue_loses s d withdrawals (row ∷ rows) each = of_test (is_withdrawn withdrawals row) refl (queue_loses s d withdrawals rows each.1)
  where
    of_test : (b : Bool) → is_withdrawn withdrawals row ≡ b → LosesRows d.pid (IsDequeued s d) rows (rows_left withdrawals rows)
        → LosesRows d.pid (IsDequeued s d) (row ∷ rows) (rows_left withdrawals (row ∷ rows))
    of_test true is behind =
        let taken = each.0.0 is in
        subst (λ (left : List LockState). LosesRows d.pid (IsDequeued s d) (row ∷ rows) left)
        (sym (one_goes withdrawals row rows is)) (row_goes taken.0 taken.1 behind)
    of_test false is behind =
        subst (λ (left : List LockState). LosesRows d.pid (IsDequeued s d) (row ∷ rows) left) (sym (one_stays withdrawals row rows is))
        (row_stays (λ taken. let no : false ≡ true = sym is ∙ each.0.1 taken in cc) behind)

module _ (s : State) (d : Dequeue) (apart : Apart s) (tree : Tree s) (passed : deq_refusal s d ≡ None) where
  -- of each row of the resource it is so
  rows_rightly : (r : Resource) → Any (λ x. r ≡ x) s.resources → (rows : List LockState) → AllByRecursion (IsRowIn (rows_on r)) rows
      → AllByRecursion (IsTakenRightly s d (map (withdrawal_of d) (taken_lkids s d))) rows
  rows_rightly r among rows each =
      each_weaker (IsRowIn (rows_on r)) (IsTakenRightly s d (map (withdrawal_of d) (taken_lkids s d)))
      (λ row there. (
        λ withdrawn. listed_is_taken s d apart tree passed row r there among
            (sym (as_listed (withdrawal_of d) (λ lkid. refl) row.lkid (taken_lkids s d)) ∙ withdrawn),
        λ taken. as_listed (withdrawal_of d) (λ lkid. refl) row.lkid (taken_lkids s d)
            ∙ taken_is_listed s d apart tree passed row r there among taken,
      )) rows each

  -- so each resource loses those that are taken
  resource_loses : AllGo (map (withdrawal_of d) (taken_lkids s d)) → (r : Resource) → Any (λ x. r ≡ x) s.resources
      → LosesLocks d.pid (IsDequeued s d) r (resource_after_withdrawals (map (withdrawal_of d) (taken_lkids s d)) r)
  resource_loses go r among =
      let withdrawals : List Withdrawal = map (withdrawal_of d) (taken_lkids s d) in
      let left : RowsLeft withdrawals r (resource_after_withdrawals withdrawals r) = rows_left_behind withdrawals go r in
      record {
        same = withdrawals_keep_place withdrawals r;
        granted = subst (λ (rows : List LockState). LosesRows d.pid (IsDequeued s d) r.granted rows) (sym left.granted)
            (queue_loses s d withdrawals r.granted (rows_rightly r among r.granted (granted_on r)));
        converting = subst (λ (rows : List LockState). LosesRows d.pid (IsDequeued s d) r.converting rows) (sym left.converting)
            (queue_loses s d withdrawals r.converting (rows_rightly r among r.converting (converting_on r)));
        waiting = subst (λ (rows : List LockState). LosesRows d.pid (IsDequeued s d) r.waiting rows) (sym left.waiting)
            (queue_loses s d withdrawals r.waiting (rows_rightly r among r.waiting (waiting_on r)));
      }

  each_loses : AllGo (map (withdrawal_of d) (taken_lkids s d)) → (resources : List Resource) → AllByRecursion (λ r. Any (λ x. r ≡ x) s.resources) resources
      → AllZip (LosesLocks d.pid (IsDequeued s d)) resources (map (resource_after_withdrawals (map (withdrawal_of d) (taken_lkids s d))) resources)
  each_loses go [] among = tt
  each_loses go (r ∷ rest) among = (resource_loses go r among.0, each_loses go rest among.1)

  takes_those : has_flag d.flags deqall ≡ true → (choice : Option LockState) → TakesThoseBelowAlone s d choice
  unfolding deq_change
  takes_those all choice =
      subst (λ (b : Bool). AllZip (LosesLocks d.pid (IsDequeued s d)) s.resources
      (map (resource_after_withdrawals (map (withdrawal_of d) (cond b (taken_lkids s d) (dequeue_lkid s d ∷ [])))) s.resources)) (sym all)
      (each_loses (all_dequeued_go d (flags_go_together s d passed all) (taken_lkids s d)) s.resources (each_member s.resources))

-- ---- every run

-- no refusal is NORMAL
none_is_normal : (s : State) (d : Dequeue) → deq_refusal s d ≡ Some Normal → ⊥
none_is_normal s d is = dequeue_breaks s d Normal is

pub normal_passes : (s : State) (d : Dequeue) (choice : Option LockState) → (stepped s (Deq d) choice).answer ≡ Plain Normal → deq_refusal s d ≡ None
normal_passes s d choice answered = of_refusal (deq_refusal s d) refl answered
  where
    of_refusal : (refusal : Option Cond) → deq_refusal s d ≡ refusal
        → (refused_or refusal s (step_change s (Deq d) choice)).answer ≡ Plain Normal → refusal ≡ None
    of_refusal None is told = refl
    of_refusal (Some refusal) is told =
        let normal : refusal ≡ Normal = cc in
        absurd (none_is_normal s d (is ∙ ap (λ (c : Cond). Some c) normal))

-- after every run a dequeue with DEQALL takes the locks that it is to take, and no other
pub takes_always : (history : History) (old : State) → Run history old → (d : Dequeue) (choice : Option LockState) → has_flag d.flags deqall ≡ true
    → (stepped old (Deq d) choice).answer ≡ Plain Normal → TakesThoseBelowAlone old d choice
takes_always history old run d choice all answered =
    takes_those old d (apart_always history old run) (tree_always history old run) (normal_passes old d choice answered) all choice
