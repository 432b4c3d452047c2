-- The value block of a resource after locks on it were given up together.
use Rattle.std.proofs.Common.{◌≡◌, ℕ, Bool, true, false, not, List, [], ◌∷◌, ◌++◌, map, cond, None, refl, sym, subst, ap, ◌∙◌, inl, inr, arith}
use Rattle.std.specs.Prelude.{◌==◌, ◌&&◌, ◌||◌, Any}
use Rattle.std.specs.List.{AllByRecursion, list_any, sum_by}
use Rattle.std.proofs.lemmas.Bool.{cond_both, eq-eqb, eqb-true, or_cases, or_right}
use Rattle.std.proofs.lemmas.List.Folds.{list_any-append}
use Rattle.std.proofs.lemmas.List.Sums.{sum_by-cons}
use Rattle.vlm_words.specs.declared.locks.LockState.{LockState}
use Rattle.vlm_words.specs.declared.resources.ValueBlock.{ValueBlock}
use Rattle.vlm_words.specs.State.{Resource, State}
use Rattle.vlm_model.specs.OwnLocks.{has_lock_among, is_lock_among, own_lkids}
use Rattle.vlm_model.specs.Withdrawals.{Withdrawal, is_held_by_writer, resource_after_each, resource_after_writer, value_block_after_writer}
use Rattle.vlm_model.specs.Writers.{HasWriterOf, IsHeldByWriter, IsWriter, LeavesValue}
use Rattle.vlm_model.proofs.IdsApart.{Apart}
use Rattle.vlm_model.proofs.Each.{Any-cases, Any-here, Any-none, Any-there, Any-weaker, each_append}
use Rattle.vlm_model.proofs.EndedLocks.{row_found, row_listed}
use Rattle.vlm_model.proofs.Weights.{weigh}
use Rattle.vlm_model.proofs.WhoseLocks.{NoStrangers, own_are_theirs, strangers}

-- ---- some of a list

-- what is so of some element, whichever, is so
pub any_so : {X : Type 0} (C : Type 0) (xs : List X) → Any (λ x. C) xs → C
any_so C [] some = absurd (Any-none (λ x. C) some)
any_so C (x ∷ xs) some = elim (Any-cases (λ y. C) x xs some) [
  | inl here ↦ here
  | inr later ↦ any_so C xs later
]

-- some element, which is one of the list
pub any_with_member : {X : Type 0} (P : X → Type 0) (xs : List X) → Any P xs → Any (λ x. P x × Any (λ y. x ≡ y) xs) xs
any_with_member P [] some = absurd (Any-none P some)
any_with_member P (x ∷ xs) some = elim (Any-cases P x xs some) [
  | inl here ↦ Any-here (λ z. P z × Any (λ y. z ≡ y) (x ∷ xs)) x xs (here, Any-here (λ y. x ≡ y) x xs refl)
  | inr later ↦
      Any-there (λ z. P z × Any (λ y. z ≡ y) (x ∷ xs)) x xs
      (Any-weaker (λ z. P z × Any (λ y. z ≡ y) xs) (λ z. P z × Any (λ y. z ≡ y) (x ∷ xs))
      (λ z so. (so.0, Any-there (λ y. z ≡ y) x xs so.1)) xs (any_with_member P xs later))
]

-- some element, of which too is so what is of all
pub any_and_each : {X : Type 0} (P Q : X → Type 0) (xs : List X) → AllByRecursion Q xs → Any P xs → Any (λ x. P x × Q x) xs
any_and_each P Q [] each some = absurd (Any-none P some)
any_and_each P Q (x ∷ xs) each some = elim (Any-cases P x xs some) [
  | inl here ↦ Any-here (λ z. P z × Q z) x xs (here, each.0)
  | inr later ↦ Any-there (λ z. P z × Q z) x xs (any_and_each P Q xs each.1 later)
]

-- what passes a test is found by it
any_by : (test : ℕ → Bool) (m : ℕ) → test m ≡ true → (xs : List ℕ) → list_any (λ n. m == n) xs ≡ true → list_any test xs ≡ true
any_by test m passes [] there = cc
any_by test m passes (x ∷ xs) there = elim (or_cases (m == x) (list_any (λ n. m == n) xs) there) [
  | inl here ↦ (let so : test x ≡ true = sym (ap test (eqb-true m x here)) ∙ passes in rw so refl)
  | inr later ↦ or_right (test x) (list_any test xs) (any_by test m passes xs later)
]

-- ---- the value block

-- a withdrawal without a value, which marks the value block or not
abbrev pub IsPlain : Bool → Withdrawal → Type 0
IsPlain invalidates w = (w.value ≡ None) × (w.invalidates ≡ invalidates)

one_leaves : (invalidates : Bool) (w : Withdrawal) → IsPlain invalidates w → (block : ValueBlock)
    → LeavesValue None None invalidates block (value_block_after_writer w block)
one_leaves true w plain block = record {
  value = rw (plain.0, plain.1) refl;
  valid = rw (plain.0, plain.1) refl;
  tail = rw (plain.0, plain.1) refl;
  tail_valid = rw (plain.0, plain.1) refl;
}
one_leaves false w plain block = rw (plain.0, plain.1) refl

leave_both : (invalidates : Bool) (a b c : ValueBlock) → LeavesValue None None invalidates a b
    → LeavesValue None None invalidates b c → LeavesValue None None invalidates a c
leave_both true a b c first second = record {
  value = second.value ∙ first.value;
  valid = second.valid;
  tail = second.tail ∙ first.tail;
  tail_valid = second.tail_valid;
}
leave_both false a b c first second = second ∙ first

-- what a lock leaves does not change who holds what
writer_still : (w v : Withdrawal) (r : Resource) → is_held_by_writer v.lkid (resource_after_writer w r) ≡ is_held_by_writer v.lkid r
writer_still w v r =
    cond_both (is_held_by_writer w.lkid r) (record r { value_block = value_block_after_writer w r.value_block }) r
    (λ left. is_held_by_writer v.lkid left ≡ is_held_by_writer v.lkid r) (λ _. refl) (λ _. refl)

writers_still : (w : Withdrawal) (withdrawals : List Withdrawal) (r : Resource)
    → list_any (λ v. is_held_by_writer v.lkid (resource_after_writer w r)) withdrawals ≡ list_any (λ v. is_held_by_writer v.lkid r) withdrawals
writers_still w [] r = refl
writers_still w (v ∷ withdrawals) r = rw (writer_still w v r, writers_still w withdrawals r) refl

-- what several locks leave in the value block: what one of them leaves, if one is held by a writer, or else what was there
pub record LeftTogether (invalidates : Bool) (withdrawals : List Withdrawal) (r : Resource) : Type 0 where
  pub written : list_any (λ w. is_held_by_writer w.lkid r) withdrawals ≡ true
      → LeavesValue None None invalidates r.value_block (resource_after_each resource_after_writer withdrawals r).value_block
  pub kept : list_any (λ w. is_held_by_writer w.lkid r) withdrawals ≡ false
      → (resource_after_each resource_after_writer withdrawals r).value_block ≡ r.value_block

pub left_together : (invalidates : Bool) (withdrawals : List Withdrawal) → AllByRecursion (IsPlain invalidates) withdrawals → (r : Resource)
    → LeftTogether invalidates withdrawals r
left_together invalidates [] plain r = record { written = λ none. cc; kept = λ _. refl }
left_together invalidates (w ∷ withdrawals) plain r =
    of_test (is_held_by_writer w.lkid r) refl
    (left_together invalidates withdrawals plain.1
    (record r { value_block = value_block_after_writer w r.value_block }))
    (left_together invalidates withdrawals plain.1 r)
  where
    written_one : Resource
    written_one = record r { value_block = value_block_after_writer w r.value_block }

    after : Bool → ValueBlock
    after b = (resource_after_each resource_after_writer withdrawals (cond b written_one r)).value_block

    of_later : LeftTogether invalidates withdrawals written_one → (b : Bool)
        → list_any (λ v. is_held_by_writer v.lkid r) withdrawals ≡ b → LeavesValue None None invalidates r.value_block (after true)
    of_later behind true is =
        leave_both invalidates r.value_block written_one.value_block (after true) (one_leaves invalidates w plain.0 r.value_block) (behind.written is)
    of_later behind false is =
        subst (LeavesValue None None invalidates r.value_block) (sym (behind.kept is)) (one_leaves invalidates w plain.0 r.value_block)

    of_test : (b : Bool) → is_held_by_writer w.lkid r ≡ b → LeftTogether invalidates withdrawals written_one → LeftTogether invalidates withdrawals r
        → LeftTogether invalidates (w ∷ withdrawals) r
    of_test true is first behind = record {
      written = λ _. subst (λ (b : Bool). LeavesValue None None invalidates r.value_block (after b)) (sym is)
          (of_later first (list_any (λ v. is_held_by_writer v.lkid r) withdrawals) refl);
      kept = λ none. let no : true ≡ false = sym (ap (λ (b : Bool). b || list_any (λ v. is_held_by_writer v.lkid r) withdrawals) is) ∙ none in cc;
    }
    of_test false is first behind = record {
      written = λ some. subst (λ (b : Bool). LeavesValue None None invalidates r.value_block (after b)) (sym is)
          (behind.written (sym (ap (λ (b : Bool). b || list_any (λ v. is_held_by_writer v.lkid r) withdrawals) is) ∙ some));
      kept = λ none. subst (λ (b : Bool). after b ≡ r.value_block) (sym is)
          (behind.kept (sym (ap (λ (b : Bool). b || list_any (λ v. is_held_by_writer v.lkid r) withdrawals) is) ∙ none));
    }

-- the same for the locks of a list
pub lkids_of_writers : (f : ℕ → Withdrawal) → ((lkid : ℕ) → (f lkid).lkid ≡ lkid) → (lkids : List ℕ) (r : Resource)
    → list_any (λ w. is_held_by_writer w.lkid r) (map f lkids) ≡ list_any (λ lkid. is_held_by_writer lkid r) lkids
lkids_of_writers f named [] r = refl
lkids_of_writers f named (lkid ∷ lkids) r = rw (named lkid, lkids_of_writers f named lkids r) refl

-- ---- the locks of processes that end

-- a row of the lock that is no stranger's is theirs
pub no_stranger : (is_one : ℕ → Bool) (lkid : ℕ) (row : LockState) → strangers is_one lkid row ≡ 0 → row.lkid ≡ lkid → is_one row.pid ≡ true
no_stranger is_one lkid row none same = of_tests (row.lkid == lkid) (is_one row.pid) (eq-eqb row.lkid lkid same) none
  where
    of_tests : (a b : Bool) → a ≡ true → cond {A = ℕ} (a && not b) 1 0 ≡ 0 → b ≡ true
    of_tests a true is none = refl
    of_tests true false is none = cc
    of_tests false false is none = cc

module _ (is_one : ℕ → Bool) (s : State) (apart : Apart s) (r : Resource) (among : Any (λ x. r ≡ x) s.resources)
    (holds : (lkid : ℕ) → IsHeldByWriter r lkid → is_held_by_writer lkid r ≡ true)
    (held : (lkid : ℕ) → is_held_by_writer lkid r ≡ true → IsHeldByWriter r lkid) where
  -- the lock of a row that is granted or converts
  row_is_among : (row : LockState) → Any (λ y. row ≡ y) (r.granted ++ r.converting) → is_one row.pid ≡ true → has_lock_among is_one row.lkid r ≡ true
  row_is_among row there theirs =
      first_of (list_any (is_lock_among is_one row.lkid) r.granted || list_any (is_lock_among is_one row.lkid) r.converting)
      (list_any (is_lock_among is_one row.lkid) r.waiting)
      (sym (list_any-append (is_lock_among is_one row.lkid) r.granted r.converting) ∙ row_found is_one s apart row (r.granted ++ r.converting) there theirs)
    where
      first_of : (a b : Bool) → a ≡ true → (a || b) ≡ true
      first_of true b is = refl
      first_of false b is = cc

  -- where one of them is held by a writer, it is found among those that go
  pub writer_found : HasWriterOf (λ owner. is_one owner ≡ true) r → list_any (λ lkid. is_held_by_writer lkid r) (own_lkids is_one s) ≡ true
  writer_found some =
      any_so (list_any (λ lkid. is_held_by_writer lkid r) (own_lkids is_one s) ≡ true) (r.granted ++ r.converting)
      (Any-weaker
      (λ row. ((is_one row.pid ≡ true) × IsWriter row.held) × Any (λ y. row ≡ y) (r.granted ++ r.converting))
      (λ row. list_any (λ lkid. is_held_by_writer lkid r) (own_lkids is_one s) ≡ true)
      (λ row so.
      any_by (λ lkid. is_held_by_writer lkid r) row.lkid
      (holds row.lkid
      (Any-weaker (λ y. row ≡ y) (λ y. (y.lkid ≡ row.lkid) × IsWriter y.held)
      (λ y same. (ap (λ (x : LockState). x.lkid) (sym same), subst (λ (x : LockState). IsWriter x.held) same so.0.1)) (r.granted ++ r.converting) so.1))
      (own_lkids is_one s) (row_listed is_one s apart r among row.lkid (row_is_among row so.1 so.0.0)))
      (r.granted ++ r.converting) (any_with_member (λ row. (is_one row.pid ≡ true) × IsWriter row.held) (r.granted ++ r.converting) some))

  -- no row of the resource is a stranger's
  none_here : (lkid : ℕ) (resources : List Resource) → Any (λ x. r ≡ x) resources → NoStrangers is_one resources lkid → weigh (strangers is_one lkid) r ≡ 0
  none_here lkid [] there none = absurd (Any-none (λ x. r ≡ x) there)
  none_here lkid (x ∷ rest) there none = elim (Any-cases (λ y. r ≡ y) x rest there) [
    | inl same ↦
        (let here : weigh (strangers is_one lkid) x ≡ 0 = omega (arith, none, sum_by-cons (weigh (strangers is_one lkid)) x rest) in
        ap (weigh (strangers is_one lkid)) same ∙ here)
    | inr later ↦ none_here lkid rest later (omega (arith, none, sum_by-cons (weigh (strangers is_one lkid)) x rest))
  ]

  rows_theirs : (lkid : ℕ) (rows : List LockState) → sum_by (strangers is_one lkid) rows ≡ 0
      → AllByRecursion (λ row. row.lkid ≡ lkid → is_one row.pid ≡ true) rows
  rows_theirs lkid [] none = tt
  rows_theirs lkid (row ∷ rows) none = (
    λ same. no_stranger is_one lkid row (omega (arith, none, sum_by-cons (strangers is_one lkid) row rows)) same,
    rows_theirs lkid rows (omega (arith, none, sum_by-cons (strangers is_one lkid) row rows)),
  )

  -- a lock among those that go is one of theirs
  its_writer : (lkid : ℕ) → NoStrangers is_one s.resources lkid → is_held_by_writer lkid r ≡ true → HasWriterOf (λ owner. is_one owner ≡ true) r
  its_writer lkid none by =
      let weight : weigh (strangers is_one lkid) r ≡ 0 = none_here lkid s.resources among none in
      Any-weaker (λ row. ((row.lkid ≡ lkid) × IsWriter row.held) × (row.lkid ≡ lkid → is_one row.pid ≡ true))
      (λ row. (is_one row.pid ≡ true) × IsWriter row.held) (λ row so. (so.1 so.0.0, so.0.1)) (r.granted ++ r.converting)
      (any_and_each (λ row. (row.lkid ≡ lkid) × IsWriter row.held) (λ row. row.lkid ≡ lkid → is_one row.pid ≡ true) (r.granted ++ r.converting)
      (each_append (λ row. row.lkid ≡ lkid → is_one row.pid ≡ true) r.granted r.converting (rows_theirs lkid r.granted (omega (arith, weight)))
      (rows_theirs lkid r.converting (omega (arith, weight)))) (held lkid by))

  among_theirs : (lkids : List ℕ) → AllByRecursion (NoStrangers is_one s.resources) lkids → list_any (λ lkid. is_held_by_writer lkid r) lkids ≡ true
      → HasWriterOf (λ owner. is_one owner ≡ true) r
  among_theirs [] each some = cc
  among_theirs (lkid ∷ lkids) each some = elim (or_cases (is_held_by_writer lkid r) (list_any (λ n. is_held_by_writer n r) lkids) some) [
    | inl here ↦ its_writer lkid each.0 here
    | inr later ↦ among_theirs lkids each.1 later
  ]

  pub writer_of : list_any (λ lkid. is_held_by_writer lkid r) (own_lkids is_one s) ≡ true → HasWriterOf (λ owner. is_one owner ≡ true) r
  writer_of some = among_theirs (own_lkids is_one s) (own_are_theirs is_one s apart) some
