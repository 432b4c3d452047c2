-- Locks that are chosen by their IDs, and walks along their handles.
use Rattle.std.proofs.Common.{◌≡◌, ◌<◌, ℕ, Bool, true, false, List, [], ◌∷◌, ◌++◌, cond, Option, None, Some, refl, sym}
use Rattle.std.proofs.Common.{ap, ◌∙◌, subst, inl, inr, arith, eq-eqb, ne_eqb}
use Rattle.std.specs.Prelude.{◌==◌, ◌||◌}
use Rattle.std.specs.List.{AllByRecursion}
use Rattle.std.proofs.lemmas.Bool.{eqb-true, or_right}
use Rattle.vlm_words.specs.declared.locks.LockState.{LockState}
use Rattle.vlm_collections.specs.Lists.{IsApart, IsIn, first_handle}
use Rattle.vlm_store.specs.Plain.{plain_resources}
use Rattle.vlm_store.specs.Records.{Records}
use Rattle.vlm_locks.specs.declared.joint_withdrawals.Scope.{Scope}
use Rattle.vlm_locks.specs.GivingUp.{AreChosen, Rise, is_chosen}
use Rattle.vlm_locks.specs.Left.{is_among}

-- ---- rising numbers

-- each behind one is above it
pub above : (n m : ℕ) (ns : List ℕ) → AllByRecursion (λ later. n < later) ns → IsIn m ns → n < m
above n m [] all there = absurd there
above n m (x ∷ ns) all there = elim there [
  | inl here ↦ subst (λ k. n < k) here all.0
  | inr later ↦ above n m ns all.1 later
]

-- two rising lists of the same numbers are one
pub same_rising : (xs ys : List ℕ) → Rise xs → Rise ys → ((n : ℕ) → IsIn n xs → IsIn n ys) → ((n : ℕ) → IsIn n ys → IsIn n xs) → xs ≡ ys
same_rising [] [] rise_x rise_y to from = refl
same_rising [] (y ∷ ys) rise_x rise_y to from = absurd (from y (inl refl))
same_rising (x ∷ xs) [] rise_x rise_y to from = absurd (to x (inl refl))
same_rising (x ∷ xs) (y ∷ ys) rise_x rise_y to from =
    let first : x ≡ y = heads (to x (inl refl)) (from y (inl refl)) in
    let rest : xs ≡ ys = same_rising xs ys rise_x.1 rise_y.1 (onward first) (back first) in
    cc
  where
    heads : IsIn x (y ∷ ys) → IsIn y (x ∷ xs) → x ≡ y
    heads there here = elim there [
      | inl same ↦ sym same
      | inr later ↦ elim here [
        | inl same ↦ same
        | inr behind ↦ absurd (omega (arith, above y x ys rise_y.0 later, above x y xs rise_x.0 behind))
      ]
    ]

    onward : x ≡ y → (n : ℕ) → IsIn n xs → IsIn n ys
    onward first n there = elim (to n (inr there)) [
      | inl here ↦ absurd (omega (arith, above x n xs rise_x.0 there, here, first))
      | inr later ↦ later
    ]

    back : x ≡ y → (n : ℕ) → IsIn n ys → IsIn n xs
    back first n there = elim (from n (inr there)) [
      | inl here ↦ absurd (omega (arith, above y n ys rise_y.0 there, here, first))
      | inr later ↦ later
    ]

-- the IDs of the chosen locks are one list
pub one_scope : (scope : Scope) (pid : ℕ) (s : Records) (xs ys : List ℕ) → AreChosen scope pid s xs → AreChosen scope pid s ys → xs ≡ ys
one_scope scope pid s xs ys first second = same_rising xs ys first.rise second.rise (within xs ys first second) (within ys xs second first)
  where
    within : (these those : List ℕ) → AreChosen scope pid s these → AreChosen scope pid s those → (n : ℕ) → IsIn n these → IsIn n those
    within these those a b n there =
        let found = a.each n there in
        subst (λ m. IsIn m those) found.2.1
        (b.all found.0 found.1 found.2.0 found.2.2 (ap (is_chosen scope (plain_resources s)) found.2.1 ∙ found.2.3))

-- ---- whether a lock is listed

pub among_in : (row : LockState) (lkids : List ℕ) → is_among lkids row ≡ true → IsIn row.lkid lkids
among_in row [] is = cc
among_in row (n ∷ lkids) is = of_test (row.lkid == n) refl is (among_in row lkids)
  where
    of_test : (b : Bool) → (row.lkid == n) ≡ b → (b || is_among lkids row) ≡ true
        → (is_among lkids row ≡ true → IsIn row.lkid lkids) → IsIn row.lkid (n ∷ lkids)
    of_test true here some later = inl (sym (eqb-true row.lkid n here))
    of_test false other some later = inr (later some)

pub in_among : (row : LockState) (lkids : List ℕ) → IsIn row.lkid lkids → is_among lkids row ≡ true
in_among row [] there = absurd there
in_among row (n ∷ lkids) there = elim there [
  | inl here ↦ rw (eq-eqb row.lkid n (sym here)) refl
  | inr later ↦ or_right (row.lkid == n) (is_among lkids row) (in_among row lkids later)
]

pub among_push : (row : LockState) (lkids : List ℕ) (last : ℕ) → is_among (lkids ++ last ∷ []) row ≡ (is_among lkids row || (row.lkid == last))
among_push row [] last = or_none (row.lkid == last)
  where
    or_none : (b : Bool) → (b || false) ≡ b
    or_none true = refl
    or_none false = refl
among_push row (n ∷ lkids) last = of_test (row.lkid == n) (among_push row lkids last)
  where
    of_test : (b : Bool) → is_among (lkids ++ last ∷ []) row ≡ (is_among lkids row || (row.lkid == last))
        → (b || is_among (lkids ++ last ∷ []) row) ≡ ((b || is_among lkids row) || (row.lkid == last))
    of_test true same = refl
    of_test false same = same

-- ---- walks

-- the handles from a spot on
abbrev pub on_from : Option ℕ → List ℕ → List ℕ
on_from None handles = []
on_from (Some at) [] = []
on_from (Some at) (x ∷ handles) = cond (x == at) (x ∷ handles) (on_from (Some at) handles)

-- those that a walk on has before it
pub on_from_first : (done left : List ℕ) → IsApart (done ++ left) → on_from (first_handle left) (done ++ left) ≡ left
on_from_first done [] apart = refl
on_from_first [] (at ∷ rest) apart = rw (eq-eqb at at refl) refl
on_from_first (d ∷ done) (at ∷ rest) apart =
    rw (ne_eqb d at (λ same. apart.0 (among_parts done same))) (on_from_first done (at ∷ rest) apart.1)
  where
    among_parts : (ds : List ℕ) → d ≡ at → IsIn d (ds ++ at ∷ rest)
    among_parts [] same = inl (sym same)
    among_parts (x ∷ ds) same = inr (among_parts ds same)

-- a handle that is listed once is not among those before it
pub absent_before : (front : List ℕ) (at : ℕ) (rest : List ℕ) → IsApart (front ++ at ∷ rest) → ¬ IsIn at front
absent_before [] at rest apart there = there
absent_before (x ∷ front) at rest apart there = elim there [
  | inl here ↦ apart.0 (subst (λ h. IsIn h (front ++ at ∷ rest)) (sym here) (listed front))
  | inr later ↦ absent_before front at rest apart.1 later
]
  where
    listed : (xs : List ℕ) → IsIn at (xs ++ at ∷ rest)
    listed [] = inl refl
    listed (y ∷ xs) = inr (listed xs)
