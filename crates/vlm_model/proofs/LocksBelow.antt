-- The locks below a lock: if a parent lock is given up, so is each lock below it.
use Rattle.std.proofs.Common.{◌≡◌, ◌≢◌, ◌≤◌, ◌<◌, ◌+◌, ◌⊎◌, ℕ, Bool, zero, suc, true, false, not, List, [], ◌∷◌, ◌++◌}
use Rattle.std.proofs.Common.{length, cond, Option, Some, refl, sym, subst, ap, ◌∙◌, inl, inr, arith}
use Rattle.std.specs.Prelude.{◌==◌, ◌&&◌, Any, slice_get, nat_lt}
use Rattle.std.specs.List.{AllByRecursion, list_any, sum_by}
use Rattle.std.specs.Option.{option_map_or}
use Rattle.std.proofs.lemmas.Bool.{and_parts, eq-eqb, eqb-true, or_cases, or_right}
use Rattle.std.proofs.lemmas.Bool.Decides.{nat_tests}
use Rattle.std.proofs.lemmas.List.{length-append}
use Rattle.std.proofs.lemmas.List.Sums.{sum_by-cons, sum_by-append}
use Rattle.vlm_words.specs.declared.locks.LockState.{LockState}
use Rattle.vlm_words.specs.State.{Resource, State}
use Rattle.vlm_words.specs.Rows.{rows_of, is_lock_of}
use Rattle.vlm_model.specs.OwnLocks.{all_rows_of, is_below, parent_of}
use Rattle.vlm_model.proofs.IdsApart.{Apart, standing, stands}
use Rattle.vlm_model.proofs.Each.{Any-behind, Any-cases, Any-here, Any-none, Any-there, Any-weaker, any_left, each_weaker}
use Rattle.vlm_model.proofs.Rooted.{AllRooted, is_rooted, is_up, loose, position, is_parent}
use Rattle.vlm_model.proofs.Weights.{weigh}
use Rattle.std.proofs.lemmas.List.Folds.{Any-from_list_any}
use Rattle.vlm_model.proofs.NewlyRooted.{rooted_row}
use Rattle.vlm_model.proofs.Holdings.{held_by, locks}
use Rattle.vlm_model.proofs.ReleasedValues.{any_and_each, any_so, any_with_member}
use Rattle.vlm_words.specs.Resources.{is_domain}

-- ---- the parent of a lock

rows_count : (lkid : ℕ) (rows : List LockState) → length (rows_of lkid rows) ≡ sum_by (stands lkid) rows
rows_count lkid [] = refl
rows_count lkid (row ∷ rows) = of_test (row.lkid == lkid) refl (rows_count lkid rows)
  where
    of_test : (b : Bool) → (row.lkid == lkid) ≡ b → length (rows_of lkid rows) ≡ sum_by (stands lkid) rows
        → length (cond b (row ∷ rows_of lkid rows) (rows_of lkid rows)) ≡ sum_by (stands lkid) (row ∷ rows)
    of_test true is behind =
        let one : stands lkid row ≡ 1 = ap (λ (b : Bool). cond b 1 0) is in omega (arith, behind, one, sum_by-cons (stands lkid) row rows)
    of_test false is behind =
        let none : stands lkid row ≡ 0 = ap (λ (b : Bool). cond b 1 0) is in omega (arith, behind, none, sum_by-cons (stands lkid) row rows)

all_rows_count : (lkid : ℕ) (resources : List Resource) → length (all_rows_of lkid resources) ≡ standing lkid resources
all_rows_count lkid [] = refl
all_rows_count lkid (r ∷ rest) =
    omega (
      arith,
      all_rows_count lkid rest,
      length-append (rows_of lkid r.granted ++ rows_of lkid r.converting ++ rows_of lkid r.waiting) (all_rows_of lkid rest),
      length-append (rows_of lkid r.granted ++ rows_of lkid r.converting) (rows_of lkid r.waiting),
      length-append (rows_of lkid r.granted) (rows_of lkid r.converting),
      rows_count lkid r.granted,
      rows_count lkid r.converting,
      rows_count lkid r.waiting,
      sum_by-cons (weigh (stands lkid)) r rest,
    )

-- the row is one of these
abbrev pub IsRowIn : List LockState → LockState → Type 0
IsRowIn rows row = Any (λ y. row ≡ y) rows

-- all rows of the resource
abbrev pub rows_on : Resource → List LockState
rows_on r = r.granted ++ r.converting ++ r.waiting

among_its_rows : (row : LockState) (rows : List LockState) → IsRowIn rows row → IsRowIn (rows_of row.lkid rows) row
among_its_rows row [] there = there
among_its_rows row (x ∷ rows) there = elim (Any-cases (λ y. row ≡ y) x rows there) [
  | inl same ↦ (let named : (x.lkid == row.lkid) ≡ true = eq-eqb x.lkid row.lkid (ap (λ (y : LockState). y.lkid) (sym same)) in
      rw named (Any-here (λ y. row ≡ y) x (rows_of row.lkid rows) same))
  | inr later ↦ (let behind = among_its_rows row rows later in of_test (x.lkid == row.lkid) behind)
]
  where
    of_test : (b : Bool) → IsRowIn (rows_of row.lkid rows) row → IsRowIn (cond b (x ∷ rows_of row.lkid rows) (rows_of row.lkid rows)) row
    of_test true behind = Any-there (λ y. row ≡ y) x (rows_of row.lkid rows) behind
    of_test false behind = behind

-- some element of two lists is one of the first or of the second
pub either : {X : Type 0} (P : X → Type 0) (xs ys : List X) → Any P (xs ++ ys) → Any P xs ⊎ Any P ys
either P [] ys some = inr some
either P (x ∷ xs) ys some = elim (Any-cases P x (xs ++ ys) some) [
  | inl here ↦ inl (Any-here P x xs here)
  | inr later ↦ elim (either P xs ys later) [
    | inl first ↦ inl (Any-there P x xs first)
    | inr second ↦ inr second
  ]
]

on_its_resource : (row : LockState) (r : Resource) → IsRowIn (rows_on r) row
    → IsRowIn (rows_of row.lkid r.granted ++ rows_of row.lkid r.converting ++ rows_of row.lkid r.waiting) row
on_its_resource row r there = elim (either (λ y. row ≡ y) (r.granted ++ r.converting) r.waiting there) [
  | inl first ↦ any_left (λ y. row ≡ y) (rows_of row.lkid r.granted ++ rows_of row.lkid r.converting) (rows_of row.lkid r.waiting)
      (elim (either (λ y. row ≡ y) r.granted r.converting first) [
        | inl granted ↦ any_left (λ y. row ≡ y) (rows_of row.lkid r.granted) (rows_of row.lkid r.converting) (among_its_rows row r.granted granted)
        | inr converting ↦ Any-behind (λ y. row ≡ y) (rows_of row.lkid r.granted) (rows_of row.lkid r.converting) (among_its_rows row r.converting converting)
      ])
  | inr waiting ↦
      Any-behind (λ y. row ≡ y) (rows_of row.lkid r.granted ++ rows_of row.lkid r.converting)
      (rows_of row.lkid r.waiting) (among_its_rows row r.waiting waiting)
]

among_all_rows : (row : LockState) (r : Resource) → IsRowIn (rows_on r) row → (resources : List Resource) → Any (λ x. r ≡ x) resources
    → IsRowIn (all_rows_of row.lkid resources) row
among_all_rows row r there [] among = absurd (Any-none (λ x. r ≡ x) among)
among_all_rows row r there (x ∷ rest) among = elim (Any-cases (λ y. r ≡ y) x rest among) [
  | inl same ↦
      any_left (λ y. row ≡ y) (rows_of row.lkid x.granted ++ rows_of row.lkid x.converting ++ rows_of row.lkid x.waiting) (all_rows_of row.lkid rest)
      (subst (λ (q : Resource). IsRowIn
      (rows_of row.lkid q.granted ++ rows_of row.lkid q.converting ++ rows_of row.lkid q.waiting) row) same
      (on_its_resource row r there))
  | inr later ↦
      Any-behind (λ y. row ≡ y) (rows_of row.lkid x.granted ++ rows_of row.lkid x.converting ++ rows_of row.lkid x.waiting) (all_rows_of row.lkid rest)
      (among_all_rows row r there rest later)
]

only_one : (row : LockState) (rows : List LockState) → length rows ≤ 1 → IsRowIn rows row → slice_get rows 0 ≡ Some row
only_one row [] few there = absurd (Any-none (λ y. row ≡ y) there)
only_one row (x ∷ []) few there = elim (Any-cases (λ y. row ≡ y) x [] there) [
  | inl same ↦ ap (λ (y : LockState). Some y) (sym same)
  | inr later ↦ absurd (Any-none (λ y. row ≡ y) later)
]
only_one row (x ∷ y ∷ rows) few there = absurd (omega (arith, few))

-- the parent of a lock is that of its row, since it has one
pub parent_is : (s : State) → Apart s → (row : LockState) (r : Resource) → IsRowIn (rows_on r) row → Any (λ x. r ≡ x) s.resources
    → parent_of row.lkid s.resources ≡ row.parent
unfolding parent_of
parent_is s apart row r there among =
    ap (λ (found : Option LockState). option_map_or (λ x. x.parent) found 0)
    (only_one row (all_rows_of row.lkid s.resources) (omega (arith, all_rows_count row.lkid s.resources, apart.one_row row.lkid))
    (among_all_rows row r there s.resources among))

-- what has no row has no parent
pub parent_of_none : (lkid : ℕ) (resources : List Resource) → standing lkid resources ≡ 0 → parent_of lkid resources ≡ 0
unfolding parent_of
parent_of_none lkid resources none = of_rows (all_rows_of lkid resources) (all_rows_count lkid resources ∙ none)
  where
    of_rows : (rows : List LockState) → length rows ≡ 0 → option_map_or (λ (row : LockState). row.parent) (slice_get rows 0) 0 ≡ 0
    of_rows [] none = refl
    of_rows (row ∷ rows) none = absurd (omega (arith, none))

-- 0 is no lock, and has no parent
pub parent_of_0 : (s : State) → Apart s → parent_of 0 s.resources ≡ 0
parent_of_0 s apart = parent_of_none 0 s.resources apart.none_is_0

pub nothing_is_above_0 : (s : State) → Apart s → (top levels : ℕ) → top ≢ 0 → is_below levels top s.resources 0 ≡ false
nothing_is_above_0 s apart top zero some = refl
nothing_is_above_0 s apart top (suc levels) some =
    let no : (0 == top) ≡ false = grind (arith, nat_tests, some) in
    rw (parent_of_0 s apart, no) (nothing_is_above_0 s apart top levels some)

-- ---- rows that have their parents

-- what is held, where it is counted
pub held_there : (pid lkid : ℕ) (rows : List LockState) → 1 ≤ sum_by (locks pid lkid) rows → Any (λ row. (row.lkid ≡ lkid) × (row.pid ≡ pid)) rows
held_there pid lkid [] some = absurd (omega (arith, some))
held_there pid lkid (row ∷ rows) some = of_test (is_lock_of pid lkid row) refl (held_there pid lkid rows)
  where
    of_test : (b : Bool) → is_lock_of pid lkid row ≡ b
        → (1 ≤ sum_by (locks pid lkid) rows → Any (λ (x : LockState). (x.lkid ≡ lkid) × (x.pid ≡ pid)) rows)
        → Any (λ (x : LockState). (x.lkid ≡ lkid) × (x.pid ≡ pid)) (row ∷ rows)
    of_test true is later =
        let parts = and_parts (row.lkid == lkid) (row.pid == pid) is in
        Any-here (λ (x : LockState). (x.lkid ≡ lkid) × (x.pid ≡ pid)) row rows (eqb-true row.lkid lkid parts.0, eqb-true row.pid pid parts.1)
    of_test false is later =
        let none : locks pid lkid row ≡ 0 = ap (λ (b : Bool). cond b 1 0) is in
        Any-there (λ (x : LockState). (x.lkid ≡ lkid) × (x.pid ≡ pid)) row rows
        (later (omega (arith, some, none, sum_by-cons (locks pid lkid) row rows)))

-- the rows of a resource whose weight is 0
pub each_weightless : (f : LockState → ℕ) (rows : List LockState) → sum_by f rows ≡ 0 → AllByRecursion (λ row. f row ≡ 0) rows
each_weightless f [] none = tt
each_weightless f (row ∷ rows) none =
    (omega (arith, none, sum_by-cons f row rows), each_weightless f rows (omega (arith, none, sum_by-cons f row rows)))

-- each row of the resource has its parent
pub rows_rooted : (all : List Resource) (r : Resource) → AllRooted all r → AllByRecursion (λ row. is_rooted all (position r) row ≡ true) (rows_on r)
rows_rooted all r rooted =
    each_weaker (λ row. loose all (position r) row ≡ 0) (λ row. is_rooted all (position r) row ≡ true)
    (λ row none. rooted_row all (position r) row none) (rows_on r)
    (each_weightless (loose all (position r)) (rows_on r)
    (omega (
      arith,
      rooted,
      sum_by-append (loose all (position r)) (r.granted ++ r.converting) r.waiting,
      sum_by-append (loose all (position r)) r.granted r.converting,
    )))

-- a row that has its parent stands on a root, or the parent's resource is one level above
pub data HasRoot (all : List Resource) (r : Resource) (row : LockState) : Type 0 where
  at_root : row.parent ≡ 0 → HasRoot all r row
  below_up : list_any (is_up (position r) row.pid row.parent) all ≡ true → HasRoot all r row

pub root_of : (all : List Resource) (r : Resource) (row : LockState) → is_rooted all (position r) row ≡ true → HasRoot all r row
root_of all r row rooted =
    elim (or_cases ((r.parent == 0) && (row.parent == 0) && (r.level == 0))
    (not (r.parent == 0) && not (row.parent == 0) && list_any (is_up (position r) row.pid row.parent) all) rooted) [
      | inl root ↦
          at_root (eqb-true row.parent 0
          (and_parts (r.parent == 0) (row.parent == 0)
          (and_parts ((r.parent == 0) && (row.parent == 0)) (r.level == 0) root).0).1)
      | inr below ↦ below_up (and_parts (not (r.parent == 0) && not (row.parent == 0)) (list_any (is_up (position r) row.pid row.parent) all) below).1
    ]

-- ---- levels

-- the lock stands on a resource that is at most so many levels below its root
abbrev pub StandsAtMost : List Resource → ℕ → ℕ → Type 0
StandsAtMost resources level lkid = Any (λ r. (r.level ≤ level) × Any (λ row. row.lkid ≡ lkid) (rows_on r)) resources

-- the parent of a row stands one level above
pub up_at_most : (all : List Resource) (r : Resource) (row : LockState) (level : ℕ) → r.level ≤ suc level
    → list_any (is_up (position r) row.pid row.parent) all ≡ true
    → StandsAtMost all level row.parent
up_at_most all r row level low up =
    Any-weaker (λ x. is_up (position r) row.pid row.parent x ≡ true) (λ x. (x.level ≤ level) × Any (λ y. y.lkid ≡ row.parent) (rows_on x)) so all
    (Any-from_list_any (is_up (position r) row.pid row.parent) all up)
  where
    so : (x : Resource) → is_up (position r) row.pid row.parent x ≡ true → (x.level ≤ level) × Any (λ (y : LockState). y.lkid ≡ row.parent) (rows_on x)
    so x is =
        let parts = and_parts (is_parent (position r) x) (nat_lt 0 (held_by row.pid row.parent x)) is in
        let place = and_parts ((x.serial == r.parent) && is_domain x.domain r.domain) (r.level == x.level + 1) parts.0 in
        let some : 0 < held_by row.pid row.parent x = grind (arith, nat_tests, parts.1) in (
          omega (arith, low, eqb-true r.level (x.level + 1) place.1),
          any_left (λ (y : LockState). y.lkid ≡ row.parent) (x.granted ++ x.converting) x.waiting
              (Any-weaker (λ (y : LockState). (y.lkid ≡ row.parent) × (y.pid ≡ row.pid)) (λ y. y.lkid ≡ row.parent) (λ y of. of.0) (x.granted ++ x.converting)
              (held_there row.pid row.parent (x.granted ++ x.converting)
              (omega (arith, some, sum_by-append (locks row.pid row.parent) x.granted x.converting)))),
        )

-- a lock that is counted among rows has one of them
counted_there : (lkid : ℕ) (rows : List LockState) → 1 ≤ sum_by (stands lkid) rows → Any (λ row. row.lkid ≡ lkid) rows
counted_there lkid [] some = absurd (omega (arith, some))
counted_there lkid (row ∷ rows) some = of_test (row.lkid == lkid) refl (counted_there lkid rows)
  where
    of_test : (b : Bool) → (row.lkid == lkid) ≡ b
        → (1 ≤ sum_by (stands lkid) rows → Any (λ (x : LockState). x.lkid ≡ lkid) rows) → Any (λ (x : LockState). x.lkid ≡ lkid) (row ∷ rows)
    of_test true is later = Any-here (λ (x : LockState). x.lkid ≡ lkid) row rows (eqb-true row.lkid lkid is)
    of_test false is later =
        let none : stands lkid row ≡ 0 = ap (λ (b : Bool). cond b 1 0) is in
        Any-there (λ (x : LockState). x.lkid ≡ lkid) row rows
        (later (omega (arith, some, none, sum_by-cons (stands lkid) row rows)))

-- and among resources of which none is below a level it stands on that at most
counted_at_most : (level lkid : ℕ) (resources : List Resource) → AllByRecursion (λ r. r.level ≤ level) resources → 1 ≤ standing lkid resources
    → StandsAtMost resources level lkid
counted_at_most level lkid [] low some = absurd (omega (arith, some))
counted_at_most level lkid (r ∷ rest) low some = of_weight (weigh (stands lkid) r) refl (counted_at_most level lkid rest low.1)
  where
    of_weight : (n : ℕ) → weigh (stands lkid) r ≡ n → (1 ≤ standing lkid rest → StandsAtMost rest level lkid) → StandsAtMost (r ∷ rest) level lkid
    of_weight zero none later =
        Any-there (λ (x : Resource). (x.level ≤ level) × Any (λ (row : LockState). row.lkid ≡ lkid) (rows_on x)) r rest
        (later (omega (arith, some, none, sum_by-cons (weigh (stands lkid)) r rest)))
    of_weight (suc n) has later =
        Any-here (λ (x : Resource). (x.level ≤ level) × Any (λ (row : LockState). row.lkid ≡ lkid) (rows_on x)) r rest (
          low.0,
          counted_there lkid (rows_on r)
              (omega (
                arith,
                has,
                sum_by-append (stands lkid) (r.granted ++ r.converting) r.waiting,
                sum_by-append (stands lkid) r.granted r.converting,
              )),
        )

module _ (s : State) (apart : Apart s) (rooted : AllByRecursion (AllRooted s.resources) s.resources) where
  -- what is so of the row of a lock that stands somewhere, whichever it is, is so
  pub stands_so : (C : Type 0) (level lkid : ℕ)
      → ((row : LockState) (r : Resource) → r.level ≤ level → IsRowIn (rows_on r) row → Any (λ x. r ≡ x) s.resources
      → row.lkid ≡ lkid → HasRoot s.resources r row → C)
      → StandsAtMost s.resources level lkid → C
  stands_so C level lkid so stands =
      any_so C s.resources
      (Any-weaker
      (λ r. (((r.level ≤ level) × Any (λ row. row.lkid ≡ lkid) (rows_on r)) × Any (λ x. r ≡ x) s.resources) × AllRooted s.resources r) (λ r. C)
      (λ r on. any_so C (rows_on r)
      (Any-weaker (λ row. ((row.lkid ≡ lkid) × IsRowIn (rows_on r) row) × (is_rooted s.resources (position r) row ≡ true)) (λ row. C)
      (λ row is. so row r on.0.0.0 is.0.1 on.0.1 is.0.0 (root_of s.resources r row is.1)) (rows_on r)
      (any_and_each (λ row. (row.lkid ≡ lkid)
      × IsRowIn (rows_on r) row) (λ row. is_rooted s.resources (position r) row ≡ true) (rows_on r)
      (rows_rooted s.resources r on.1)
      (any_with_member (λ row. row.lkid ≡ lkid) (rows_on r) on.0.0.1))))
      s.resources
      (any_and_each (λ r. ((r.level ≤ level) × Any (λ row. row.lkid ≡ lkid) (rows_on r))
      × Any (λ x. r ≡ x) s.resources) (AllRooted s.resources) s.resources rooted
      (any_with_member (λ r. (r.level ≤ level) × Any (λ row. row.lkid ≡ lkid) (rows_on r)) s.resources stands)))

  -- no lock stands below one that has no lock above it
  none_above : (top levels lkid : ℕ) → top ≢ 0 → parent_of lkid s.resources ≡ 0 → is_below (suc levels) top s.resources lkid ≡ true → ⊥
  none_above top levels lkid some none below =
      let no : (0 == top) ≡ false = grind (arith, nat_tests, some) in
      let false_so : is_below (suc levels) top s.resources lkid ≡ false = rw (none, no) (nothing_is_above_0 s apart top levels some) in
      cc

  -- what is above a lock on a level is not above it by more levels than that
  pub as_many_levels : (top : ℕ) → top ≢ 0 → (level lkid : ℕ) → StandsAtMost s.resources level lkid
      → is_below (suc level) top s.resources lkid ≡ true → is_below level top s.resources lkid ≡ true
  as_many_levels top some zero lkid standing_at below =
      stands_so (is_below zero top s.resources lkid ≡ true) zero lkid
      (λ row r low there among named root. of_root row r low (sym (ap (λ (n : ℕ). parent_of n s.resources) named) ∙ parent_is s apart row r there among) root)
      standing_at
    where
      of_root : (row : LockState) (r : Resource) → r.level ≤ 0 → parent_of lkid s.resources ≡ row.parent → HasRoot s.resources r row → false ≡ true
      of_root row r low is (at_root none) = absurd (none_above top 0 lkid some (is ∙ none) below)
      of_root row r low is (below_up up) =
          any_so (false ≡ true) s.resources
          (Any-weaker (λ x. is_up (position r) row.pid row.parent x ≡ true) (λ x. false ≡ true)
          (λ x on.
          let parts = and_parts (is_parent (position r) x) (nat_lt 0 (held_by row.pid row.parent x)) on in
          let place = and_parts ((x.serial == r.parent) && is_domain x.domain r.domain) (r.level == x.level + 1) parts.0 in
          absurd (omega (arith, low, eqb-true r.level (x.level + 1) place.1)))
          s.resources (Any-from_list_any (is_up (position r) row.pid row.parent) s.resources up))
  as_many_levels top some (suc level) lkid standing_at below =
      stands_so (is_below (suc level) top s.resources lkid ≡ true) (suc level) lkid
      (λ row r low there among named root. of_root row r low (sym (ap (λ (n : ℕ). parent_of n s.resources) named) ∙ parent_is s apart row r there among) root
      (as_many_levels top some level row.parent))
      standing_at
    where
      of_root : (row : LockState) (r : Resource) → r.level ≤ suc level → parent_of lkid s.resources ≡ row.parent → HasRoot s.resources r row
          → (StandsAtMost s.resources level row.parent → is_below (suc level) top s.resources row.parent ≡ true
          → is_below level top s.resources row.parent ≡ true)
          → is_below (suc level) top s.resources lkid ≡ true
      of_root row r low is (at_root none) higher = absurd (none_above top (suc level) lkid some (is ∙ none) below)
      of_root row r low is (below_up up) higher =
          elim (or_cases (parent_of lkid s.resources == top) (is_below (suc level) top s.resources (parent_of lkid s.resources)) below) [
            | inl here ↦ rw here refl
            | inr above ↦
                or_right (parent_of lkid s.resources == top) (is_below level top s.resources (parent_of lkid s.resources))
                (subst (λ (n : ℕ). is_below level top s.resources n ≡ true) (sym is)
                (higher (up_at_most s.resources r row level low up) (subst (λ (n : ℕ). is_below (suc level) top s.resources n ≡ true) is above)))
          ]

  -- where no resource is below a level, no lock is below another by more levels than that
  module _ (lowest : ℕ) (low : AllByRecursion (λ r. r.level ≤ suc lowest) s.resources) (top : ℕ) (some : top ≢ 0) where
    one_level_less : (lkid : ℕ) → is_below (suc (suc lowest)) top s.resources lkid ≡ true → is_below (suc lowest) top s.resources lkid ≡ true
    one_level_less lkid below = of_standing (standing lkid s.resources) refl
      where
        of_standing : (n : ℕ) → standing lkid s.resources ≡ n → is_below (suc lowest) top s.resources lkid ≡ true
        of_standing zero none = absurd (none_above top (suc lowest) lkid some (parent_of_none lkid s.resources none) below)
        of_standing (suc n) has =
            as_many_levels top some (suc lowest) lkid (counted_at_most (suc lowest) lkid s.resources low (omega (arith, has))) below

    pub no_more_levels : (levels lkid : ℕ) → is_below levels top s.resources lkid ≡ true → is_below (suc lowest) top s.resources lkid ≡ true
    no_more_levels zero lkid below = let no : false ≡ true = below in cc
    no_more_levels (suc levels) lkid below =
        elim (or_cases (parent_of lkid s.resources == top) (is_below levels top s.resources (parent_of lkid s.resources)) below) [
          | inl here ↦ rw here refl
          | inr above ↦
              one_level_less lkid
              (or_right (parent_of lkid s.resources == top) (is_below (suc lowest) top s.resources (parent_of lkid s.resources))
              (no_more_levels levels (parent_of lkid s.resources) above))
        ]
