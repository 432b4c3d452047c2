-- The locks back to the last one that covers those before it.
use Rattle.std.proofs.Common.{◌≡◌, ◌≢◌, ℕ, ◌<◌, Bool, true, false, List, [], ◌∷◌, ◌++◌, length, refl, sym, ap, ◌∙◌, inl, inr, eq-eqb, ne_eqb, arith}
use Rattle.std.specs.Prelude.{◌||◌}
use Rattle.std.specs.List.{list_any}
use Rattle.std.proofs.lemmas.Bool.{and_parts, cases_eq}
use Rattle.vlm_words.specs.declared.locks.LockState.{LockState}
use Rattle.vlm_words.specs.declared.modes.Mode.{Mode}
use Rattle.vlm_collections.specs.Lists.{IsIn}
use Rattle.vlm_cycle.specs.Covering.{covers, covers_for, nearest}
use Rattle.vlm_cycle.specs.Waiting.{rows_before}
use Rattle.vlm_cycle.proofs.MarksOneByOne.{of_mark}

-- ---- one row more

pub any_covered : (P : LockState → Bool) (rows : List LockState) (row : LockState) → P row ≡ true → list_any P (rows ++ row ∷ []) ≡ true
any_covered P [] row is = rw is refl
any_covered P (x ∷ rows) row is = rw (any_covered P rows row is) (either (P x))
  where
    either : (b : Bool) → (b || true) ≡ true
    either true = refl
    either false = refl

pub any_last : (P : LockState → Bool) (rows : List LockState) (row : LockState) → P row ≡ false → list_any P (rows ++ row ∷ []) ≡ list_any P rows
any_last P [] row isnt = rw isnt refl
any_last P (x ∷ rows) row isnt = ap (λ b. P x || b) (any_last P rows row isnt)

-- the last row covers
pub nearest_covered : (rows : List LockState) (row : LockState) → covers row ≡ true → nearest (rows ++ row ∷ []) ≡ row ∷ []
nearest_covered [] row is = refl
nearest_covered (x ∷ rows) row is = rw (any_covered covers rows row is) (nearest_covered rows row is)

-- the last row doesn't
pub nearest_more : (rows : List LockState) (row : LockState) → covers row ≡ false → nearest (rows ++ row ∷ []) ≡ nearest rows ++ row ∷ []
nearest_more [] row isnt = refl
nearest_more (x ∷ rows) row isnt = of_any (list_any covers rows) refl (nearest_more rows row isnt)
  where
    of_any : (b : Bool) → list_any covers rows ≡ b → nearest (rows ++ row ∷ []) ≡ nearest rows ++ row ∷ []
        → nearest ((x ∷ rows) ++ row ∷ []) ≡ nearest (x ∷ rows) ++ row ∷ []
    of_any true is rest = rw (any_last covers rows row isnt, is) rest
    of_any false is rest = rw (any_last covers rows row isnt, is) refl

-- ---- what is near, and what is not

-- none covers: all are near
pub nearest_all : (rows : List LockState) → list_any covers rows ≡ false → nearest rows ≡ rows
nearest_all [] none = refl
nearest_all (x ∷ rows) none = rw (none_later (covers x) (list_any covers rows) none) refl
  where
    none_later : (a b : Bool) → (a || b) ≡ false → b ≡ false
    none_later true b none = cc
    none_later false b none = none

-- near ones are of these
pub near_in : (rows : List LockState) (row : LockState) → IsIn row (nearest rows) → IsIn row rows
near_in [] row there = absurd there
near_in (x ∷ rows) row there = of_any (list_any covers rows) refl there (near_in rows row)
  where
    of_any : (b : Bool) → list_any covers rows ≡ b → IsIn row (nearest (x ∷ rows)) → (IsIn row (nearest rows) → IsIn row rows) → IsIn row (x ∷ rows)
    of_any true is here later = inr (later (rw is at here))
    of_any false is here later = rw is at here

-- the last one that covers parts the rows
pub record IsPartedBy (rows : List LockState) : Type 0 where
  pub before : List LockState
  pub last : LockState
  pub after : List LockState
  pub parted : rows ≡ before ++ last ∷ after
  pub covering : covers last ≡ true
  pub near : nearest rows ≡ last ∷ after

pub last_covering : (rows : List LockState) → list_any covers rows ≡ true → IsPartedBy rows
last_covering [] some = cc
last_covering (x ∷ rows) some = of_any (list_any covers rows) refl (covers x) refl (last_covering rows)
  where
    of_any : (b : Bool) → list_any covers rows ≡ b → (c : Bool) → covers x ≡ c → (list_any covers rows ≡ true → IsPartedBy rows) → IsPartedBy (x ∷ rows)
    of_any true is c own later =
        let found = later is in
        record {
          before = x ∷ found.before;
          last = found.last;
          after = found.after;
          parted =
              ap (λ xs. x ∷ xs) found.parted;
          covering = found.covering;
          near = rw is found.near;
        }
    of_any false is true own later = record { before = []; last = x; after = rows; parted = refl; covering = own; near = rw is refl }
    of_any false is false own later = let never : false ≡ true = rw (own, is) at some in cc

-- one of the rows has what any has
pub one_of : (P : LockState → Bool) (rows : List LockState) → list_any P rows ≡ true → (row : LockState) × (IsIn row rows × (P row ≡ true))
one_of P [] some = cc
one_of P (x ∷ rows) some = elim (of_mark (P x)) [
  | inl is ↦ (x, (inl refl, is))
  | inr isnt ↦ (let found = one_of P rows (rw isnt at some) in (found.0, (inr found.1.0, found.1.1)))
]

-- where none covers, none covers for a mode
pub none_for : (mode : Mode) (rows : List LockState) → list_any covers rows ≡ false → list_any (covers_for mode) rows ≡ false
none_for mode rows none = elim (of_mark (list_any (covers_for mode) rows)) [
  | inl some ↦
      (let found = one_of (covers_for mode) rows some in
      let never : false ≡ true = sym none ∙ any_of covers rows found.0 found.1.0 (and_parts _ (covers found.0) found.1.1).1 in
      cc)
  | inr isnt ↦ isnt
]
  where
    either : (b : Bool) → (b || true) ≡ true
    either true = refl
    either false = refl

    any_of : (P : LockState → Bool) (xs : List LockState) (x : LockState) → IsIn x xs → P x ≡ true → list_any P xs ≡ true
    any_of P [] x there is = absurd there
    any_of P (y ∷ xs) x there is = elim there [
      | inl here ↦ rw (ap P here ∙ is) refl
      | inr later ↦ rw (any_of P xs x later is) (either (P y))
    ]

-- ---- rows before a row before another

pub before_shorter : (lkid : ℕ) (rows : List LockState) (row : LockState) → IsIn row (rows_before lkid rows)
    → length (rows_before row.lkid rows) < length (rows_before lkid rows)
before_shorter lkid [] row there = absurd there
before_shorter lkid (x ∷ rows) row there = elim (cases_eq x.lkid lkid) [
  | inl same ↦ absurd (rw (eq-eqb x.lkid lkid same) at there)
  | inr differs ↦ rw (ne_eqb x.lkid lkid differs) (of_cons (before_shorter lkid rows row) (rw (ne_eqb x.lkid lkid differs) at there))
]
  where
    of_cons : (IsIn row (rows_before lkid rows) → length (rows_before row.lkid rows) < length (rows_before lkid rows)) → IsIn row (x ∷ rows_before lkid rows)
        → length (rows_before row.lkid (x ∷ rows)) < length (x ∷ rows_before lkid rows)
    of_cons shorter some = elim (cases_eq x.lkid row.lkid) [
      | inl same ↦ rw (eq-eqb x.lkid row.lkid same) (omega arith)
      | inr other ↦ elim some [
        | inl here ↦ absurd (other (ap (λ (y : LockState). y.lkid) here))
        | inr later ↦ (let less = shorter later in rw (ne_eqb x.lkid row.lkid other) (omega (arith, less)))
      ]
    ]

-- where the row is not one of these, all are before it
pub before_all : (lkid : ℕ) (rows : List LockState) → ((x : LockState) → IsIn x rows → x.lkid ≢ lkid) → rows_before lkid rows ≡ rows
before_all lkid [] none = refl
before_all lkid (x ∷ rows) none = rw (ne_eqb x.lkid lkid (none x (inl refl))) (ap (λ xs. x ∷ xs) (before_all lkid rows (λ y there. none y (inr there))))
