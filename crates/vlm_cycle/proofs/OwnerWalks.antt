-- Walks of a queue that find the owners of its locks.
use Rattle.std.proofs.Common.{◌≡◌, ◌⊎◌, ℕ, true, false, List, [], ◌∷◌, ◌++◌, refl, sym, ap, ◌∙◌, subst, inl, inr}
use Rattle.vlm_words.specs.declared.locks.LockState.{LockState}
use Rattle.vlm_words.specs.declared.modes.Mode.{Mode}
use Rattle.vlm_model.specs.Deadlocks.{BlocksThoseBehind}
use Rattle.vlm_collections.specs.Lists.{IsIn}
use Rattle.vlm_collections.proofs.HandleLists.{in_ahead, in_behind, in_either}
use Rattle.vlm_cycle.specs.declared.scratch.Scratch.{Scratch}
use Rattle.vlm_cycle.specs.Marking.{Marks}
use Rattle.vlm_cycle.specs.Covering.{covers, nearest}
use Rattle.vlm_cycle.specs.Waiting.{IsHolder, OwnsBlocker, OwnsHolder}
use Rattle.vlm_cycle.proofs.MarksOneByOne.{GoesOn, goes_step, marks_as}
use Rattle.vlm_cycle.proofs.NearestCover.{nearest_covered, nearest_more}

-- a holder more is looked at
pub holders_on : (lkid : ℕ) (mode : Mode) (row : LockState) (left rest all : List LockState) (initial now after : Scratch) → left ≡ row ∷ rest
    → Marks (λ pid. IsHolder lkid mode row × (row.pid ≡ pid)) now after
    → GoesOn (λ rows. OwnsHolder lkid mode rows) left all initial now → GoesOn (λ rows. OwnsHolder lkid mode rows) rest all initial after
holders_on lkid mode row left rest all initial now after is marks goes =
    goes_step (λ rows. OwnsHolder lkid mode rows) (λ pid. IsHolder lkid mode row × (row.pid ≡ pid)) left rest all initial now after
    (λ pid either. subst (λ rows. OwnsHolder lkid mode rows pid) (sym is) (elim either [
      | inl here ↦ (row, (inl refl, here.0, here.1))
      | inr later ↦ (later.0, (inr later.1.0, later.1.1, later.1.2))
    ]))
    (λ pid some. cases pid (subst (λ rows. OwnsHolder lkid mode rows pid) is some))
    marks goes
  where
    cases : (pid : ℕ) → OwnsHolder lkid mode (row ∷ rest) pid → (IsHolder lkid mode row × (row.pid ≡ pid)) ⊎ OwnsHolder lkid mode rest pid
    cases pid some = elim some.1.0 [
      | inl here ↦ inl (subst (λ x. IsHolder lkid mode x × (x.pid ≡ pid)) (sym here) (some.1.1, some.1.2))
      | inr later ↦ inr (some.0, (later, some.1.1, some.1.2))
    ]

-- the owner of one row more
one_more : (row : LockState) (rest : List LockState) (pid : ℕ) → (BlocksThoseBehind row.want × (row.pid ≡ pid))
    ⊎ OwnsBlocker rest pid → OwnsBlocker (row ∷ rest) pid
one_more row rest pid either = elim either [
  | inl here ↦ (row, (inl refl, here.0, here.1))
  | inr later ↦ (later.0, (inr later.1.0, later.1.1, later.1.2))
]

one_less : (row : LockState) (rest : List LockState) (pid : ℕ) → OwnsBlocker (row ∷ rest) pid
    → (BlocksThoseBehind row.want × (row.pid ≡ pid)) ⊎ OwnsBlocker rest pid
one_less row rest pid some = elim some.1.0 [
  | inl here ↦ inl (subst (λ (x : LockState). BlocksThoseBehind x.want × (x.pid ≡ pid)) (sym here) (some.1.1, some.1.2))
  | inr later ↦ inr (some.0, (later, some.1.1, some.1.2))
]

-- a request more is looked at
pub blockers_on : (row : LockState) (left rest all : List LockState) (initial now after : Scratch) → left ≡ row ∷ rest
    → Marks (λ pid. BlocksThoseBehind row.want × (row.pid ≡ pid)) now after
    → GoesOn OwnsBlocker left all initial now → GoesOn OwnsBlocker rest all initial after
blockers_on row left rest all initial now after is marks goes =
    goes_step OwnsBlocker (λ pid. BlocksThoseBehind row.want × (row.pid ≡ pid)) left rest all initial now after
    (λ pid either. subst (λ rows. OwnsBlocker rows pid) (sym is) (one_more row rest pid either))
    (λ pid some. one_less row rest pid (subst (λ rows. OwnsBlocker rows pid) is some))
    marks goes

-- ---- back from a lock

-- the owner of a row more at the end
last_more : (row : LockState) (rest : List LockState) (pid : ℕ) → (BlocksThoseBehind row.want × (row.pid ≡ pid))
    ⊎ OwnsBlocker rest pid → OwnsBlocker (rest ++ row ∷ []) pid
last_more row rest pid either = elim either [
  | inl here ↦ (row, (in_behind row rest (row ∷ []) (inl refl), here.0, here.1))
  | inr later ↦ (later.0, (in_ahead later.0 rest (row ∷ []) later.1.0, later.1.1, later.1.2))
]

last_less : (row : LockState) (rest : List LockState) (pid : ℕ) → OwnsBlocker (rest ++ row ∷ []) pid
    → (BlocksThoseBehind row.want × (row.pid ≡ pid)) ⊎ OwnsBlocker rest pid
last_less row rest pid some = elim (in_either some.0 rest (row ∷ []) some.1.0) [
  | inl first ↦ inr (some.0, (first, some.1.1, some.1.2))
  | inr second ↦ elim (one_less row [] pid (some.0, (second, some.1.1, some.1.2))) [ inl here ↦ inl here | inr none ↦ absurd none.1.0 ]
]

-- the owners that a walk back finds
abbrev pub OwnsNearest : List LockState → ℕ → Type 0
OwnsNearest rows pid = OwnsBlocker (nearest rows) pid

-- it passes one that does not cover
pub nearest_on : (row : LockState) (left rest all : List LockState) (initial now after : Scratch) → left ≡ rest ++ row ∷ [] → covers row ≡ false
    → Marks (λ pid. BlocksThoseBehind row.want × (row.pid ≡ pid)) now after
    → GoesOn OwnsNearest left all initial now → GoesOn OwnsNearest rest all initial after
nearest_on row left rest all initial now after is isnt marks goes =
    goes_step OwnsNearest (λ pid. BlocksThoseBehind row.want × (row.pid ≡ pid)) left rest all initial now after
    (λ pid either. subst (λ rows. OwnsBlocker rows pid) (sym same) (last_more row (nearest rest) pid either))
    (λ pid some. last_less row (nearest rest) pid (subst (λ rows. OwnsBlocker rows pid) same some))
    marks goes
  where
    same : nearest left ≡ nearest rest ++ row ∷ []
    same = ap nearest is ∙ nearest_more rest row isnt

-- it ends at one that covers
pub nearest_here : (row : LockState) (left rest all : List LockState) (initial now after : Scratch) → left ≡ rest ++ row ∷ [] → covers row ≡ true
    → Marks (λ pid. BlocksThoseBehind row.want × (row.pid ≡ pid)) now after
    → GoesOn OwnsNearest left all initial now → Marks (OwnsNearest all) initial after
nearest_here row left rest all initial now after is covering marks goes =
    goes after (marks_as (λ pid. BlocksThoseBehind row.want × (row.pid ≡ pid)) (OwnsNearest left) now after
    (λ pid here. subst (λ rows. OwnsBlocker rows pid) (sym same) (one_more row [] pid (inl here)))
    (λ pid some. elim (one_less row [] pid (subst (λ rows. OwnsBlocker rows pid) same some)) [ inl here ↦ here | inr none ↦ absurd none.1.0 ])
    marks)
  where
    same : nearest left ≡ row ∷ []
    same = ap nearest is ∙ nearest_covered rest row covering

-- nobody owns one of none
pub no_holder : (lkid : ℕ) (mode : Mode) (rows : List LockState) → rows ≡ [] → (pid : ℕ) → OwnsHolder lkid mode rows pid → ⊥
no_holder lkid mode rows none pid some = subst (λ xs. IsIn some.0 xs) none some.1.0

pub no_blocker : (rows : List LockState) → rows ≡ [] → (pid : ℕ) → OwnsBlocker rows pid → ⊥
no_blocker rows none pid some = subst (λ xs. IsIn some.0 xs) none some.1.0

pub no_nearest : (rows : List LockState) → rows ≡ [] → (pid : ℕ) → OwnsNearest rows pid → ⊥
no_nearest rows none pid some = subst (λ xs. IsIn some.0 (nearest xs)) none some.1.0
