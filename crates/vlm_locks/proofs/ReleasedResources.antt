-- A resource after locks on it were given up together, one by one.
use Rattle.std.proofs.Common.{◌≡◌, ℕ, Bool, true, false, not, List, [], ◌∷◌, cond, refl, sym, ap, ◌∙◌}
use Rattle.std.specs.Prelude.{◌==◌, ◌&&◌, ◌||◌}
use Rattle.std.specs.List.{AllByRecursion}
use Rattle.std.proofs.lemmas.Bool.{eqb-true}
use Rattle.vlm_words.specs.declared.locks.LockState.{LockState}
use Rattle.vlm_words.specs.declared.resources.ValueBlock.{ValueBlock}
use Rattle.vlm_words.specs.Rows.{rows_without}
use Rattle.vlm_model.specs.Endings.{How}
use Rattle.vlm_words.specs.State.{Resource}
use Rattle.vlm_words.specs.ValueBlocks.{invalid_value_block}
use Rattle.vlm_model.specs.Withdrawals.{Withdrawal, has_writer, is_held_by_writer, is_writer}
use Rattle.vlm_model.specs.Withdrawals.{resource_after_withdrawals, resource_without, value_block_after_writer}
use Rattle.vlm_locks.specs.Left.{giving_up, has_writer_among, resource_left, rows_left}

-- a row of the lock is one that goes
abbrev pub IsOwnRow : (LockState → Bool) → ℕ → LockState → Type 0
IsOwnRow goes lkid row = row.lkid ≡ lkid → goes row ≡ true

-- the rows that are left are the same without a lock that goes
others_same : (goes : LockState → Bool) (lkid : ℕ) (rows : List LockState) → AllByRecursion (IsOwnRow goes lkid) rows
    → rows_left goes (rows_without lkid rows) ≡ rows_left goes rows
others_same goes lkid [] own = refl
others_same goes lkid (row ∷ rows) own = of_test (row.lkid == lkid) refl (others_same goes lkid rows own.1)
  where
    of_test : (b : Bool) → (row.lkid == lkid) ≡ b → rows_left goes (rows_without lkid rows) ≡ rows_left goes rows
        → rows_left goes (cond (not b) (row ∷ rows_without lkid rows) (rows_without lkid rows))
        ≡ cond (not (goes row)) (row ∷ rows_left goes rows) (rows_left goes rows)
    of_test true is same = rw (own.0 (eqb-true row.lkid lkid is)) same
    of_test false is same = ap (λ (kept : List LockState). cond (not (goes row)) (row ∷ kept) kept) same

-- of three tests that are or-ed, the order and the grouping are all one
pub swap : (a b c : Bool) → (a || (b || c)) ≡ (b || (a || c))
swap true true c = refl
swap true false c = refl
swap false b c = refl

pub assoc : (a b c : Bool) → (a || (b || c)) ≡ ((a || b) || c)
assoc true b c = refl
assoc false b c = refl

-- a writer that goes is this lock or another
writers_parted : (goes : LockState → Bool) (lkid : ℕ) (rows : List LockState) → AllByRecursion (IsOwnRow goes lkid) rows
    → has_writer_among goes rows ≡ (has_writer lkid rows || has_writer_among goes (rows_without lkid rows))
writers_parted goes lkid [] own = refl
writers_parted goes lkid (row ∷ rows) own = of_test (row.lkid == lkid) refl (writers_parted goes lkid rows own.1)
  where
    of_test : (b : Bool) → (row.lkid == lkid) ≡ b
        → has_writer_among goes rows ≡ (has_writer lkid rows || has_writer_among goes (rows_without lkid rows))
        → ((goes row && is_writer row.held) || has_writer_among goes rows)
        ≡ (((b && is_writer row.held) || has_writer lkid rows)
        || has_writer_among goes (cond (not b) (row ∷ rows_without lkid rows) (rows_without lkid rows)))
    of_test true is same =
        rw (own.0 (eqb-true row.lkid lkid is), same)
        (assoc (is_writer row.held) (has_writer lkid rows) (has_writer_among goes (rows_without lkid rows)))
    of_test false is same = rw same (swap (goes row && is_writer row.held) (has_writer lkid rows) (has_writer_among goes (rows_without lkid rows)))

-- a value block that may be invalid
abbrev marked : Bool → ValueBlock → ValueBlock
marked b block = cond b (invalid_value_block block) block

-- it is marked by one lock and by the others, or by all
marked_twice : (invalidates : Bool) (a b : Bool) (block : ValueBlock)
    → marked (invalidates && b) (cond a (marked invalidates block) block) ≡ marked (invalidates && (a || b)) block
marked_twice true true true block = refl
marked_twice true true false block = refl
marked_twice true false b block = refl
marked_twice false true b block = refl
marked_twice false false b block = refl

-- all rows of the lock on the resource go
pub record OwnRows (goes : LockState → Bool) (lkid : ℕ) (r : Resource) : Type 0 where
  pub granted : AllByRecursion (IsOwnRow goes lkid) r.granted
  pub converting : AllByRecursion (IsOwnRow goes lkid) r.converting
  pub waiting : AllByRecursion (IsOwnRow goes lkid) r.waiting

-- what is left is the same once one of the locks that go is withdrawn so
pub one_withdrawn : (goes : LockState → Bool) (waiting converting : How) (invalidates : Bool) (lkid : ℕ) (r : Resource) → OwnRows goes lkid r
    → resource_left goes invalidates (resource_after_withdrawals (giving_up waiting converting invalidates lkid ∷ []) r) ≡ resource_left goes invalidates r
unfolding resource_left resource_without
one_withdrawn goes waiting_ends converting_ends invalidates lkid r own = of_test (is_held_by_writer lkid r) refl
  where
    w : Withdrawal
    w = giving_up waiting_ends converting_ends invalidates lkid

    after : Bool → Resource
    after b = resource_without lkid (cond b (record r { value_block = value_block_after_writer w r.value_block }) r)

    granted : rows_left goes (rows_without lkid r.granted) ≡ rows_left goes r.granted
    granted = others_same goes lkid r.granted own.granted

    converting : rows_left goes (rows_without lkid r.converting) ≡ rows_left goes r.converting
    converting = others_same goes lkid r.converting own.converting

    waiting : rows_left goes (rows_without lkid r.waiting) ≡ rows_left goes r.waiting
    waiting = others_same goes lkid r.waiting own.waiting

    left : Bool
    left = has_writer_among goes (rows_without lkid r.granted) || has_writer_among goes (rows_without lkid r.converting)

    four : (a b c d : Bool) → ((a || b) || (c || d)) ≡ ((a || c) || (b || d))
    four true b c d = refl
    four false true true d = refl
    four false true false d = refl
    four false false c d = refl

    all : (has_writer_among goes r.granted || has_writer_among goes r.converting) ≡ (is_held_by_writer lkid r || left)
    all =
        rw (writers_parted goes lkid r.granted own.granted, writers_parted goes lkid r.converting own.converting)
        (four (has_writer lkid r.granted) (has_writer_among goes (rows_without lkid r.granted))
        (has_writer lkid r.converting) (has_writer_among goes (rows_without lkid r.converting)))

    block : (b : Bool) → is_held_by_writer lkid r ≡ b
        → marked (invalidates && left) (cond b (marked invalidates r.value_block) r.value_block)
        ≡ marked (invalidates && (has_writer_among goes r.granted || has_writer_among goes r.converting)) r.value_block
    block b is =
        marked_twice invalidates b left r.value_block
        ∙ ap (λ (marks : Bool). marked (invalidates && marks) r.value_block) (ap (λ (x : Bool). x || left) (sym is) ∙ sym all)

    made : ValueBlock → List LockState → List LockState → List LockState → Resource
    made value_block g c w = record r { value_block = value_block; granted = g; converting = c; waiting = w }

    of_test : (b : Bool) → is_held_by_writer lkid r ≡ b → resource_left goes invalidates (after b) ≡ resource_left goes invalidates r
    of_test true is =
        ap (λ (v : ValueBlock). made v (rows_left goes (rows_without lkid r.granted))
        (rows_left goes (rows_without lkid r.converting)) (rows_left goes (rows_without lkid r.waiting)))
        (block true is)
        ∙ rw (granted, converting, waiting) refl
    of_test false is =
        ap (λ (v : ValueBlock). made v (rows_left goes (rows_without lkid r.granted))
        (rows_left goes (rows_without lkid r.converting)) (rows_left goes (rows_without lkid r.waiting)))
        (block false is)
        ∙ rw (granted, converting, waiting) refl

-- the row stays
abbrev pub IsOthers : (LockState → Bool) → LockState → Type 0
IsOthers goes row = goes row ≡ false

none_of_them : (goes : LockState → Bool) (rows : List LockState) → AllByRecursion (IsOthers goes) rows
    → (rows_left goes rows ≡ rows) × (has_writer_among goes rows ≡ false)
none_of_them goes [] others = (refl, refl)
none_of_them goes (row ∷ rows) others =
    let behind = none_of_them goes rows others.1 in
    (rw (others.0) (ap (λ (kept : List LockState). row ∷ kept) behind.0), rw (others.0) behind.1)

-- none of its rows goes
pub record OthersAlone (goes : LockState → Bool) (r : Resource) : Type 0 where
  pub granted : AllByRecursion (IsOthers goes) r.granted
  pub converting : AllByRecursion (IsOthers goes) r.converting
  pub waiting : AllByRecursion (IsOthers goes) r.waiting

-- then nothing changes
pub nothing_left : (goes : LockState → Bool) (invalidates : Bool) (r : Resource) → OthersAlone goes r → resource_left goes invalidates r ≡ r
unfolding resource_left
nothing_left goes invalidates r others =
    let granted = none_of_them goes r.granted others.granted in
    let converting = none_of_them goes r.converting others.converting in
    let waiting = none_of_them goes r.waiting others.waiting in
    of_flag invalidates (rw (granted.1, converting.1, granted.0, converting.0, waiting.0) refl) (rw (granted.0, converting.0, waiting.0) refl)
  where
    of_flag : (b : Bool) → resource_left goes true r ≡ r → resource_left goes false r ≡ r → resource_left goes b r ≡ r
    of_flag true marks plain = marks
    of_flag false marks plain = plain
