-- What the relations of lists say of one element: of one resource, and of one lock in a queue.
use Rattle.std.proofs.Common.{◌≡◌, ◌≢◌, ◌⊎◌, ◌<◌, inl, inr, ℕ, Bool, List, [], ◌∷◌, Option, None, zero, suc, refl, sym, subst, arith}
use Rattle.std.specs.Prelude.{All, Any, Contains, slice_index_or}
use Rattle.std.specs.List.{AllZip}
use Rattle.vlm_words.specs.declared.locks.LockState.{LockState}
use Rattle.vlm_words.specs.declared.locks.Request.{Request}
use Rattle.vlm_model.specs.TakenAlone.{GivesAsHeld, LosesLock, StaysAsHeld, empty_gives, empty_stays, lock_goes, lock_is_given, other_is_not, other_stays}
use Rattle.vlm_model.specs.TakenBelow.{LosesRows, none_left, row_goes, row_stays}

-- the one element is contained
pub contains_one : {X : Type 0} (xs : List X) (x : X) → xs ≡ x ∷ [] → Contains xs x
contains_one {X} xs x one = subst (λ (ys : List X). Contains ys x) (sym one) (0, omega arith, refl)

-- what holds of some element holds of the one element
pub any_of_one : {X : Type 0} (P : X → Type 0) (xs : List X) (x : X) → xs ≡ x ∷ [] → Any P xs → P x
any_of_one {X} P xs x one any =
    let some : Any P (x ∷ []) = subst (Any P) one any in
    of_place some.0 some.1 some.2 some.3 some.4
  where
    of_place : (k : ℕ) (y : X) → k < 1 → slice_index_or (x ∷ []) k y ≡ y → P y → P x
    of_place zero y within is at = subst P (sym is) at
    of_place (suc k) y within is at = absurd (omega arith)

-- what holds of the one element holds of each
pub all_of_one : {X : Type 0} (P : X → Type 0) (xs : List X) (x : X) → xs ≡ x ∷ [] → P x → All P xs
all_of_one {X} P xs x one at =
    subst (All P) (sym one) of_place
  where
    of_place : All P (x ∷ [])
    of_place zero d within = at
    of_place (suc k) d within = absurd (omega arith)

-- what holds of some element of no list
pub none_of_none : {X : Type 0} (P : X → Type 0) (xs : List X) → xs ≡ [] → Any P xs → ⊥
none_of_none {X} P xs none any = let some : Any P [] = subst (Any P) none any in absurd (omega (arith, some.2))

-- what holds of each element of no list
pub all_of_none : {X : Type 0} (P : X → Type 0) (xs : List X) → xs ≡ [] → All P xs
all_of_none {X} P xs none = subst (All P) (sym none) (λ k d within. absurd (omega arith))

-- what holds of each two elements holds of the one of each list
pub zip_of_one : {X Y : Type 0} (R : X → Y → Type 0) (xs : List X) (ys : List Y) (x : X) (y : Y) → xs ≡ x ∷ [] → ys ≡ y ∷ []
    → AllZip R xs ys → R x y
zip_of_one {X} {Y} R xs ys x y first second all =
    let both : AllZip R (x ∷ []) (y ∷ []) =
    subst (AllZip R (x ∷ [])) second (subst (λ (zs : List X). AllZip R zs ys) first all) in
    both.0

-- no queue loses a lock that it does not have
pub loses_none : {lkid : ℕ} {before after : List LockState} → before ≡ [] → LosesLock lkid before after → after ≡ []
loses_none none empty_stays = refl
loses_none none (lock_goes is rest) = cc
loses_none none (other_stays differs rest) = cc

-- the one lock goes if it is this lock, else it stays
pub loses_one : {lkid : ℕ} {lone : LockState} {before after : List LockState} → before ≡ lone ∷ [] → LosesLock lkid before after
    → ((lone.lkid ≡ lkid) × (after ≡ [])) ⊎ ((lone.lkid ≢ lkid) × (after ≡ lone ∷ []))
loses_one one empty_stays = cc
loses_one one (lock_goes {row} {before} {after} is rest) =
    let rest_none : before ≡ [] = cc in
    inl (cc, loses_none rest_none rest)
loses_one {lkid} {lone} one (other_stays {row} {before} {after} differs rest) =
    let rest_none : before ≡ [] = cc in
    let same : row ≡ lone = cc in
    inr (subst (λ (x : LockState). x.lkid ≢ lkid) same differs, cc (loses_none rest_none rest))

-- no lock is given where none is queued
pub gives_none : {lkid : ℕ} {rows given : List LockState} → rows ≡ [] → GivesAsHeld lkid rows given → given ≡ []
gives_none none empty_gives = refl
gives_none none (lock_is_given is stays rest) = cc
gives_none none (other_is_not differs rest) = cc

-- a row of these fields is the row that wants nothing
rebuilt : (before : LockState) (lkid pid parent : ℕ) (armed : Bool) (held want : Option Request) → lkid ≡ before.lkid → pid ≡ before.pid
    → parent ≡ before.parent → armed ≡ before.armed → held ≡ before.held → want ≡ None
    → record { lkid = lkid; pid = pid; parent = parent; armed = armed; held = held; want = want } ≡ record before { want = None }
rebuilt before lkid pid parent armed held want lock process above arms holds wants = cc

-- a lock that stays as it held is the lock that wants nothing
pub as_held : (before after : LockState) → StaysAsHeld before after → after ≡ record before { want = None }
as_held before after stays =
    rebuilt before after.lkid after.pid after.parent after.armed after.held after.want stays.lkid stays.pid stays.parent stays.armed
    stays.held stays.wants_nothing

-- the one lock is given as it held if it is this lock
pub gives_one : {lkid : ℕ} {lone : LockState} {rows given : List LockState} → rows ≡ lone ∷ [] → lone.lkid ≡ lkid
    → GivesAsHeld lkid rows given → given ≡ record lone { want = None } ∷ []
gives_one one is empty_gives = cc
gives_one {lkid} {lone} one is (lock_is_given {row} {given} {rows} {all_given} its stays rest) =
    let rest_none : rows ≡ [] = cc in
    let same : row ≡ lone = cc in
    let none : all_given ≡ [] = gives_none rest_none rest in
    let held : given ≡ record lone { want = None } = as_held lone given (subst (λ (x : LockState). StaysAsHeld x given) same stays) in
    cc
gives_one {lkid} {lone} one is (other_is_not {row} {rows} {all_given} differs rest) =
    let same : row ≡ lone = cc in
    let is_not : lone.lkid ≢ lkid = subst (λ (x : LockState). x.lkid ≢ lkid) same differs in
    absurd (is_not is)

-- the one lock is not given if it is another
pub gives_no_other : {lkid : ℕ} {lone : LockState} {rows given : List LockState} → rows ≡ lone ∷ [] → lone.lkid ≢ lkid
    → GivesAsHeld lkid rows given → given ≡ []
gives_no_other one differs empty_gives = cc
gives_no_other {lkid} {lone} one differs (lock_is_given {row} {given} {rows} {all_given} its stays rest) =
    let same : lone ≡ row = cc in
    let is_not : row.lkid ≢ lkid = subst (λ (x : LockState). x.lkid ≢ lkid) same differs in
    absurd (is_not its)
gives_no_other one differs (other_is_not {row} {rows} {all_given} is_not rest) =
    let rest_none : rows ≡ [] = cc in gives_none rest_none rest

-- no queue loses rows that it does not have
pub loses_no_row : {caller : ℕ} {Taken : LockState → Type 0} {before after : List LockState} → before ≡ []
    → LosesRows caller Taken before after → after ≡ []
loses_no_row none none_left = refl
loses_no_row none (row_goes taken own rest) = cc
loses_no_row none (row_stays kept rest) = cc

-- the one row goes, as a taken row of the caller, or stays
pub loses_one_row : {caller : ℕ} {Taken : LockState → Type 0} {lone : LockState} {before after : List LockState} → before ≡ lone ∷ []
    → LosesRows caller Taken before after
    → ((after ≡ []) × Taken lone × (lone.pid ≡ caller)) ⊎ ((after ≡ lone ∷ []) × (Taken lone → ⊥))
loses_one_row one none_left = cc
loses_one_row {caller} {Taken} {lone} one (row_goes {row} {before} {after} taken own rest) =
    let rest_none : before ≡ [] = cc in
    let same : row ≡ lone = cc in
    inl (loses_no_row rest_none rest, subst Taken same taken, subst (λ (x : LockState). x.pid ≡ caller) same own)
loses_one_row {caller} {Taken} {lone} one (row_stays {row} {before} {after} kept rest) =
    let rest_none : before ≡ [] = cc in
    let same : row ≡ lone = cc in
    inr (cc (loses_no_row rest_none rest), subst (λ (x : LockState). Taken x → ⊥) same kept)

-- a queue with the one lock loses it
pub one_gone : (lkid : ℕ) (row : LockState) (after : List LockState)
    → ((row.lkid ≡ lkid) × (after ≡ [])) ⊎ ((row.lkid ≢ lkid) × (after ≡ row ∷ [])) → row.lkid ≡ lkid → after ≡ []
one_gone lkid row after (inl goes) is = goes.1
one_gone lkid row after (inr stays) is = absurd (stays.0 is)

-- a queue with another lock keeps it
pub one_kept : (lkid : ℕ) (row : LockState) (after : List LockState)
    → ((row.lkid ≡ lkid) × (after ≡ [])) ⊎ ((row.lkid ≢ lkid) × (after ≡ row ∷ [])) → row.lkid ≢ lkid → after ≡ row ∷ []
one_kept lkid row after (inl goes) differs = absurd (differs goes.0)
one_kept lkid row after (inr stays) differs = stays.1
