use Rattle.std.proofs.Common.{◌≡◌, ◌≢◌, ◌⊎◌, ◌<◌, ◌∙◌, inl, inr, ℕ, List, [], ◌∷◌, ◌++◌, Option, ap, subst, sym, refl, arith}
use Rattle.std.specs.Prelude.{Any, Contains}
use Rattle.vlm_words.specs.declared.locks.LockState.{LockState}
use Rattle.vlm_words.specs.declared.steps.Dequeue.{Dequeue}
use Rattle.vlm_words.specs.declared.steps.Step.TheVariants.{Deq}
use Rattle.vlm_words.specs.State.{Resource, State}
use Rattle.vlm_model.specs.Checks.{named_lkid}
use Rattle.vlm_model.specs.Consequences.{IsHeldAlone, changed}
use Rattle.vlm_model.specs.TakenBelow.{HasParent, IsDequeued, IsDescendant, LosesLocks, TakesThoseBelowAlone, has_parent_below, is_sublock}
use Rattle.vlm_model.proofs.OneLock.{any_of_one, contains_one, loses_one_row, zip_of_one}
use Rattle.vlm_model.proofs.history_consequences.a_dequeue_of_all_takes_no_other_lock.Goals as goal

-- what the law says of the one resource
of_one : (old : State) (d : Dequeue) (choice : Option LockState) (r after : Resource) → TakesThoseBelowAlone old d choice
    → old.resources ≡ r ∷ [] → changed old (Deq d) choice ≡ after ∷ [] → LosesLocks d.pid (IsDequeued old d) r after
of_one old d choice r after law first second =
    zip_of_one (LosesLocks d.pid (IsDequeued old d)) old.resources (changed old (Deq d) choice) r after first second law

-- a queue with the one taken lock loses it
gone : (caller : ℕ) (Taken : LockState → Type 0) (row : LockState) (after : List LockState)
    → ((after ≡ []) × Taken row × (row.pid ≡ caller)) ⊎ ((after ≡ row ∷ []) × (Taken row → ⊥)) → Taken row → after ≡ []
gone caller Taken row after (inl goes) taken = goes.0
gone caller Taken row after (inr stays) taken = absurd (stays.1 taken)

-- a queue with the one other lock keeps it
kept : (caller : ℕ) (Taken : LockState → Type 0) (row : LockState) (after : List LockState)
    → ((after ≡ []) × Taken row × (row.pid ≡ caller)) ⊎ ((after ≡ row ∷ []) × (Taken row → ⊥))
    → (Taken row → row.pid ≡ caller → ⊥) → after ≡ row ∷ []
kept caller Taken row after (inl goes) other = absurd (other goes.1 goes.2)
kept caller Taken row after (inr stays) other = stays.0

pub returns-clause-own : goal.returns-clause-own
returns-clause-own c = λ old d choice r after row law first second named one own.
    let named_0 : named_lkid old d.pid d.lock ≡ 0 = ap (named_lkid old d.pid) named in
    gone d.pid (IsDequeued old d) row after.granted (loses_one_row one (of_one old d choice r after law first second).granted)
    (inl (named_0, own))

pub returns-clause-anothers : goal.returns-clause-anothers
returns-clause-anothers c = λ old d choice r after row law first second one other.
    kept d.pid (IsDequeued old d) row after.converting
    (loses_one_row one (of_one old d choice r after law first second).converting) (λ taken own. other own)

pub returns-clause-sublock : goal.returns-clause-sublock
returns-clause-sublock c = λ old d choice r after row top law first second named above alone its.
    let named_top : named_lkid old d.pid d.lock ≡ top = ap (named_lkid old d.pid) named in
    let rows : r.granted ++ r.converting ++ r.waiting ≡ row ∷ [] = rw (alone.granted, alone.converting, alone.waiting) in
    let here : Contains (r.granted ++ r.converting ++ r.waiting) row = contains_one (r.granted ++ r.converting ++ r.waiting) row rows in
    let there : Contains old.resources r = contains_one old.resources r first in
    let has : HasParent old row.lkid top = (there.0, r, there.1, there.2, (here.0, row, here.1, here.2, (refl, its))) in
    let below : IsDescendant old (named_lkid old d.pid d.lock) row.lkid =
    subst (λ (lkid : ℕ). IsDescendant old lkid row.lkid) (sym named_top) (is_sublock has) in
    let some : named_lkid old d.pid d.lock ≢ 0 = omega arith in
    gone d.pid (IsDequeued old d) row after.waiting (loses_one_row alone.waiting (of_one old d choice r after law first second).waiting)
    (inr (some, below))

-- a lock of the one row without a parent lock has no parent lock but 0
no_parent : (old : State) (r : Resource) (row : LockState) (lkid parent : ℕ) → old.resources ≡ r ∷ [] → IsHeldAlone row r → row.parent ≡ 0
    → HasParent old lkid parent → (row.lkid ≡ lkid) × (parent ≡ 0)
no_parent old r row lkid parent first alone root has =
    let rows : r.granted ++ r.converting ++ r.waiting ≡ row ∷ [] = rw (alone.granted, alone.converting, alone.waiting) in
    let there : Any (λ (row : LockState). (row.lkid ≡ lkid) × (row.parent ≡ parent)) (r.granted ++ r.converting ++ r.waiting) =
    any_of_one (λ (r : Resource). Any (λ (row : LockState). (row.lkid ≡ lkid) × (row.parent ≡ parent))
    (r.granted ++ r.converting ++ r.waiting)) old.resources r first has in
    let here : (row.lkid ≡ lkid) × (row.parent ≡ parent) =
    any_of_one (λ (row : LockState). (row.lkid ≡ lkid) × (row.parent ≡ parent)) (r.granted ++ r.converting ++ r.waiting) row rows there in
    (here.0, sym here.1 ∙ root)

-- so no lock is below another
nothing_below : (old : State) (r : Resource) (row : LockState) (top lkid : ℕ) → old.resources ≡ r ∷ [] → IsHeldAlone row r
    → row.parent ≡ 0 → 0 < row.lkid → 0 < top → IsDescendant old top lkid → ⊥
nothing_below old r row top lkid first alone root some above (is_sublock has) =
    let none = no_parent old r row lkid top first alone root has in omega arith
nothing_below old r row top lkid first alone root some above (has_parent_below {parent} has rest) =
    nothing_below old r row top parent first alone root some above rest

pub returns-clause-without_parent : goal.returns-clause-without_parent
returns-clause-without_parent c = λ old d choice r after row top law first second named above alone root some.
    let named_top : named_lkid old d.pid d.lock ≡ top = ap (named_lkid old d.pid) named in
    let other : IsDequeued old d row → ⊥ = λ taken.
    elim taken [
      | inl all ↦ omega (arith, all.0)
      | inr below ↦ nothing_below old r row top row.lkid first alone root some above
          (subst (λ (lkid : ℕ). IsDescendant old lkid row.lkid) named_top below.1)
    ] in
    kept d.pid (IsDequeued old d) row after.granted
    (loses_one_row alone.granted (of_one old d choice r after law first second).granted) (λ taken own. other taken)
