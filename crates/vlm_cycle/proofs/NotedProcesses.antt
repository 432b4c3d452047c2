-- The locks and processes that the notes of a ranking name are there.
use Rattle.std.proofs.Common.{◌≡◌, ℕ, map, Option, None, Some, IfSome, refl, sym, ◌∙◌, subst, inl}
use Rattle.std.specs.Option.{ForSome}
use Rattle.std.proofs.lemmas.Option.{none-some, same_Some}
use Rattle.vlm_words.specs.declared.locks.LockState.{LockState}
use Rattle.vlm_collections.specs.Lists.{IsIn, first_handle, handle_after, handle_before}
use Rattle.vlm_collections.proofs.Images.{IsIn-of_image}
use Rattle.vlm_collections.proofs.Walks.{first_handle-in, handle_after-in, handle_before-in}
use Rattle.vlm_records.specs.declared.handles.Place.{Place}
use Rattle.vlm_store.specs.Records.{IsProcess, IsSound, IsStored, Records, StoredLock, at_after, locks_at, own_handles_at}
use Rattle.vlm_store.proofs.Walks.{at_lock}
use Rattle.vlm_locks.proofs.RunsDown.{its_handles, owned_here, stored_here}
use Rattle.vlm_cycle.specs.Notes.{LivesAt}
use Rattle.vlm_locks.specs.Rest.{IsAtRest}

-- what is named is there where the one is
pub some_there : (P : ℕ → Type 0) (one : ℕ) → P one → ForSome (Some one) P
some_there P one there other is = subst P (same_Some one other is) there

pub none_there : (P : ℕ → Type 0) → ForSome None P
none_there P other is = absurd (none-some other is)

pub if_there : (P : ℕ → Type 0) (some : Option ℕ) → IfSome some P → ForSome some P
if_there P None there = none_there P
if_there P (Some one) there = some_there P one there

-- the lock that one follows is there
pub previous_there : (s : Records) (lock : ℕ) (before : Option ℕ) → IsStored lock s
    → ((place : Place) (row : LockState) → IsIn (record { at = lock; row = row }) (locks_at place s)
    → before ≡ handle_before lock (map (λ (k : StoredLock). k.at) (locks_at place s)))
    → ForSome before (λ at. IsStored at s)
previous_there s lock before stored follows at is =
    let place = stored.1.0 in
    let ks = locks_at place s in
    let handles = map (λ (k : StoredLock). k.at) ks in
    let found = IsIn-of_image (λ (k : StoredLock). k.at) ks at (handle_before-in lock handles at (sym is ∙ follows place stored.0 stored.1.1)) in
    subst (λ h. IsStored h s) found.1.1 (found.0.row, (place, found.1.0))

module _ (s : Records) (sound : IsSound s) where
  -- so is the lock that follows it
  pub next_there : (lock : ℕ) (next : Option ℕ) → IsStored lock s
      → ((place : Place) (row : LockState) → IsIn (record { at = lock; row = row }) (locks_at place s) → next ≡ at_after lock (locks_at place s))
      → ForSome next (λ at. IsStored at s)
  next_there lock next stored follows at is =
      let place = stored.1.0 in
      let stands = at_lock lock (locks_at place s) (sound.locks_apart place) (stored.0, stored.1.1) in
      let there = stands.next at (sym (follows place stored.0 stored.1.1) ∙ is) in
      (there.0, (place, there.1))

  -- the first lock of a process is there
  pub first_own_there : IsAtRest s → (owner : ℕ) (first : Option ℕ) → LivesAt s owner
      → first ≡ first_handle (own_handles_at owner s) → ForSome first (λ at. IsStored at s)
  first_own_there rest owner first lives is_first at is =
      let here = stored_here owner lives.0 s sound lives.1 rest at (first_handle-in (own_handles_at owner s) at (sym is ∙ is_first)) in
      (here.0, here.1.0)

  -- so is the one that its process made next
  pub next_own_there : IsAtRest s → (lock : ℕ) (next : Option ℕ) → IsStored lock s
      → ((process : ℕ) → IsIn lock (own_handles_at process s) → next ≡ handle_after lock (own_handles_at process s))
      → ForSome next (λ at. IsStored at s)
  next_own_there rest lock next stored follows at is =
      let row = stored.0 in
      let owned = sound.owned.owned lock row (inl stored.1) in
      let owner = owned.0.at in
      let lives : IsProcess owner row.pid s = (owned.0, (owned.2.0, refl, owned.2.1)) in
      let handles = own_handles_at owner s in
      let in_own : IsIn lock handles = subst (IsIn lock) (sym (its_handles owner row.pid s sound lives))
      (owned_here owner row.pid s sound lives lock row stored.1 refl) in
      let here = stored_here owner row.pid s sound lives rest at (handle_after-in lock handles at (sym is ∙ follows owner in_own)) in
      (here.0, here.1.0)
