-- The locks of a process, and what a search looks at for their requests.
use Rattle.std.proofs.Common.{◌≡◌, ◌⊎◌, ◌<◌, ℕ, List, [], ◌∷◌, ◌++◌, length, Option, None, Some, sym, ap, ◌∙◌, subst, inl, inr, arith}
use Rattle.std.specs.Option.{ForSome}
use Rattle.std.proofs.lemmas.List.{append_assoc}
use Rattle.std.proofs.lemmas.Option.{same_Some}
use Rattle.vlm_words.specs.declared.locks.LockState.{LockState}
use Rattle.vlm_collections.specs.Lists.{IsApart, IsIn, first_handle, handle_after}
use Rattle.vlm_collections.proofs.Walks.{handle_after-among}
use Rattle.vlm_records.specs.declared.handles.Place.TheVariants.{Queued}
use Rattle.vlm_words.specs.declared.resources.Queue.TheVariants.{Granted, Conversion}
use Rattle.vlm_queue.specs.Walks.{rows_queued}
use Rattle.vlm_store.specs.Records.{FindsProcess, IsProcess, IsSound, Records, Stores, locks_at, own_handles_at}
use Rattle.vlm_locks.proofs.ChosenLocks.{absent_before, on_from, on_from_first}
use Rattle.vlm_locks.proofs.RunsDown.{its_handles, owned_here, stored_here}
use Rattle.vlm_locks.proofs.QueuedLocks.{one_lock, stands, stored}
use Rattle.vlm_locks.specs.declared.located_locks.LocatedLock.{LocatedLock}
use Rattle.vlm_locks.specs.Standing.{IsLocated}
use Rattle.vlm_cycle.specs.declared.scratch.Scratch.{Scratch}
use Rattle.vlm_cycle.specs.Marking.{Marks}
use Rattle.vlm_cycle.specs.Covering.{IsNearBehind, OwnsNear, OwnsNearAmong}
use Rattle.vlm_cycle.proofs.MarksOneByOne.{GoesOn, goes_step}
use Rattle.vlm_collections.proofs.HandleLists.{in_behind}
use Rattle.vlm_locks.specs.Rest.{IsAtRest}

-- the walk has come to one of these, or to their end
abbrev pub IsAtOwn : Option ℕ → List ℕ → Type 0
IsAtOwn at handles = ForSome at (λ lock. IsIn lock handles)

-- a search looks at a lock of the process for the request of one of these locks
abbrev pub OwnWaitFor : Records → List ℕ → ℕ → Type 0
OwnWaitFor s handles pid = (f : LocatedLock) × (IsIn f.lock handles × IsLocated f s × OwnsNear s f pid)

-- ---- walks

-- a walk stands at a handle
pub record Passed (lock : ℕ) (handles : List ℕ) : Type 0 where
  pub left : on_from (Some lock) handles ≡ lock ∷ on_from (handle_after lock handles) handles
  pub there : IsAtOwn (handle_after lock handles) handles

split_in : (lock : ℕ) (handles : List ℕ) → IsIn lock handles → (done : List ℕ) × (rest : List ℕ) × (handles ≡ done ++ lock ∷ rest)
split_in lock [] there = absurd there
split_in lock (x ∷ handles) there = elim there [
  | inl here ↦ ([], handles, ap (λ y. y ∷ handles) here)
  | inr later ↦ (let found = split_in lock handles later in (x ∷ found.0, found.1, ap (λ ys. x ∷ ys) found.2))
]

first_in : (handles : List ℕ) → IsAtOwn (first_handle handles) handles
first_in [] at is = cc
first_in (x ∷ handles) at is = inl (same_Some x at is)

pub passed : (lock : ℕ) (handles : List ℕ) → IsApart handles → IsIn lock handles → Passed lock handles
passed lock handles apart there =
    let split = split_in lock handles there in
    let done = split.0 in
    let rest = split.1 in
    subst (Passed lock) (sym split.2) (at_split done rest (subst IsApart split.2 apart))
  where
    at_split : (done rest : List ℕ) → IsApart (done ++ lock ∷ rest) → Passed lock (done ++ lock ∷ rest)
    at_split done rest apart =
        let one : (done ++ lock ∷ []) ++ rest ≡ done ++ lock ∷ rest = append_assoc done (lock ∷ []) rest in
        let after = handle_after-among done lock rest (absent_before done lock rest apart) in
        let behind : on_from (handle_after lock (done ++ lock ∷ rest)) (done ++ lock ∷ rest) ≡ rest =
        ap (λ o. on_from o (done ++ lock ∷ rest)) after ∙ ap (on_from (first_handle rest)) (sym one)
        ∙ on_from_first (done ++ lock ∷ []) rest (subst IsApart (sym one) apart) in
        record {
          left = on_from_first done (lock ∷ rest) apart ∙ ap (λ hs. lock ∷ hs) (sym behind);
          there = subst (λ o. IsAtOwn o (done ++ lock ∷ rest)) (sym after)
              (λ at is. in_behind at done (lock ∷ rest) (inr (first_in rest at is)));
        }

-- it begins at the first
pub record Begun (handles : List ℕ) : Type 0 where
  pub left : on_from (first_handle handles) handles ≡ handles
  pub there : IsAtOwn (first_handle handles) handles

pub begun : (handles : List ℕ) → IsApart handles → Begun handles
begun handles apart = record { left = on_from_first [] handles apart; there = first_in handles }

pub fewer : (lock : ℕ) (rest left : List ℕ) → left ≡ lock ∷ rest → length rest < length left
fewer lock rest left is = rw is (omega arith)

module _ (s : Records) (sound : IsSound s) where
  -- a lock is located in one way
  one_located : (f g : LocatedLock) → IsLocated f s → IsLocated g s → f.lock ≡ g.lock → (pid : ℕ) → OwnsNear s g pid → OwnsNear s f pid
  one_located f g is_f is_g same pid near =
      let stored_f = stored s f is_f in
      let stored_g = subst (λ h. Stores s h g.row) (sym same) (stored s g is_g) in
      let row : g.row ≡ f.row = one_lock s sound f.lock g.row f.row stored_g stored_f in
      let place : Queued g.res g.queue ≡ Queued f.res f.queue =
      sound.one_place f.lock g.row f.row (Queued g.res g.queue) (Queued f.res f.queue)
      (subst (λ h. IsIn (record { at = h; row = g.row }) (locks_at (Queued g.res g.queue) s)) (sym same) (stands s g is_g)) (stands s f is_f) in
      let res : g.res ≡ f.res = cc in
      let queue : g.queue ≡ f.queue = cc in
      record {
        request = near.request;
        awaits = record {
          queued = λ granted. near.awaits.queued (queue ∙ granted);
          wanted = ap (λ (r : LockState). r.want) (sym row) ∙ near.awaits.wanted;
          counted = near.awaits.counted;
        };
        near = subst (λ (r : LockState). OwnsNearAmong r.lkid near.request.mode f.queue (rows_queued f.res f.queue s)
            (rows_queued f.res Granted s) (rows_queued f.res Conversion s) pid) row
            (subst (λ q. OwnsNearAmong g.row.lkid near.request.mode q (rows_queued f.res q s)
            (rows_queued f.res Granted s) (rows_queued f.res Conversion s) pid) queue
            (subst (λ h. OwnsNearAmong g.row.lkid near.request.mode g.queue (rows_queued h g.queue s)
            (rows_queued h Granted s) (rows_queued h Conversion s) pid) res near.near));
      }

  -- one lock more is looked at
  pub owns_on : (f : LocatedLock) → IsLocated f s → (lock : ℕ) → f.lock ≡ lock → (left rest all : List ℕ) (initial now after : Scratch) → left ≡ lock ∷ rest
      → Marks (OwnsNear s f) now after → GoesOn (OwnWaitFor s) left all initial now → GoesOn (OwnWaitFor s) rest all initial after
  owns_on f located lock its left rest all initial now after is marks goes =
      goes_step (OwnWaitFor s) (OwnsNear s f) left rest all initial now after
      (λ pid either. subst (λ hs. OwnWaitFor s hs pid) (sym is) (elim either [
        | inl here ↦ (f, (inl (sym its), located, here))
        | inr later ↦ (later.0, (inr later.1.0, later.1.1, later.1.2))
      ]))
      (λ pid some. cases pid (subst (λ hs. OwnWaitFor s hs pid) is some))
      marks goes
    where
      cases : (pid : ℕ) → OwnWaitFor s (lock ∷ rest) pid → OwnsNear s f pid ⊎ OwnWaitFor s rest pid
      cases pid some = elim some.1.0 [
        | inl here ↦ inl (one_located f some.0 located some.1.1 (its ∙ here) pid some.1.2)
        | inr later ↦ inr (some.0, (later, some.1.1, some.1.2))
      ]

  -- what is looked at for its locks is looked at for the process
  pub own_behind : IsAtRest s → (owner pid : ℕ) → IsProcess owner pid s → (other : ℕ) → OwnWaitFor s (own_handles_at owner s) other → IsNearBehind s pid other
  own_behind rest owner pid lives other some =
      let here = stored_here owner pid s sound lives rest some.0.lock some.1.0 in
      let same : some.0.row ≡ here.0 = one_lock s sound some.0.lock some.0.row here.0 (stored s some.0 some.1.1) here.1.0 in
      record { from = some.0; located = some.1.1; owner = ap (λ (r : LockState). r.pid) same ∙ here.1.1; near = some.1.2 }

  pub behind_own : (owner pid : ℕ) → IsProcess owner pid s → (other : ℕ) → IsNearBehind s pid other → OwnWaitFor s (own_handles_at owner s) other
  behind_own owner pid lives other behind = (
    behind.from,
    (
      subst (IsIn behind.from.lock) (sym (its_handles owner pid s sound lives))
          (owned_here owner pid s sound lives behind.from.lock behind.from.row (stored s behind.from behind.located) behind.owner),
      behind.located,
      behind.near,
    ),
  )

  -- for one that does not live nothing is
  pub none_behind : (pid : ℕ) → FindsProcess s pid None → (other : ℕ) → IsNearBehind s pid other → ⊥
  none_behind pid none other behind =
      let owner = behind.located.owner in
      none owner.0 owner.1.0 (owner.1.2 ∙ behind.owner)

-- nobody owns one of none
pub none_own : (s : Records) (handles : List ℕ) → handles ≡ [] → (pid : ℕ) → OwnWaitFor s handles pid → ⊥
none_own s handles none pid some = subst (λ hs. IsIn some.0.lock hs) none some.1.0
