-- Walks from a lock back to the head of its queue.
use Rattle.std.proofs.Common.{◌≡◌, ℕ, ◌<◌, List, [], ◌∷◌, ◌++◌, length, map, Option, None, Some, refl, sym, ap, ◌∙◌}
use Rattle.std.proofs.Common.{subst, inl, inr, eq-eqb, ne_eqb, arith, length-append}
use Rattle.std.specs.Prelude.{◌==◌, if◌then◌else◌}
use Rattle.std.specs.Option.{option_map_or}
use Rattle.std.proofs.lemmas.Option.{none-some}
use Rattle.vlm_words.specs.declared.locks.LockState.{LockState}
use Rattle.vlm_words.specs.declared.resources.Queue.{Queue}
use Rattle.vlm_collections.specs.Lists.{IsIn, handle_before, last_from}
use Rattle.vlm_collections.proofs.Walks.{before_from-among, handle_before-in, last_handle-in}
use Rattle.vlm_records.specs.declared.handles.Place.{Place}
use Rattle.vlm_records.specs.declared.handles.Place.TheVariants.{Queued}
use Rattle.vlm_store.specs.Records.{AreApart, IsSound, Records, StoredLock, Stores, locks_at, queued, rows_of_locks}
use Rattle.vlm_store.proofs.Walks.{lock_among}
use Rattle.vlm_queue.specs.Walks.{IsInQueue}
use Rattle.vlm_locks.specs.declared.located_locks.LocatedLock.{LocatedLock}
use Rattle.vlm_locks.specs.Standing.{IsLocated}
use Rattle.vlm_locks.proofs.QueuedLocks.{resource_among, stands}
use Rattle.vlm_cycle.specs.Covering.{rows_ahead}
use Rattle.vlm_cycle.specs.Waiting.{rows_before}
use Rattle.vlm_cycle.proofs.Keeping.{apart_of}
use Rattle.vlm_cycle.proofs.Listed.{RowsApart, before_is}

-- the rows from the head up to the lock with this handle
abbrev pub rows_until : Option ℕ → List StoredLock → List LockState
rows_until None ks = []
rows_until (Some at) [] = []
rows_until (Some at) (k ∷ rest) = if k.at == at then k.row ∷ [] else k.row ∷ rows_until (Some at) rest

-- the handles of the locks
abbrev pub handles : List StoredLock → List ℕ
handles ks = map (λ (k : StoredLock). k.at) ks

record Split (k : StoredLock) (ks : List StoredLock) : Type 0 where
  front : List StoredLock
  back : List StoredLock
  parted : ks ≡ front ++ k ∷ back

split_at : (k : StoredLock) (ks : List StoredLock) → IsIn k ks → Split k ks
split_at k [] there = absurd there
split_at k (x ∷ ks) there = elim there [
  | inl here ↦ record { front = []; back = ks; parted = ap (λ y. y ∷ ks) here }
  | inr later ↦ (let found = split_at k ks later in record { front = x ∷ found.front; back = found.back; parted = ap (λ ys. x ∷ ys) found.parted })
]

lock_with : (at : ℕ) (ks : List StoredLock) → IsIn at (handles ks) → (row : LockState) × IsIn (record { at = at; row = row }) ks
lock_with at [] there = absurd there
lock_with at (k ∷ ks) there = elim there [
  | inl here ↦ (k.row, inl (ap (λ h. record { at = h; row = k.row }) here))
  | inr later ↦ (let found = lock_with at ks later in (found.0, inr found.1))
]

-- a lock before another has another handle
differs : (x : StoredLock) (row : LockState) (at : ℕ) (ks : List StoredLock) → AreApart (x ∷ ks) → IsIn (record { at = at; row = row }) ks → ¬ (x.at ≡ at)
differs x row at ks apart there same = apart.0 row (subst (λ h. IsIn (record { at = h; row = row }) ks) (sym same) there)

-- up to a lock among others
until_among : (k : StoredLock) (front back : List StoredLock) → AreApart (front ++ k ∷ back)
    → rows_until (Some k.at) (front ++ k ∷ back) ≡ rows_of_locks front ++ k.row ∷ []
until_among k [] back apart = rw (eq-eqb k.at k.at refl) refl
until_among k (x ∷ front) back apart =
    rw (ne_eqb x.at k.at (differs x k.row k.at (front ++ k ∷ back) apart (lock_among k front back)))
    (ap (λ rows. x.row ∷ rows) (until_among k front back apart.1))

some_last : (from : ℕ) (hs : List ℕ) → last_from (Some from) hs ≡ None → ⊥
some_last from [] none = none-some from (sym none)
some_last from (x ∷ hs) none = some_last x hs none

in_front : (at : ℕ) (front back : List StoredLock) → IsIn at (handles front) → (row : LockState) × IsIn (record { at = at; row = row }) (front ++ back)
in_front at [] back there = absurd there
in_front at (k ∷ front) back there = elim there [
  | inl here ↦ (k.row, inl (ap (λ h. record { at = h; row = k.row }) here))
  | inr later ↦ (let found = in_front at front back later in (found.0, inr found.1))
]

-- up to the last lock of the first part
until_last : (x : StoredLock) (front back : List StoredLock) → AreApart (x ∷ front ++ back)
    → rows_until (last_from (Some x.at) (handles front)) (x ∷ front ++ back) ≡ x.row ∷ rows_of_locks front
until_last x [] back apart = rw (eq-eqb x.at x.at refl) refl
until_last x (y ∷ front) back apart = goes_on (last_from (Some y.at) (handles front)) refl (until_last y front back apart.1)
  where
    goes_on : (o : Option ℕ) → last_from (Some y.at) (handles front) ≡ o → rows_until o (y ∷ front ++ back) ≡ y.row ∷ rows_of_locks front
        → rows_until o (x ∷ y ∷ front ++ back) ≡ x.row ∷ y.row ∷ rows_of_locks front
    goes_on None is rest = absurd (some_last y.at (handles front) is)
    goes_on (Some at) is rest =
        let found = in_front at (y ∷ front) back (last_handle-in (handles (y ∷ front)) at (sym is)) in
        rw (ne_eqb x.at at (differs x found.0 at (y ∷ front ++ back) apart found.1)) (ap (λ rows. x.row ∷ rows) rest)

handles_both : (front : List StoredLock) (k : StoredLock) (back : List StoredLock) → handles (front ++ k ∷ back) ≡ handles front ++ k.at ∷ handles back
handles_both [] k back = refl
handles_both (x ∷ front) k back = ap (λ hs. x.at ∷ hs) (handles_both front k back)

-- the handle of a lock is not among those before it
absent : (k : StoredLock) (front back : List StoredLock) → AreApart (front ++ k ∷ back) → ¬ IsIn k.at (handles front)
absent k [] back apart there = absurd there
absent k (x ∷ front) back apart there = elim there [
  | inl here ↦ differs x k.row k.at (front ++ k ∷ back) apart (lock_among k front back) here
  | inr later ↦ absent k front back apart.1 later
]

until_before : (k : StoredLock) (front back : List StoredLock) → AreApart (front ++ k ∷ back)
    → rows_until (handle_before k.at (handles (front ++ k ∷ back))) (front ++ k ∷ back) ≡ rows_of_locks front
until_before k front back apart =
    rw (ap (handle_before k.at) (handles_both front k back)
    ∙ before_from-among None (handles front) k.at (handles back) (absent k front back apart)) (of_front front apart)
  where
    of_front : (front : List StoredLock) → AreApart (front ++ k ∷ back) → rows_until (last_from None (handles front)) (front ++ k ∷ back) ≡ rows_of_locks front
    of_front [] apart = refl
    of_front (x ∷ front) apart = until_last x front (k ∷ back) apart

-- a lock in its queue, and the rows up to it
pub record PassesBack (res : ℕ) (queue : Queue) (lock : ℕ) (previous : Option ℕ) (s : Records) : Type 0 where
  pub row : LockState
  pub stored : Stores s lock row
  pub left : rows_until (Some lock) (locks_at (Queued res queue) s) ≡ rows_until previous (locks_at (Queued res queue) s) ++ row ∷ []
  pub there : IsInQueue res queue previous s

-- `previous` leads to the lock before one of the queue
abbrev pub LeadsBack : Records → ℕ → Option ℕ → Type 0
LeadsBack s lock previous = (place : Place) (row : LockState) → IsIn (record { at = lock; row = row }) (locks_at place s)
    → previous ≡ handle_before lock (map (λ (k : StoredLock). k.at) (locks_at place s))

before_there : (s : Records) (res : ℕ) (queue : Queue) (lock : ℕ) (previous : Option ℕ)
    → previous ≡ handle_before lock (handles (locks_at (Queued res queue) s)) → IsInQueue res queue previous s
before_there s res queue lock previous is at some =
    lock_with at (locks_at (Queued res queue) s) (handle_before-in lock (handles (locks_at (Queued res queue) s)) at (sym some ∙ is))

at_one : (s : Records) (res : ℕ) (queue : Queue) (lock : ℕ) (previous : Option ℕ) → IsSound s → (row : LockState)
    → IsIn (record { at = lock; row = row }) (locks_at (Queued res queue) s)
    → previous ≡ handle_before lock (handles (locks_at (Queued res queue) s)) → PassesBack res queue lock previous s
at_one s res queue lock previous sound row among is =
    let place = Queued res queue in
    let ks = locks_at place s in
    let k : StoredLock = record { at = lock; row = row } in
    let split = split_at k ks among in
    let apart = subst AreApart split.parted (sound.locks_apart place) in
    record {
      row = row;
      stored = (place, among);
      left =
          ap (rows_until (Some lock)) split.parted ∙ until_among k split.front split.back apart
          ∙ ap (λ rows. rows ++ row ∷ [])
          (sym (ap (λ o. rows_until o ks) is
          ∙ ap (λ (xs : List StoredLock). rows_until (handle_before lock (handles xs)) xs) split.parted
          ∙ until_before k split.front split.back apart));
      there = before_there s res queue lock previous is;
    }

-- a walk back goes on to the lock before
pub passes_back : (s : Records) (res : ℕ) (queue : Queue) (lock : ℕ) (previous : Option ℕ) → IsSound s
    → IsInQueue res queue (Some lock) s → LeadsBack s lock previous
    → PassesBack res queue lock previous s
passes_back s res queue lock previous sound come leads =
    let among = come lock refl in at_one s res queue lock previous sound among.0 among.1 (leads (Queued res queue) among.0 among.1)

-- a walk back ends at a lock
pub ends_back : (s : Records) (res : ℕ) (queue : Queue) (lock : ℕ) → IsSound s → IsInQueue res queue (Some lock) s
    → PassesBack res queue lock (handle_before lock (map (λ (k : StoredLock). k.at) (locks_at (Queued res queue) s))) s
ends_back s res queue lock sound come =
    let among = come lock refl in at_one s res queue lock (handle_before lock (handles (locks_at (Queued res queue) s))) sound among.0 among.1 refl

-- fewer rows are left before a lock
pub fewer_before : (row : LockState) (rest left : List LockState) → left ≡ rest ++ row ∷ [] → length rest < length left
fewer_before row rest left is = rw is (omega (arith, length-append rest (row ∷ [])))

-- a walk begins at the lock before the located one
pub record BeginsBack (f : LocatedLock) (previous : Option ℕ) (s : Records) : Type 0 where
  pub left : rows_until previous (locks_at (Queued f.res f.queue) s) ≡ rows_ahead f s
  pub there : IsInQueue f.res f.queue previous s

pub begins_back : (s : Records) (f : LocatedLock) (previous : Option ℕ) → IsLocated f s → LeadsBack s f.lock previous → BeginsBack f previous s
begins_back s f previous located leads =
    let place = Queued f.res f.queue in
    let ks = locks_at place s in
    let k : StoredLock = record { at = f.lock; row = f.row } in
    let among = stands s f located in
    let split = split_at k ks among in
    let apart = subst AreApart split.parted (located.sound.locks_apart place) in
    let is = leads place f.row among in
    let rows_apart : RowsApart (rows_of_locks ks) =
    subst (λ o. RowsApart (rows_of_locks (option_map_or (queued f.queue) o []))) (sym located.found)
    (apart_of s located.sound located.resource (resource_among f.res s.resources located.resource located.found) f.queue) in
    record {
      left =
          ap (λ o. rows_until o ks) is
          ∙ ap (λ (xs : List StoredLock). rows_until (handle_before f.lock (handles xs)) xs) split.parted
          ∙ until_before k split.front split.back apart
          ∙ sym (ap (λ xs. rows_before f.row.lkid (rows_of_locks xs)) split.parted ∙ ap (rows_before f.row.lkid) (rows_both split.front k split.back)
          ∙ before_is (rows_of_locks split.front) f.row (rows_of_locks split.back)
          (subst RowsApart (ap rows_of_locks split.parted ∙ rows_both split.front k split.back) rows_apart));
      there = before_there s f.res f.queue f.lock previous is;
    }
  where
    rows_both : (front : List StoredLock) (k : StoredLock) (back : List StoredLock)
        → rows_of_locks (front ++ k ∷ back) ≡ rows_of_locks front ++ k.row ∷ rows_of_locks back
    rows_both [] k back = refl
    rows_both (x ∷ front) k back = ap (λ rows. x.row ∷ rows) (rows_both front k back)
