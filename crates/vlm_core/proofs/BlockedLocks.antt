-- The locks that a lock blocks, and those that block it, as the readers show them.
use Rattle.std.proofs.Common.{◌≡◌, ◌≢◌, ◌&&◌, ◌<◌, ℕ, Bool, true, false, not, eq-eqb, List, [], ◌∷◌, ◌++◌, map, Option}
use Rattle.std.proofs.Common.{None, Some, refl, sym, ap, ◌∙◌, subst, inl, inr}
use Rattle.std.specs.Prelude.{◌==◌}
use Rattle.std.specs.Option.{option_map_or}
use Rattle.std.specs.List.{AllByRecursion}
use Rattle.std.proofs.lemmas.Bool.{eqb-true}
use Rattle.std.proofs.lemmas.List.{map-append}
use Rattle.std.proofs.lemmas.List.Elements.{All-from_recursion, recursion_from_All}
use Rattle.std.proofs.lemmas.Option.{same_Some}
use Rattle.vlm_words.specs.declared.locks.LockState.{LockState}
use Rattle.vlm_words.specs.declared.resources.Queue.{Queue}
use Rattle.vlm_words.specs.declared.resources.Queue.TheVariants.{Granted, Conversion, Waiting}
use Rattle.vlm_words.specs.State.{Resource, State}
use Rattle.vlm_model.specs.Deadlocks.{wanted_number}
use Rattle.vlm_model.specs.QueueOrder.{IsInOrderOfRequests, QueuesAreInOrderOfRequests}
use Rattle.vlm_model.proofs.Pairs.{EachPair}
use Rattle.vlm_machine.proofs.Pairing.{pairs_by_recursion}
use Rattle.vlm_collections.specs.Lists.{IsIn}
use Rattle.vlm_collections.proofs.HandleLists.{in_ahead, in_behind, in_either, in_map}
use Rattle.vlm_store.specs.declared.Place.TheVariants.{Queued}
use Rattle.vlm_store.specs.Plain.{plain_resource, plain_resources}
use Rattle.vlm_store.specs.Records.{FindsLock, IsSound, Records, StoredLock, StoredResource, locks_at, queued, resource_at, rows_of_locks}
use Rattle.vlm_store.proofs.Records.{queue_at, resource_is}
use Rattle.vlm_queue.specs.Views.{rows_in}
use Rattle.vlm_locks.specs.declared.located_locks.LocatedLock.{LocatedLock}
use Rattle.vlm_locks.specs.Standing.{IsLocated}
use Rattle.vlm_locks.proofs.QueuedLocks.{one_lock, queued_stored, resource_among}
use Rattle.vlm_cycle.specs.Blocking.{AreInOrder, IsFirstFrom, IsFirstOf, IsNextOn, IsOn, IsRising, all_locks}
use Rattle.vlm_cycle.proofs.Blocking.{on_all}
use Rattle.vlm_cycle.proofs.Listed.{lock_of, row_in}
use Rattle.vlm_core.specs.declared.locks.LockView.{LockView}
use Rattle.vlm_core.specs.Locks.{HasLockIn, IsNamed, IsViewOf, lock_view}
use Rattle.vlm_queue.proofs.Indexed.{rows_in-plain}
use Rattle.vlm_core.specs.Blockers.{AreNotTogether, FirstShown, FirstStoredFrom, IsFirstShown, IsNextShown, IsShownFrom, Standing, locks_in_order}

-- ---- the order of the queues

-- what holds of each holds of one of them
each_in : {A : Type 0} (P : A → Type 0) (xs : List A) (x : A) → AllByRecursion P xs → IsIn x xs → P x
each_in P [] x each there = absurd there
each_in P (y ∷ ys) x each there = elim there [ inl here ↦ subst P here each.0 | inr later ↦ each_in P ys x each.1 later ]

-- rows that rise pair by pair rise
rising : (rows : List LockState) → EachPair (λ a b. wanted_number a < wanted_number b) rows → IsRising rows
rising [] pairs = tt
rising (row ∷ rows) pairs = (
  λ other there. each_in (λ b. wanted_number row < wanted_number b) rows other pairs.0 there,
  rising rows pairs.1,
)

-- the law, of the records
pub records_in_order : (s : State) (records : Records) → s.resources ≡ plain_resources records → QueuesAreInOrderOfRequests s → AreInOrder records
records_in_order s records are law = record {
  converting = λ r there.
      let both = of_one r there in
      rising (rows_of_locks r.converting)
      (pairs_by_recursion (λ a b. wanted_number a < wanted_number b)
      (rows_of_locks r.converting) both.converting.rising);
  waiting = λ r there.
      let both = of_one r there in
      rising (rows_of_locks r.waiting)
      (pairs_by_recursion (λ a b. wanted_number a < wanted_number b) (rows_of_locks r.waiting) both.waiting.rising);
}
  where
    each : AllByRecursion (IsInOrderOfRequests s.next_request) (plain_resources records)
    each = subst (AllByRecursion (IsInOrderOfRequests s.next_request)) are (recursion_from_All (IsInOrderOfRequests s.next_request) s.resources law)

    of_one : (r : StoredResource) → IsIn r records.resources → IsInOrderOfRequests s.next_request (plain_resource r)
    of_one r there =
        each_in (IsInOrderOfRequests s.next_request) (plain_resources records) (plain_resource r) each (in_map plain_resource r records.resources there)

-- ---- rows and their locks

-- the rows of two lists
rows_both : (xs ys : List StoredLock) → rows_of_locks (xs ++ ys) ≡ rows_of_locks xs ++ rows_of_locks ys
rows_both xs ys = map-append (λ (k : StoredLock). k.row) xs ys

-- the rows of all locks
pub all_rows : (r : StoredResource) → rows_of_locks (all_locks r) ≡ locks_in_order (plain_resource r)
all_rows r =
    rows_both r.granted (r.converting ++ r.waiting) ∙ ap (λ rows. rows_of_locks r.granted ++ rows) (rows_both r.converting r.waiting)

-- the queue of one of all locks
queue_of_lock : (k : StoredLock) (r : StoredResource) → IsIn k (all_locks r) → (queue : Queue) × IsIn k (queued queue r)
queue_of_lock k r there = elim (in_either k r.granted (r.converting ++ r.waiting) there) [
  | inl granted ↦ (Granted, granted)
  | inr later ↦ elim (in_either k r.converting r.waiting later) [
    | inl converting ↦ (Conversion, converting)
    | inr waiting ↦ (Waiting, waiting)
  ]
]

-- and a lock of a queue is one of all
lock_of_queue : (queue : Queue) (k : StoredLock) (r : StoredResource) → IsIn k (queued queue r) → IsIn k (all_locks r)
lock_of_queue Granted k r there = in_ahead k r.granted (r.converting ++ r.waiting) there
lock_of_queue Conversion k r there = in_behind k r.granted (r.converting ++ r.waiting) (in_ahead k r.converting r.waiting there)
lock_of_queue Waiting k r there = in_behind k r.granted (r.converting ++ r.waiting) (in_behind k r.converting r.waiting there)

-- where a lock is among others
split_at : (k : StoredLock) (ks : List StoredLock) → IsIn k ks → (before : List StoredLock) × (rest : List StoredLock) × (ks ≡ before ++ k ∷ rest)
split_at k [] there = absurd there
split_at k (x ∷ ks) there = elim there [
  | inl here ↦ ([], ks, ap (λ y. y ∷ ks) here)
  | inr later ↦ (let found = split_at k ks later in (x ∷ found.0, found.1, ap (λ ys. x ∷ ys) found.2))
]

-- ---- the first lock that passes

-- none passes
none_of : (P : LockState → Type 0) (ks : List StoredLock) → IsFirstOf P ks None → AllByRecursion (λ row. ¬ P row) (rows_of_locks ks)
none_of P [] first = tt
none_of P (k ∷ ks) first = elim first [
  | inl here ↦ (let never = here.1 in cc)
  | inr later ↦ (later.0, none_of P ks later.1)
]

-- one is the first
record FoundAt (P : LockState → Type 0) (ks : List StoredLock) (at : ℕ) : Type 0 where
  passed : List StoredLock
  row : LockState
  rest : List StoredLock
  parts : ks ≡ passed ++ record { at = at; row = row } ∷ rest
  passes : P row
  first : AllByRecursion (λ other. ¬ P other) (rows_of_locks passed)

found_of : (P : LockState → Type 0) (ks : List StoredLock) (at : ℕ) → IsFirstOf P ks (Some at) → FoundAt P ks at
found_of P [] at first = cc
found_of P (k ∷ ks) at first = elim first [
  | inl here ↦
      (let same : k.at ≡ at = sym (same_Some at k.at here.1) in
      record { passed = []; row = k.row; rest = ks; parts = ap (λ (n : ℕ). record { at = n; row = k.row } ∷ ks) same; passes = here.0; first = tt })
  | inr later ↦
      (let behind = found_of P ks at later.1 in
      record {
        passed = k ∷ behind.passed;
        row = behind.row;
        rest = behind.rest;
        parts = ap (λ ys. k ∷ ys) behind.parts;
        passes = behind.passes;
        first = (later.0, behind.first);
      })
]

module _ (s : Records) (sound : IsSound s) where
  -- a lock of this handle, as it is viewed
  viewed : (r : StoredResource) → IsIn r s.resources → (at : ℕ) (row : LockState) (view : LockView)
      → IsIn (record { at = at; row = row }) (all_locks r) → IsViewOf s at view
      → (queue : Queue) × (IsIn row (rows_in queue (plain_resource r)) × (view ≡ lock_view (plain_resource r) queue row))
  viewed r there at row view among v =
      let here = queue_of_lock (record { at = at; row = row }) r among in
      let one : Queued r.at here.0 ≡ Queued v.resource.at v.queue =
      sound.one_place at row v.row (Queued r.at here.0) (Queued v.resource.at v.queue)
      (subst (IsIn (record { at = at; row = row })) (sym (queue_at s sound r there here.0)) here.1)
      (subst (IsIn (record { at = at; row = v.row })) (sym (queue_at s sound v.resource v.exists v.queue)) v.among) in
      let same_at : r.at ≡ v.resource.at = cc in
      let same : v.resource ≡ r =
      same_Some v.resource r
      (sym (resource_is v.resource s.resources sound.resources_apart v.exists)
      ∙ ap (λ h. resource_at h s.resources) (sym same_at)
      ∙ resource_is r s.resources sound.resources_apart there) in
      let same_queue : v.queue ≡ here.0 = cc in
      let same_row : v.row ≡ row =
      one_lock s sound at v.row row (queued_stored s sound v.resource v.exists v.queue (record { at = at; row = v.row }) v.among)
      (queued_stored s sound r there here.0 (record { at = at; row = row }) here.1) in (
        here.0,
        (
          subst (IsIn row) (sym (rows_in-plain here.0 r)) (row_in (record { at = at; row = row }) (queued here.0 r) here.1),
          v.shown ∙ ap (λ (x : StoredResource). lock_view (plain_resource x) v.queue v.row) same ∙ ap (λ q. lock_view (plain_resource r) q v.row) same_queue
              ∙ ap (lock_view (plain_resource r) here.0) same_row,
        ),
      )

  -- the first that passes
  shown : (r : StoredResource) → IsIn r s.resources → (P : LockState → Type 0) (ks : List StoredLock)
      → ((k : StoredLock) → IsIn k ks → IsIn k (all_locks r)) → (at : ℕ) (view : LockView)
      → IsFirstOf P ks (Some at) → IsViewOf s at view → FirstShown (plain_resource r) P (rows_of_locks ks) (Some view)
  shown r there P ks within at view first v =
      let found = found_of P ks at first in
      let k : StoredLock = record { at = at; row = found.row } in
      let among : IsIn k ks = subst (IsIn k) (sym found.parts) (in_behind k found.passed (k ∷ found.rest) (inl refl)) in
      let is = viewed r there at found.row view (within k among) v in
      record {
        passed = rows_of_locks found.passed;
        lock = found.row;
        rest = rows_of_locks found.rest;
        parts = ap rows_of_locks found.parts ∙ rows_both found.passed (k ∷ found.rest);
        passes = found.passes;
        first = All-from_recursion (λ lock. ¬ P lock) (rows_of_locks found.passed) found.first;
        queue = is.0;
        queued = is.1.0;
        shown = is.1.1;
      }

  -- or none
  none_shown : (r : StoredResource) (P : LockState → Type 0) (ks : List StoredLock) → IsFirstOf P ks None
      → FirstShown (plain_resource r) P (rows_of_locks ks) None
  none_shown r P ks first = All-from_recursion (λ lock. ¬ P lock) (rows_of_locks ks) (none_of P ks first)

  module _ (R : Standing) (f : LocatedLock) where
    -- how other locks of a resource stand to the located lock
    abbrev to_it : Resource → LockState → Type 0
    to_it r = R r f.row

    -- what is found is shown
    pub found_shown : (from : Option ℕ) (at : ℕ) (view : LockView) → IsNextOn (λ r. R r f.row) s f.res from (Some at)
        → IsViewOf s at view → IsShownFrom R s f from (Some view)
    found_shown from at view next v r found = of_from from (next r found)
      where
        there : IsIn r s.resources
        there = resource_among f.res s.resources r found

        of_from : (from : Option ℕ) → IsFirstFrom (to_it (plain_resource r)) from (all_locks r) (Some at)
            → FirstStoredFrom r (to_it (plain_resource r)) from (Some view)
        of_from None first =
            subst (λ rows. FirstShown (plain_resource r) (to_it (plain_resource r)) rows (Some view)) (all_rows r)
            (shown r there (to_it (plain_resource r)) (all_locks r) (λ k among. among) at view first v)
        of_from (Some last) first = λ before rest row parts.
            shown r there (to_it (plain_resource r)) rest
            (λ k among. subst (IsIn k) (sym parts)
            (in_behind k before (record { at = last; row = row } ∷ rest) (inr among))) at view
            (first before rest row parts) v

    pub nothing_shown : (from : Option ℕ) → IsNextOn (λ r. R r f.row) s f.res from None → IsShownFrom R s f from None
    nothing_shown from next r found = of_from from (next r found)
      where
        of_from : (from : Option ℕ) → IsFirstFrom (to_it (plain_resource r)) from (all_locks r) None → FirstStoredFrom r (to_it (plain_resource r)) from None
        of_from None first =
            subst (λ rows. FirstShown (plain_resource r) (to_it (plain_resource r)) rows None) (all_rows r)
            (none_shown r (to_it (plain_resource r)) (all_locks r) first)
        of_from (Some last) first = λ before rest row parts. none_shown r (to_it (plain_resource r)) rest (first before rest row parts)

  -- ---- the locks of the plain state

  -- a plain resource is that of a record
  plain_of : (r : Resource) (rs : List StoredResource) → IsIn r (map plain_resource rs) → (x : StoredResource) × (IsIn x rs × (plain_resource x ≡ r))
  plain_of r [] there = absurd there
  plain_of r (x ∷ rs) there = elim there [
    | inl here ↦ (x, (inl refl, here))
    | inr later ↦ (let found = plain_of r rs later in (found.0, (inr found.1.0, found.1.1)))
  ]

  -- a lock of a plain resource is stored on its record
  pub lock_on : (x : StoredResource) (r : Resource) (queue : Queue) (row : LockState) → plain_resource x ≡ r → IsIn row (rows_in queue r)
      → (k : StoredLock) × (IsIn k (queued queue x) × (k.row ≡ row))
  lock_on x r queue row is there =
      lock_of row (queued queue x) (subst (IsIn row) (rows_in-plain queue x) (subst (λ y. IsIn row (rows_in queue y)) (sym is) there))

  -- no lock has the ID
  pub none_named : (t : State) → t.resources ≡ plain_resources s → (lkid : ℕ) → FindsLock s lkid None
      → (r : Resource) (queue : Queue) (row : LockState) → HasLockIn t r queue row → IsNamed lkid row → ⊥
  none_named t are lkid none r queue row has named =
      let x = plain_of r s.resources (subst (IsIn r) are has.exists) in
      let k = lock_on x.0 r queue row x.1.1 has.queued in
      none k.0.at k.0.row (inl (queued_stored s sound x.0 x.1.0 queue k.0 k.1.0)) (ap (λ (y : LockState). y.lkid) k.1.1 ∙ named)

  -- a located lock is there
  pub has_located : (t : State) → t.resources ≡ plain_resources s → (f : LocatedLock) (located : IsLocated f s)
      → HasLockIn t (plain_resource located.resource) f.queue f.row
  has_located t are f located = record {
    exists = subst (IsIn (plain_resource located.resource)) (sym are)
        (in_map plain_resource located.resource s.resources
        (resource_among f.res s.resources located.resource located.found));
    queued = subst (IsIn f.row) (sym (rows_in-plain f.queue located.resource))
        (row_in (record { at = f.lock; row = f.row }) (queued f.queue located.resource) located.among);
  }

  -- the resource of a located lock by its ID
  named_on : (f : LocatedLock) → IsLocated f s → (x : StoredResource) → IsIn x s.resources
      → (queue : Queue) (k : StoredLock) → IsIn k (queued queue x) → k.row.lkid ≡ f.row.lkid → x.at ≡ f.res
  named_on f located x there queue k among named =
      let own_there = resource_among f.res s.resources located.resource located.found in
      let its_row = queued_stored s sound located.resource own_there f.queue (record { at = f.lock; row = f.row }) located.among in
      let same : k.at ≡ f.lock = sound.lkids_apart k.at f.lock k.row f.row (inl (queued_stored s sound x there queue k among)) (inl its_row) named in
      let one : Queued x.at queue ≡ Queued f.res f.queue =
      sound.one_place k.at k.row f.row (Queued x.at queue) (Queued f.res f.queue)
      (subst (IsIn k) (sym (queue_at s sound x there queue)) among)
      (subst (λ h. IsIn (record { at = h; row = f.row }) (locks_at (Queued f.res f.queue) s)) (sym same)
      (subst (λ o. IsIn (record { at = f.lock; row = f.row }) (option_map_or (queued f.queue) o [])) (sym located.found) located.among)) in
      cc

  -- locks of two resources are not together
  pub not_together : (t : State) → t.resources ≡ plain_resources s → (f last : LocatedLock) → IsLocated f s
      → IsLocated last s → (lkid after : ℕ) → f.row.lkid ≡ lkid → last.row.lkid ≡ after
      → (last.res ≡ f.res → ⊥) → AreNotTogether t lkid after
  not_together t are f last located located_last lkid after its its_last differ r queue other row last_row has has_last named named_last =
      let x = plain_of r s.resources (subst (IsIn r) are has.exists) in
      let k = lock_on x.0 r queue row x.1.1 has.queued in
      let l = lock_on x.0 r other last_row x.1.1 has_last.queued in
      differ
      (sym (named_on last located_last x.0 x.1.0 other l.0 l.1.0 (ap (λ (y : LockState). y.lkid) l.1.1 ∙ named_last ∙ sym its_last))
      ∙ named_on f located x.0 x.1.0 queue k.0 k.1.0 (ap (λ (y : LockState). y.lkid) k.1.1 ∙ named ∙ sym its))

  -- the test on the handles of two resources
  pub one_resource : (a b : ℕ) → false ≡ not ((a == b) && true) → a ≡ b
  one_resource a b test = of_test (a == b) refl test
    where
      of_test : (c : Bool) → (a == b) ≡ c → false ≡ not (c && true) → a ≡ b
      of_test true is test = eqb-true a b is
      of_test false is test = cc

  pub two_resources : (a b : ℕ) → true ≡ not ((a == b) && true) → a ≢ b
  two_resources a b test same = let never : true ≡ false = test ∙ ap (λ c. not (c && true)) (eq-eqb a b same) in cc

  module _ (t : State) (are : t.resources ≡ plain_resources s) (f : LocatedLock) (located : IsLocated f s) (lkid : ℕ) (its : f.row.lkid ≡ lkid) where
    -- the first lock on a side of the located lock
    pub first_is : (R : Standing) (view : Option LockView) → IsShownFrom R s f None view → IsFirstShown R t lkid view
    first_is R view is = record {
      resource = plain_resource located.resource;
      queue = f.queue;
      row = f.row;
      there = has_located t are f located;
      named = its;
      first = is located.resource located.found;
    }

    module _ (last : LocatedLock) (located_last : IsLocated last s) (same : last.res ≡ f.res) (at : ℕ) (handle : last.lock ≡ at) where
      -- another lock of its resource
      among : IsIn (record { at = at; row = last.row }) (queued last.queue located.resource)
      among =
          let one : located_last.resource ≡ located.resource =
          same_Some located_last.resource located.resource (sym located_last.found ∙ ap (λ h. resource_at h s.resources) same ∙ located.found) in
          subst (λ (r : StoredResource). IsIn (record { at = at; row = last.row }) (queued last.queue r)) one
          (subst (λ h. IsIn (record { at = h; row = last.row }) (queued last.queue located_last.resource)) handle located_last.among)

      pub last_on : IsOn at f.res s
      last_on = on_all s f.res at located.resource last.queue last.row located.found among

      -- the next one after that lock
      pub next_is : (R : Standing) (after : ℕ) → last.row.lkid ≡ after → (view : Option LockView)
          → IsShownFrom R s f (Some at) view → IsNextShown R t lkid after view
      next_is R after its_last view is =
          let k : StoredLock = record { at = at; row = last.row } in
          let split = split_at k (all_locks located.resource) (lock_of_queue last.queue k located.resource among) in
          record {
            resource = plain_resource located.resource;
            queue = f.queue;
            row = f.row;
            there = has_located t are f located;
            named = its;
            before = rows_of_locks split.0;
            last = last.row;
            rest = rows_of_locks split.1;
            parts = sym (all_rows located.resource) ∙ ap rows_of_locks split.2 ∙ rows_both split.0 (k ∷ split.1);
            last_named = its_last;
            next = is located.resource located.found split.0 split.1 last.row split.2;
          }
