-- What is read of single locks is what the plain machine has.
use Rattle.std.proofs.Common.{◌≡◌, ◌≢◌, ◌<◌, ℕ, List, [], ◌∷◌, ◌++◌, Option, None, Some, IfSome, refl, sym, ap, ◌∙◌, subst, inl, inr, eq-eqb, ne_eqb, arith}
use Rattle.std.specs.Prelude.{flat_map, slice_get}
use Rattle.std.specs.Option.{option_map, option_map_or}
use Rattle.std.proofs.lemmas.Bool.{cases_eq}
use Rattle.std.proofs.lemmas.Option.{none-some, same_Some}
use Rattle.vlm_words.specs.declared.locks.LockState.{LockState}
use Rattle.vlm_words.specs.declared.resources.Queue.{Queue}
use Rattle.vlm_words.specs.declared.resources.Queue.TheVariants.{Granted, Conversion, Waiting}
use Rattle.vlm_words.specs.State.{Resource, State, start}
use Rattle.vlm_collections.specs.Lists.{IsIn, first_handle, handle_after}
use Rattle.vlm_collections.proofs.HandleLists.{in_behind}
use Rattle.vlm_collections.proofs.Images.{IsIn-image, IsIn-of_image}
use Rattle.vlm_collections.proofs.Walks.{first_handle-in, handle_after-in}
use Rattle.vlm_store.specs.declared.Place.{Place}
use Rattle.vlm_store.specs.declared.Place.TheVariants.{Queued}
use Rattle.vlm_store.specs.Plain.{plain_resource, plain_resources}
use Rattle.vlm_store.specs.Records.{AreApart, FindsResource, IsProcess, IsSound, IsStored, OwnLock, Records, StoredLock}
use Rattle.vlm_store.specs.Records.{StoredProcess, StoredResource, Stores, at_after, first_at, locks_at, own_handles_at}
use Rattle.vlm_store.specs.Records.{queued, resource_at, rows_of_locks, sublocks_at, FindsLock}
use Rattle.vlm_store.proofs.Records.{queue_at, resource_is as resource_at-is, in_a_queue}
use Rattle.vlm_store.proofs.Siblings.{all_of_own, own_found}
use Rattle.vlm_store.proofs.Walks.{after-among}
use Rattle.vlm_queue.specs.declared.views.ResourceView.{ResourceView}
use Rattle.vlm_queue.specs.Views.{resource_view, rows_in}
use Rattle.vlm_queue.specs.Walks.{plain_resource_at}
use Rattle.vlm_locks.specs.declared.located_locks.LocatedLock.{LocatedLock}
use Rattle.vlm_locks.specs.Rest.{IsAtRest}
use Rattle.vlm_locks.specs.Rising.{StandById}
use Rattle.vlm_locks.specs.Standing.{IsLocated}
use Rattle.vlm_locks.proofs.RunsDown.{its_handles, owned_here, stored_here, they_rise}
use Rattle.vlm_locks.proofs.QueuedLocks.{IsQueued, in_queue, one_lock, queued_stored, resource_among}
use Rattle.vlm_locks.proofs.Sublocks.{below_of, is_below_it}
use Rattle.vlm_core.specs.declared.locks.LockView.{LockView}
use Rattle.vlm_words.specs.declared.resources.Key.{Key}
use Rattle.vlm_core.specs.Locks.{HasLockIn, IsFirst, IsLaterOwn, IsLaterSublock, IsNextInQueue, IsNextOf, IsResourceOf}
use Rattle.vlm_core.specs.Locks.{IsSublockOf, IsViewOf, LacksLock, ShowsFirst, ShowsLock, lock_view}
use Rattle.vlm_queue.proofs.Indexed.{rows_in-plain}
use Rattle.vlm_locks.proofs.Rising.{none_loose}

-- ---- rows and stored locks

row_among : (queue : Queue) (x : StoredResource) (k : StoredLock) → IsIn k (queued queue x) → IsIn k.row (rows_in queue (plain_resource x))
row_among queue x k there = subst (IsIn k.row) (sym (rows_in-plain queue x)) (IsIn-image (λ (l : StoredLock). l.row) (queued queue x) k there)

-- a list around one of its items
split_around : {A : Type 0} (x : A) (xs : List A) → IsIn x xs → (before : List A) × ((rest : List A) × (xs ≡ before ++ x ∷ rest))
split_around x [] there = absurd there
split_around x (y ∷ xs) there =
    elim there [
      | inl here ↦ ([], (xs, ap (λ z. z ∷ xs) here))
      | inr later ↦ let more = split_around x xs later in (y ∷ more.0, (more.1.0, ap (λ zs. y ∷ zs) more.1.1))
    ]

rows_split : (before rest : List StoredLock) (k : StoredLock) → rows_of_locks (before ++ k ∷ rest) ≡ rows_of_locks before ++ k.row ∷ rows_of_locks rest
rows_split [] rest k = refl
rows_split (x ∷ before) rest k = ap (λ rows. x.row ∷ rows) (rows_split before rest k)

abbrev of_place_res : Place → ℕ
of_place_res (Queued res queue) = res

-- between two steps a lock that the index finds is in a queue
pub found_stored : (s : Records) → IsAtRest s → (lkid at : ℕ) → FindsLock s lkid (Some at) → IsStored at s
found_stored s rest lkid at found = (found.0, in_a_queue s (none_loose s rest.rising) at found.0 found.1.0)

abbrev of_place_queue : Place → Queue
of_place_queue (Queued res queue) = queue

module _ (s : Records) (sound : IsSound s) (st : State) (is : st.resources ≡ plain_resources s) where
  has_lock : (x : StoredResource) → IsIn x s.resources → (queue : Queue) (k : StoredLock) → IsIn k (queued queue x)
      → HasLockIn st (plain_resource x) queue k.row
  has_lock x among queue k there = record {
    exists = subst (IsIn (plain_resource x)) (sym is) (IsIn-image plain_resource s.resources x among);
    queued = row_among queue x k there;
  }

  -- each lock of the plain machine is stored
  pub stored_of : (r : Resource) (queue : Queue) (row : LockState) → HasLockIn st r queue row → (at : ℕ) × Stores s at row
  stored_of r queue row has =
      let x = IsIn-of_image plain_resource s.resources r (subst (IsIn r) is has.exists) in
      let among = subst (IsIn row) (rows_in-plain queue x.0) (subst (λ (y : Resource). IsIn row (rows_in queue y)) (sym x.1.1) has.queued) in
      let k = IsIn-of_image (λ (l : StoredLock). l.row) (queued queue x.0) row among in
      (k.0.at, subst (Stores s k.0.at) k.1.1 (queued_stored s sound x.0 x.1.0 queue k.0 k.1.0))

  -- where no stored lock passes, none does
  pub lacks : (P : LockState → Type 0) → ((at : ℕ) (row : LockState) → Stores s at row → ¬ P row) → LacksLock st P
  lacks P none r queue row has passes = let k = stored_of r queue row has in none k.0 row k.1 passes

  -- the view of a stored lock that passes
  pub shows : (P : LockState → Type 0) (at : ℕ) (row : LockState) → Stores s at row → P row → (view : LockView) → IsViewOf s at view → ShowsLock st P view
  shows P at row stored passes view of =
      let k : StoredLock = record { at = at; row = of.row } in
      record {
        resource = plain_resource of.resource;
        queue = of.queue;
        row = of.row;
        there = has_lock of.resource of.exists of.queue k of.among;
        passes = subst P (one_lock s sound at row of.row stored (queued_stored s sound of.resource of.exists of.queue k of.among)) passes;
        shown = of.shown;
      }

  -- a view shows the lock where it is
  view_is : (x : StoredResource) → IsIn x s.resources → (queue : Queue) (k : StoredLock) → IsIn k (queued queue x) → (view : LockView) → IsViewOf s k.at view
      → view ≡ lock_view (plain_resource x) queue k.row
  view_is x among queue k there view of =
      let mine = subst (IsIn (record { at = k.at; row = of.row })) (sym (queue_at s sound of.resource of.exists of.queue)) of.among in
      let its = subst (IsIn k) (sym (queue_at s sound x among queue)) there in
      let place : Queued of.resource.at of.queue ≡ Queued x.at queue =
      sound.one_place k.at of.row k.row (Queued of.resource.at of.queue) (Queued x.at queue) mine its in
      let row : of.row ≡ k.row = one_lock s sound k.at of.row k.row (Queued of.resource.at of.queue, mine) (Queued x.at queue, its) in
      let res : of.resource ≡ x =
      same_Some of.resource x
      (sym (resource_at-is of.resource s.resources sound.resources_apart of.exists)
      ∙ ap (λ n. resource_at n s.resources) (ap of_place_res place)
      ∙ resource_at-is x s.resources sound.resources_apart among) in
      of.shown
      ∙ ap (λ (y : StoredResource). lock_view (plain_resource y) of.queue of.row) res
      ∙ ap (λ q. lock_view (plain_resource x) q of.row) (ap of_place_queue place)
      ∙ ap (lock_view (plain_resource x) queue) row

  -- the resource of a lock
  pub resource_is : (f : LocatedLock) → (located : IsLocated f s) → (lkid : ℕ) → f.row.lkid ≡ lkid → (view : ResourceView)
      → IfSome (plain_resource_at f.res s) (λ r. view ≡ resource_view r) → IsResourceOf st lkid view
  resource_is f located lkid named view shown = record {
    resource = plain_resource located.resource;
    queue = f.queue;
    row = f.row;
    there = has_lock located.resource (resource_among f.res s.resources located.resource located.found) f.queue
        (record { at = f.lock; row = f.row }) located.among;
    named = named;
    shown = subst (λ o. IfSome (option_map plain_resource o) (λ r. view ≡ resource_view r)) located.found shown;
  }

  -- ---- the next lock of a queue

  -- what follows a list of locks in a queue
  abbrev pub shown_first : Resource → Queue → List LockState → Option LockView
  shown_first r queue rows = option_map (lock_view r queue) (slice_get rows 0)

  module _ (x : StoredResource) (among : IsIn x s.resources) (queue : Queue) where
    none_shown : (rest : List StoredLock) → first_at rest ≡ None → None ≡ shown_first (plain_resource x) queue (rows_of_locks rest)
    none_shown [] none = refl
    none_shown (k ∷ rest) none = absurd (none-some k.at (sym none))

    one_shown : (rest : List StoredLock) → ((k : StoredLock) → IsIn k rest → IsIn k (queued queue x)) → (n : ℕ)
        → first_at rest ≡ Some n → (view : LockView) → IsViewOf s n view
        → Some view ≡ shown_first (plain_resource x) queue (rows_of_locks rest)
    one_shown [] within n is_first view of = absurd (none-some n is_first)
    one_shown (k ∷ rest) within n is_first view of =
        ap Some (view_is x among queue k (within k (inl refl)) view (subst (λ m. IsViewOf s m view) (sym (same_Some k.at n is_first)) of))

    one_stored : (rest : List StoredLock) → ((k : StoredLock) → IsIn k rest → IsIn k (queued queue x)) → (n : ℕ) → first_at rest ≡ Some n → IsStored n s
    one_stored [] within n is_first = absurd (none-some n is_first)
    one_stored (k ∷ rest) within n is_first =
        subst (λ m. IsStored m s) (same_Some k.at n is_first) (k.row, queued_stored s sound x among queue k (within k (inl refl)))

    -- the first lock of the queue
    pub first_none : first_at (queued queue x) ≡ None → None ≡ shown_first (plain_resource x) queue (rows_in queue (plain_resource x))
    first_none none = none_shown (queued queue x) none ∙ ap (shown_first (plain_resource x) queue) (sym (rows_in-plain queue x))

    pub first_some : (n : ℕ) → first_at (queued queue x) ≡ Some n → (view : LockView) → IsViewOf s n view
        → Some view ≡ shown_first (plain_resource x) queue (rows_in queue (plain_resource x))
    first_some n is_first view of =
        one_shown (queued queue x) (λ k there. there) n is_first view of ∙ ap (shown_first (plain_resource x) queue) (sym (rows_in-plain queue x))

  -- the first lock of a queue of the resource that is found by its key
  module _ (key : Key) (res : ℕ) (found : FindsResource s key (Some res)) (queue : Queue) where
    at_res : resource_at res s.resources ≡ Some found.0
    at_res = subst (λ n. resource_at n s.resources ≡ Some found.0) found.1.1 (resource_at-is found.0 s.resources sound.resources_apart found.1.0)

    first_is : first_at (locks_at (Queued res queue) s) ≡ first_at (queued queue found.0)
    first_is = ap (λ o. first_at (option_map_or (queued queue) o [])) at_res

    pub head_none : first_at (locks_at (Queued res queue) s) ≡ None → IfSome (plain_resource_at res s) (λ r. None ≡ shown_first r queue (rows_in queue r))
    head_none none =
        subst (λ o. IfSome (option_map plain_resource o) (λ r. None ≡ shown_first r queue (rows_in queue r))) (sym at_res)
        (first_none found.0 found.1.0 queue (sym first_is ∙ none))

    pub head_some : (n : ℕ) → first_at (locks_at (Queued res queue) s) ≡ Some n → (view : LockView) → IsViewOf s n view
        → IfSome (plain_resource_at res s) (λ r. Some view ≡ shown_first r queue (rows_in queue r))
    head_some n is_first view of =
        subst (λ o. IfSome (option_map plain_resource o) (λ r. Some view ≡ shown_first r queue (rows_in queue r))) (sym at_res)
        (first_some found.0 found.1.0 queue n (sym first_is ∙ is_first) view of)

  -- what a lock is followed by
  module _ (lock : ℕ) (row : LockState) (stored : Stores s lock row) (Follows : LockState → LockState → Type 0) where
    pub follows_of : (lkid : ℕ) → row.lkid ≡ lkid → (next : Option LockView) → ShowsFirst st (Follows row) next → IsNextOf st Follows lkid next
    follows_of lkid named next first =
        let stands = in_queue s lock row stored in
        record {
          resource = plain_resource stands.resource;
          queue = stands.queue;
          row = row;
          there = has_lock stands.resource stands.there stands.queue (record { at = lock; row = row }) stands.among;
          named = named;
          first = first;
        }

  module _ (lock : ℕ) (row : LockState) (stored : Stores s lock row) (next : Option ℕ)
      (follows : (place : Place) (own : LockState) → IsIn (record { at = lock; row = own }) (locks_at place s) → next ≡ at_after lock (locks_at place s)) where
    abbrev k : StoredLock
    k = record { at = lock; row = row }

    stands : IsQueued lock row s
    stands = in_queue s lock row stored

    abbrev x : StoredResource
    x = stands.resource

    around : (before : List StoredLock) × ((rest : List StoredLock) × (queued stands.queue x ≡ before ++ k ∷ rest))
    around = split_around k (queued stands.queue x) stands.among

    abbrev rest : List StoredLock
    rest = (around).1.0

    next_first : next ≡ first_at rest
    next_first =
        let at_place = queue_at s sound x stands.there stands.queue in
        let apart = sound.locks_apart (Queued x.at stands.queue) in
        follows (Queued x.at stands.queue) row (subst (IsIn k) (sym at_place) stands.among)
        ∙ ap (at_after lock) (at_place ∙ (around).1.1)
        ∙ after-among k (around).0 rest (subst (λ ks. AreApart ks) (at_place ∙ (around).1.1) apart)

    within : (other : StoredLock) → IsIn other rest → IsIn other (queued stands.queue x)
    within other there = subst (IsIn other) (sym (around).1.1) (in_behind other (around).0 (k ∷ rest) (inr there))

    next_of : (shown : Option LockView) → shown ≡ shown_first (plain_resource x) stands.queue (rows_of_locks rest)
        → (lkid : ℕ) → row.lkid ≡ lkid → IsNextInQueue st lkid shown
    next_of shown told lkid named = record {
      resource = plain_resource x;
      queue = stands.queue;
      row = row;
      there = has_lock x stands.there stands.queue k stands.among;
      named = named;
      before = rows_of_locks (around).0;
      rest = rows_of_locks rest;
      parts = rows_in-plain stands.queue x ∙ ap rows_of_locks (around).1.1 ∙ rows_split (around).0 rest k;
      shown = told;
    }

    pub next_stored : (n : ℕ) → next ≡ Some n → IsStored n s
    next_stored n is_next = one_stored x stands.there stands.queue rest within n (sym next_first ∙ is_next)

    pub next_none : next ≡ None → (lkid : ℕ) → row.lkid ≡ lkid → IsNextInQueue st lkid None
    next_none none lkid named = next_of None (none_shown x stands.there stands.queue rest (sym next_first ∙ none)) lkid named

    pub next_some : (n : ℕ) → next ≡ Some n → (view : LockView) → IsViewOf s n view → (lkid : ℕ) → row.lkid ≡ lkid → IsNextInQueue st lkid (Some view)
    next_some n is_next view of lkid named =
        next_of (Some view) (one_shown x stands.there stands.queue rest within n (sym next_first ∙ is_next) view of) lkid named

  -- ---- locks in the order of IDs

  none_first : (hs : List ℕ) → first_handle hs ≡ None → (k : ℕ) → IsIn k hs → ⊥
  none_first [] none k there = there
  none_first (h ∷ hs) none k there = none-some h (sym none)

  -- the rows of one handle have one ID
  same_lkid : (a b : ℕ) (ra rb : LockState) → Stores s a ra → Stores s b rb → a ≡ b → ra.lkid ≡ rb.lkid
  same_lkid a b ra rb sa sb same = ap (λ (r : LockState). r.lkid) (one_lock s sound b ra rb (subst (λ n. Stores s n ra) same sa) sb)

  -- the first one has the lowest ID
  first_least : (hs : List ℕ) → StandById s hs → (n : ℕ) → first_handle hs ≡ Some n → (rn : LockState) → Stores s n rn
      → (k : ℕ) → IsIn k hs → (rk : LockState) → Stores s k rk → ¬ (rk.lkid < rn.lkid)
  first_least [] rise n is_first rn sn k there rk sk less = there
  first_least (h ∷ hs) rise n is_first rn sn k there rk sk less =
      let here = same_Some h n is_first in
      elim there [
        | inl same ↦ omega (arith, less, same_lkid k n rk rn sk sn (sym same ∙ here))
        | inr later ↦ omega (arith, less, rise.0 k later rn rk (subst (λ m. Stores s m rn) (sym here) sn) sk)
      ]

  module _ (a : ℕ) (ra : LockState) (sa : Stores s a ra) where
    -- after the last one none has a higher ID
    last_greatest : (hs : List ℕ) → StandById s hs → IsIn a hs → handle_after a hs ≡ None
        → (k : ℕ) → IsIn k hs → (rk : LockState) → Stores s k rk → ¬ (ra.lkid < rk.lkid)
    last_greatest [] rise found none k there rk sk less = there
    last_greatest (h ∷ hs) rise found none k there rk sk less =
        elim (cases_eq h a) [
          | inl same ↦ elim there [
            | inl here ↦ omega (arith, less, same_lkid k a rk ra sk sa (sym here ∙ same))
            | inr later ↦ none_first hs (rw (eq-eqb h a same) at none) k later
          ]
          | inr differs ↦
              let behind : IsIn a hs = elim found [ inl here ↦ absurd (differs here) | inr later ↦ later ] in
              elim there [
                | inl here ↦ omega (arith, less, rise.0 a behind rk ra (subst (λ m. Stores s m rk) (sym here) sk) sa)
                | inr later ↦ last_greatest hs rise.1 behind (rw (ne_eqb h a differs) at none) k later rk sk less
              ]
        ]

    module _ (n : ℕ) (rn : LockState) (sn : Stores s n rn) where
      -- the next one is later
      next_later : (hs : List ℕ) → StandById s hs → IsIn a hs → handle_after a hs ≡ Some n → ra.lkid < rn.lkid
      next_later [] rise found next = absurd found
      next_later (h ∷ hs) rise found next =
          elim (cases_eq h a) [
            | inl same ↦ rise.0 n (first_handle-in hs n (sym (rw (eq-eqb h a same) at next))) ra rn (subst (λ m. Stores s m ra) (sym same) sa) sn
            | inr differs ↦
                next_later hs rise.1 (elim found [ inl here ↦ absurd (differs here) | inr later ↦ later ]) (rw (ne_eqb h a differs) at next)
          ]

      -- and none is between
      none_between : (hs : List ℕ) → StandById s hs → IsIn a hs → handle_after a hs ≡ Some n
          → (k : ℕ) → IsIn k hs → (rk : LockState) → Stores s k rk → ra.lkid < rk.lkid → ¬ (rk.lkid < rn.lkid)
      none_between [] rise found next k there rk sk more less = there
      none_between (h ∷ hs) rise found next k there rk sk more less =
          elim (cases_eq h a) [
            | inl same ↦ elim there [
              | inl here ↦ omega (arith, more, same_lkid k a rk ra sk sa (sym here ∙ same))
              | inr later ↦ first_least hs rise.1 n (rw (eq-eqb h a same) at next) rn sn k later rk sk less
            ]
            | inr differs ↦
                let behind : IsIn a hs = elim found [ inl here ↦ absurd (differs here) | inr later ↦ later ] in
                elim there [
                  | inl here ↦ omega (arith, more, rise.0 a behind rk ra (subst (λ m. Stores s m rk) (sym here) sk) sa)
                  | inr later ↦ none_between hs rise.1 behind (rw (ne_eqb h a differs) at next) k later rk sk more less
                ]
          ]

  -- handles by rising ID that are exactly those of the locks that pass
  module _ (P : LockState → Type 0) (hs : List ℕ) (rise : StandById s hs) (all : (at : ℕ) (row : LockState) → Stores s at row → P row → IsIn at hs)
      (each : (at : ℕ) → IsIn at hs → (row : LockState) × (Stores s at row × P row)) where
    pub no_first : first_handle hs ≡ None → ShowsFirst st P None
    no_first none = lacks P (λ at row stored passes. none_first hs none at (all at row stored passes))

    pub the_first : (n : ℕ) → first_handle hs ≡ Some n → (view : LockView) → IsViewOf s n view → ShowsFirst st P (Some view)
    the_first n is_first view of =
        let here = each n (first_handle-in hs n (sym is_first)) in
        shows (IsFirst st P) n here.0 here.1.0 (
          here.1.1,
          lacks (λ other. P other × (other.lkid < here.0.lkid))
              (λ at row stored both. first_least hs rise n is_first here.0 here.1.0 at (all at row stored both.0) row stored both.1),
        )
        view of

    module _ (a : ℕ) (ra : LockState) (sa : Stores s a ra) (found : IsIn a hs) where
      pub no_next : handle_after a hs ≡ None → ShowsFirst st (λ other. P other × (ra.lkid < other.lkid)) None
      no_next none =
          lacks (λ other. P other × (ra.lkid < other.lkid))
          (λ at row stored both. last_greatest a ra sa hs rise found none at (all at row stored both.0) row stored both.1)

      pub the_next : (n : ℕ) → handle_after a hs ≡ Some n → (view : LockView) → IsViewOf s n view
          → ShowsFirst st (λ other. P other × (ra.lkid < other.lkid)) (Some view)
      the_next n next view of =
          let here = each n (handle_after-in a hs n (sym next)) in
          shows (IsFirst st (λ other. P other × (ra.lkid < other.lkid))) n here.0 here.1.0 (
            (here.1.1, next_later a ra sa n here.0 here.1.0 hs rise found next),
            lacks (λ other. (P other × (ra.lkid < other.lkid)) × (other.lkid < here.0.lkid))
                (λ at row stored all_three.
                none_between a ra sa n here.0 here.1.0 hs rise found next at (all at row stored all_three.0.0) row stored all_three.0.1 all_three.1),
          )
          view of

  -- ---- the locks of a process

  module _ (rest : IsAtRest s) (owner pid : ℕ) (lives : IsProcess owner pid s) where
    abbrev own : List ℕ
    own = own_handles_at owner s

    own_all : (at : ℕ) (row : LockState) → Stores s at row → row.pid ≡ pid → IsIn at own
    own_all at row stored mine = subst (IsIn at) (sym (its_handles owner pid s sound lives)) (owned_here owner pid s sound lives at row stored mine)

    own_each : (at : ℕ) → IsIn at own → (row : LockState) × (Stores s at row × (row.pid ≡ pid))
    own_each at there = stored_here owner pid s sound lives rest at there

    pub first_own_stored : (n : ℕ) → first_handle own ≡ Some n → IsStored n s
    first_own_stored n is_first = let here = own_each n (first_handle-in own n (sym is_first)) in (here.0, here.1.0)

    pub no_first_own : first_handle own ≡ None → ShowsFirst st (λ row. row.pid ≡ pid) None
    no_first_own none = no_first (λ row. row.pid ≡ pid) own (they_rise owner pid s sound lives rest) own_all own_each none

    pub the_first_own : (n : ℕ) → first_handle own ≡ Some n → (view : LockView) → IsViewOf s n view → ShowsFirst st (λ row. row.pid ≡ pid) (Some view)
    the_first_own n is_first view of = the_first (λ row. row.pid ≡ pid) own (they_rise owner pid s sound lives rest) own_all own_each n is_first view of

  module _ (rest : IsAtRest s) (lock : ℕ) (row : LockState) (stored : Stores s lock row) (next : Option ℕ)
      (follows : (process : ℕ) → IsIn lock (own_handles_at process s) → next ≡ handle_after lock (own_handles_at process s)) where
    owned : (p : StoredProcess) × (one : OwnLock) × (IsIn p s.processes × (p.process.pid ≡ row.pid) × IsIn one p.own × (one.at ≡ lock))
    owned = sound.owned.owned lock row (inl stored)

    abbrev owner : ℕ
    owner = (owned).0.at

    owner_lives : IsProcess owner row.pid s
    owner_lives = (owned.0, (owned.2.0, refl, (owned).2.1))

    among_own : IsIn lock (own_handles_at owner s)
    among_own = own_all rest owner row.pid owner_lives lock row stored refl

    after_own : next ≡ handle_after lock (own_handles_at owner s)
    after_own = follows owner among_own

    pub next_own_stored : (n : ℕ) → next ≡ Some n → IsStored n s
    next_own_stored n is_next =
        let here = own_each rest owner row.pid owner_lives n (handle_after-in lock (own_handles_at owner s) n (sym is_next ∙ after_own)) in
        (here.0, here.1.0)

    pub no_next_own : next ≡ None → (lkid : ℕ) → row.lkid ≡ lkid → IsNextOf st IsLaterOwn lkid None
    no_next_own none lkid named =
        follows_of lock row stored IsLaterOwn lkid named None
        (no_next (λ other. other.pid ≡ row.pid) (own_handles_at owner s)
        (they_rise owner row.pid s sound owner_lives rest) (own_all rest owner row.pid owner_lives)
        (own_each rest owner row.pid owner_lives) lock row stored among_own (sym after_own ∙ none))

    pub the_next_own : (n : ℕ) → next ≡ Some n → (view : LockView) → IsViewOf s n view → (lkid : ℕ) → row.lkid ≡ lkid → IsNextOf st IsLaterOwn lkid (Some view)
    the_next_own n is_next view of lkid named =
        follows_of lock row stored IsLaterOwn lkid named (Some view)
        (the_next (λ other. other.pid ≡ row.pid) (own_handles_at owner s)
        (they_rise owner row.pid s sound owner_lives rest) (own_all rest owner row.pid owner_lives)
        (own_each rest owner row.pid owner_lives) lock row stored among_own n (sym after_own ∙ is_next) view of)

  -- ---- the sublocks of a lock

  module _ (rest : IsAtRest s) (parent : ℕ) (up : LockState) (above : Stores s parent up) (not_0 : up.lkid ≢ 0) where
    abbrev below : List ℕ
    below = sublocks_at parent s

    below_all : (at : ℕ) (row : LockState) → Stores s at row → IsSublockOf up.lkid row → IsIn at below
    below_all at row stored names = is_below_it s sound parent rest at up row above stored (λ none. not_0 (sym names.1 ∙ none)) names.1

    below_each : (at : ℕ) → IsIn at below → (row : LockState) × (Stores s at row × IsSublockOf up.lkid row)
    below_each at there =
        let found = below_of s sound parent rest at there in
        (found.1, (found.2.1, (not_0, found.2.2 ∙ ap (λ (r : LockState). r.lkid) (one_lock s sound parent found.0 up found.2.0 above))))

    below_rises : StandById s below
    below_rises =
        elim (own_found parent (flat_map (λ (p : StoredProcess). p.own) s.processes)) [
          | inr none ↦ subst (StandById s) (sym (ap (λ o. option_map_or (λ (x : OwnLock). x.sublocks) o []) none.0)) tt
          | inl found ↦ (let of = all_of_own found.0 s.processes found.1.1 in
              subst (StandById s) (sym (ap (λ o. option_map_or (λ (x : OwnLock). x.sublocks) o []) found.1.0))
              ((rest.rising of.0 of.1.0).sublocks found.0 of.1.1).1)
        ]

    pub first_below_stored : (n : ℕ) → first_handle below ≡ Some n → IsStored n s
    first_below_stored n is_first = let here = below_each n (first_handle-in below n (sym is_first)) in (here.0, here.1.0)

    pub no_first_below : first_handle below ≡ None → ShowsFirst st (IsSublockOf up.lkid) None
    no_first_below none = no_first (IsSublockOf up.lkid) below below_rises below_all below_each none

    pub the_first_below : (n : ℕ) → first_handle below ≡ Some n → (view : LockView) → IsViewOf s n view → ShowsFirst st (IsSublockOf up.lkid) (Some view)
    the_first_below n is_first view of = the_first (IsSublockOf up.lkid) below below_rises below_all below_each n is_first view of

  module _ (rest : IsAtRest s) (lock : ℕ) (row : LockState) (stored : Stores s lock row) (has : row.parent ≢ 0) (next : Option ℕ)
      (follows : (parent : ℕ) → IsIn lock (sublocks_at parent s) → next ≡ handle_after lock (sublocks_at parent s)) where
    parent_named : (p : StoredProcess) × (one : OwnLock) × (up : LockState)
        × (IsIn p s.processes × IsIn one p.own × IsIn lock one.sublocks × Stores s one.at up × (up.lkid ≡ row.parent))
    parent_named =
        let named = sound.owned.named lock row (inl stored) has in
        (named.0, named.1, named.2, (named.3.0, named.3.1, named.3.2, in_a_queue s (none_loose s rest.rising) named.1.at named.2 named.3.3, named.3.4))

    abbrev its_parent : ℕ
    its_parent = (parent_named).1.at

    abbrev its_up : LockState
    its_up = (parent_named).2

    its_parent_stored : Stores s its_parent its_up
    its_parent_stored = (parent_named).3.3

    up_not_0 : its_up.lkid ≢ 0
    up_not_0 none = has (sym (parent_named).3.4 ∙ none)

    among_below : IsIn lock (sublocks_at its_parent s)
    among_below = is_below_it s sound its_parent rest lock its_up row its_parent_stored stored has (sym (parent_named).3.4)

    after_below : next ≡ handle_after lock (sublocks_at its_parent s)
    after_below = follows its_parent among_below

    -- who is a sublock of the parent lock is one of the same parent lock
    its_siblings : (other : LockState) → IsSublockOf its_up.lkid other → IsSublockOf row.parent other
    its_siblings other names = (has, names.1 ∙ (parent_named).3.4)

    sibling_all : (at : ℕ) (other : LockState) → Stores s at other → IsSublockOf row.parent other → IsIn at (sublocks_at its_parent s)
    sibling_all at other there names =
        below_all rest its_parent its_up its_parent_stored up_not_0 at other there (up_not_0, names.1 ∙ sym (parent_named).3.4)

    sibling_each : (at : ℕ) → IsIn at (sublocks_at its_parent s) → (other : LockState) × (Stores s at other × IsSublockOf row.parent other)
    sibling_each at there =
        let found = below_each rest its_parent its_up its_parent_stored up_not_0 at there in
        (found.0, (found.1.0, its_siblings found.0 found.1.1))

    pub next_below_stored : (n : ℕ) → next ≡ Some n → IsStored n s
    next_below_stored n is_next =
        let here = sibling_each n (handle_after-in lock (sublocks_at its_parent s) n (sym is_next ∙ after_below)) in
        (here.0, here.1.0)

    pub no_next_below : next ≡ None → (lkid : ℕ) → row.lkid ≡ lkid → IsNextOf st IsLaterSublock lkid None
    no_next_below none lkid named =
        follows_of lock row stored IsLaterSublock lkid named None
        (no_next (IsSublockOf row.parent) (sublocks_at its_parent s)
        (below_rises rest its_parent its_up its_parent_stored up_not_0) sibling_all sibling_each lock row stored
        among_below (sym after_below ∙ none))

    pub the_next_below : (n : ℕ) → next ≡ Some n → (view : LockView) → IsViewOf s n view → (lkid : ℕ) → row.lkid ≡ lkid
        → IsNextOf st IsLaterSublock lkid (Some view)
    the_next_below n is_next view of lkid named =
        follows_of lock row stored IsLaterSublock lkid named (Some view)
        (the_next (IsSublockOf row.parent) (sublocks_at its_parent s)
        (below_rises rest its_parent its_up its_parent_stored up_not_0) sibling_all sibling_each lock row stored
        among_below n (sym after_below ∙ is_next) view of)

  -- a lock on a root has no parent lock, and so no later sublock of it
  pub no_next_root : (lock : ℕ) (row : LockState) → Stores s lock row → row.parent ≡ 0 → (lkid : ℕ) → row.lkid ≡ lkid → IsNextOf st IsLaterSublock lkid None
  no_next_root lock row stored root lkid named =
      follows_of lock row stored IsLaterSublock lkid named None (λ r queue other there later. later.0.0 root)

-- ---- what is there, whatever else the plain machine has

module _ (s : Records) (sound : IsSound s) where
  -- a state with the resources of the records
  abbrev seen : State
  seen = record start { resources = plain_resources s }

  pub at_head : (key : Key) (res : ℕ) (found : FindsResource s key (Some res)) (queue : Queue) (n : ℕ)
      → first_at (locks_at (Queued res queue) s) ≡ Some n → (view : LockView) → IsViewOf s n view
      → IfSome (plain_resource_at res s) (λ r. Some view ≡ shown_first s sound seen refl r queue (rows_in queue r))
  at_head = head_some s sound seen refl

  pub at_no_head : (key : Key) (res : ℕ) (found : FindsResource s key (Some res)) (queue : Queue) → first_at (locks_at (Queued res queue) s) ≡ None
      → IfSome (plain_resource_at res s) (λ r. None ≡ shown_first s sound seen refl r queue (rows_in queue r))
  at_no_head = head_none s sound seen refl

  pub stored_next : (lock : ℕ) (row : LockState) → Stores s lock row → (next : Option ℕ)
      → ((place : Place) (own : LockState) → IsIn (record { at = lock; row = own }) (locks_at place s) → next ≡ at_after lock (locks_at place s))
      → (n : ℕ) → next ≡ Some n → IsStored n s
  stored_next = next_stored s sound seen refl

  pub stored_first_own : IsAtRest s → (owner pid : ℕ) → IsProcess owner pid s → (n : ℕ) → first_handle (own_handles_at owner s) ≡ Some n → IsStored n s
  stored_first_own = first_own_stored s sound seen refl

  pub stored_next_own : IsAtRest s → (lock : ℕ) (row : LockState) → Stores s lock row → (next : Option ℕ)
      → ((process : ℕ) → IsIn lock (own_handles_at process s) → next ≡ handle_after lock (own_handles_at process s)) → (n : ℕ) → next ≡ Some n → IsStored n s
  stored_next_own = next_own_stored s sound seen refl

  pub stored_first_below : IsAtRest s → (parent : ℕ) (up : LockState) → Stores s parent up → up.lkid ≢ 0 → (n : ℕ)
      → first_handle (sublocks_at parent s) ≡ Some n → IsStored n s
  stored_first_below = first_below_stored s sound seen refl

  pub stored_next_below : IsAtRest s → (lock : ℕ) (row : LockState) → Stores s lock row → row.parent ≢ 0 → (next : Option ℕ)
      → ((parent : ℕ) → IsIn lock (sublocks_at parent s) → next ≡ handle_after lock (sublocks_at parent s)) → (n : ℕ) → next ≡ Some n → IsStored n s
  stored_next_below = next_below_stored s sound seen refl
