-- For which locks of its resource a queued request waits.
use Rattle.std.proofs.Common.{◌≡◌, ◌≢◌, ◌<◌, ℕ, true, List, [], ◌∷◌, ◌++◌, Option, None, Some, refl, sym, ap, ◌∙◌, subst, inl, inr, eq-eqb, ne_eqb, arith}
use Rattle.std.specs.Prelude.{nat_lt}
use Rattle.std.specs.Option.{option_map_or}
use Rattle.std.proofs.lemmas.Bool.{cases_eq}
use Rattle.std.proofs.lemmas.Bool.Decides.{nat_tests}
use Rattle.std.proofs.lemmas.Option.{same_Some}
use Rattle.vlm_words.specs.declared.locks.Request.{Request}
use Rattle.vlm_words.specs.declared.locks.LockState.{LockState}
use Rattle.vlm_words.specs.declared.resources.Queue.{Queue}
use Rattle.vlm_words.specs.declared.resources.Queue.TheVariants.{Granted, Conversion, Waiting}
use Rattle.vlm_words.specs.State.{Resource}
use Rattle.vlm_model.specs.Deadlocks.{IsRowAmong, KeepsWaiting, WaitsOn, queue_of, wanted_number}
use Rattle.vlm_collections.specs.Lists.{IsIn}
use Rattle.vlm_collections.proofs.HandleLists.{in_ahead, in_behind, in_either}
use Rattle.vlm_records.specs.declared.handles.Place.{Place}
use Rattle.vlm_records.specs.declared.handles.Place.TheVariants.{Queued}
use Rattle.vlm_store.specs.Plain.{plain_resource}
use Rattle.vlm_store.specs.Records.{IsSound, Records, StoredLock, StoredResource, Stores, locks_at, queued, resource_at, rows_of_locks}
use Rattle.vlm_locks.specs.declared.located_locks.LocatedLock.{LocatedLock}
use Rattle.vlm_locks.specs.Standing.{IsLocated}
use Rattle.vlm_locks.proofs.QueuedLocks.{one_lock, queued_stored, resource_among}
use Rattle.vlm_cycle.specs.Blocking.{AreInOrder, Awaits, IsOn, IsRising, Keeps, PassesOn, WaitsForLocated, WaitsOnLock, all_locks, is_before}
use Rattle.vlm_cycle.specs.Waiting.{rows_before}
use Rattle.vlm_cycle.proofs.Keeping.{apart_of, one_queue, queue_apart, queued_on}
use Rattle.vlm_cycle.proofs.Listed.{RowsApart, among_is, before_is, before_passes, before_stops, is_among, lock_of, row_in, split_before}

-- ---- where a lock of the resource is

-- a lock on a resource, with its queue there
pub record Where (s : Records) (res lock : ℕ) : Type 0 where
  pub own : StoredResource
  pub found : resource_at res s.resources ≡ Some own
  pub there : IsIn own s.resources
  pub queue : Queue
  pub row : LockState
  pub among : IsIn (record { at = lock; row = row }) (queued queue own)

pub where_on : (s : Records) (res lock : ℕ) → IsOn lock res s → Where s res lock
where_on s res lock on = of_found (resource_at res s.resources) refl on.1
  where
    of_found : (o : Option StoredResource) → resource_at res s.resources ≡ o
        → IsIn (record { at = lock; row = on.0 }) (option_map_or all_locks o []) → Where s res lock
    of_found None is here = absurd here
    of_found (Some own) is here =
        let there = resource_among res s.resources own is in
        elim (in_either (record { at = lock; row = on.0 }) own.granted (own.converting ++ own.waiting) here) [
          | inl granted ↦ record { own = own; found = is; there = there; queue = Granted; row = on.0; among = granted }
          | inr later ↦ elim (in_either (record { at = lock; row = on.0 }) own.converting own.waiting later) [
            | inl converting ↦ record { own = own; found = is; there = there; queue = Conversion; row = on.0; among = converting }
            | inr waiting ↦ record { own = own; found = is; there = there; queue = Waiting; row = on.0; among = waiting }
          ]
        ]

-- and so it is there under its place
pub place_is : (s : Records) (res lock : ℕ) → IsSound s → (w : Where s res lock) (place : Place) (row : LockState)
    → IsIn (record { at = lock; row = row }) (locks_at place s)
    → place ≡ Queued res w.queue
place_is s res lock sound w place row here =
    sound.one_place lock row w.row place (Queued res w.queue) here
    (subst (IsIn (record { at = lock; row = w.row })) (sym (ap (λ o. option_map_or (queued w.queue) o []) w.found)) w.among)

-- a lock of a queue is one of all
pub on_all : (s : Records) (res lock : ℕ) (own : StoredResource) (queue : Queue) (row : LockState) → resource_at res s.resources ≡ Some own
    → IsIn (record { at = lock; row = row }) (queued queue own) → IsOn lock res s
on_all s res lock own queue row found among =
    (row, subst (λ o. IsIn (record { at = lock; row = row }) (option_map_or all_locks o [])) (sym found) (in_all queue among))
  where
    in_all : (queue : Queue) → IsIn (record { at = lock; row = row }) (queued queue own) → IsIn (record { at = lock; row = row }) (all_locks own)
    in_all Granted among = in_ahead (record { at = lock; row = row }) own.granted (own.converting ++ own.waiting) among
    in_all Conversion among =
        in_behind (record { at = lock; row = row }) own.granted (own.converting ++ own.waiting)
        (in_ahead (record { at = lock; row = row }) own.converting own.waiting among)
    in_all Waiting among =
        in_behind (record { at = lock; row = row }) own.granted (own.converting ++ own.waiting)
        (in_behind (record { at = lock; row = row }) own.converting own.waiting among)

-- ---- rows before one, by their numbers

-- the test on numbers
number_less : (a b : ℕ) → nat_lt a b ≡ true → a < b
number_less a b test = grind (arith, nat_tests, test)

less_number : (a b : ℕ) → a < b → nat_lt a b ≡ true
less_number a b less = grind (arith, nat_tests, less)

-- a row before another one of a rising list has the lower number
before_older : (rows : List LockState) (row lock : LockState) → IsRising rows → IsIn row rows
    → IsIn lock (rows_before row.lkid rows) → wanted_number lock < wanted_number row
before_older [] row lock rising in_row in_lock = absurd in_row
before_older (x ∷ rows) row lock rising in_row in_lock = elim (cases_eq x.lkid row.lkid) [
  | inl same ↦ absurd (rw (eq-eqb x.lkid row.lkid same) at in_lock)
  | inr differs ↦ of_cons (later differs in_row) (λ there behind. before_older rows row lock rising.1 there behind)
      (rw (ne_eqb x.lkid row.lkid differs) at in_lock)
]
  where
    later : x.lkid ≢ row.lkid → IsIn row (x ∷ rows) → IsIn row rows
    later differs there = elim there [ inl here ↦ absurd (differs (ap (λ (y : LockState). y.lkid) here)) | inr behind ↦ behind ]

    of_cons : IsIn row rows → (IsIn row rows → IsIn lock (rows_before row.lkid rows) → wanted_number lock < wanted_number row)
        → IsIn lock (x ∷ rows_before row.lkid rows) → wanted_number lock < wanted_number row
    of_cons there further some = elim some [
      | inl here ↦ subst (λ (y : LockState). wanted_number y < wanted_number row) here (rising.0 row there)
      | inr behind ↦ further there behind
    ]

-- and one with the lower number is before it
older_before : (rows : List LockState) (row lock : LockState) → RowsApart rows → IsRising rows → IsIn row rows
    → IsIn lock rows → wanted_number lock < wanted_number row
    → IsIn lock (rows_before row.lkid rows)
older_before [] row lock apart rising in_row in_lock older = absurd in_row
older_before (x ∷ rows) row lock apart rising in_row in_lock older = elim in_row [
  | inl here ↦ absurd (not_first (subst (λ (y : LockState). wanted_number lock < wanted_number y) (sym here) older))
  | inr later ↦
      rw (ne_eqb x.lkid row.lkid (λ same. apart.0 row later (sym same))) (elim in_lock [
        | inl here ↦ inl here
        | inr behind ↦ inr (older_before rows row lock apart.1 rising.1 later behind older)
      ])
]
  where
    not_first : wanted_number lock < wanted_number x → ⊥
    not_first less = elim in_lock [
      | inl here ↦ (let own : wanted_number x < wanted_number x =
          subst (λ (y : LockState). wanted_number y < wanted_number x) (sym here) less in absurd (omega (arith, own)))
      | inr behind ↦ (let more = rising.0 lock behind in absurd (omega (arith, more, less)))
    ]

-- where the ID is not there, all rows are before it
before_all : (lkid : ℕ) (rows : List LockState) (lock : LockState) → ((x : LockState) → IsIn x rows → x.lkid ≢ lkid)
    → IsIn lock rows → IsIn lock (rows_before lkid rows)
before_all lkid [] lock none there = absurd there
before_all lkid (x ∷ rows) lock none there =
    rw (ne_eqb x.lkid lkid (none x (inl refl))) (elim there [
      | inl here ↦ inl here
      | inr later ↦ inr (before_all lkid rows lock (λ y in_y. none y (inr in_y)) later)
    ])

-- what is before one is of the list
pub before_in : (lkid : ℕ) (rows : List LockState) (lock : LockState) → IsIn lock (rows_before lkid rows) → IsIn lock rows
before_in lkid [] lock there = absurd there
before_in lkid (x ∷ rows) lock there = elim (cases_eq x.lkid lkid) [
  | inl same ↦ absurd (rw (eq-eqb x.lkid lkid same) at there)
  | inr differs ↦ of_cons (before_in lkid rows lock) (rw (ne_eqb x.lkid lkid differs) at there)
]
  where
    of_cons : (IsIn lock (rows_before lkid rows) → IsIn lock rows) → IsIn lock (x ∷ rows_before lkid rows) → IsIn lock (x ∷ rows)
    of_cons further some = elim some [ inl here ↦ inl here | inr later ↦ inr (further later) ]

-- ---- what keeps a request waiting

module _ (s : Records) (sound : IsSound s) (order : AreInOrder s) (f : LocatedLock) (own : StoredResource) (there : IsIn own s.resources)
    (among : IsIn (record { at = f.lock; row = f.row }) (queued f.queue own)) where
  -- the queued rows
  abbrev whole : List LockState
  whole = queue_of (plain_resource own)

  -- the located lock with its handle
  abbrev its : StoredLock
  its = record { at = f.lock; row = f.row }

  -- a lock that is granted is not queued
  pub not_queued : f.queue ≡ Granted → IsIn f.row whole → ⊥
  not_queued granted queued_row =
      let stands = queued_on s own f.row queued_row in
      let one : Queued own.at f.queue ≡ Queued own.at stands.queue =
      one_queue s sound own there f.queue stands.queue its stands.lock own there among stands.among (ap (λ (y : LockState). y.lkid) stands.its) in
      let same : f.queue ≡ stands.queue = cc in
      stands.not_granted (sym same ∙ granted)

  -- a lock whose request waits for another is queued for it
  pub awaits_of : (row : LockState) (w : WaitsOn (plain_resource own) f.row row) → Awaits f w.request
  awaits_of row w =
      record { queued = λ granted. not_queued granted (among_is f.row whole w.queued); wanted = w.wanted; counted = w.counted }

  module _ (request : Request) (awaits : Awaits f request) where
    -- its number is that of its request
    number_is : wanted_number f.row ≡ request.number
    number_is = ap (λ o. option_map_or (λ (q : Request). q.number) o 0) awaits.wanted

    in_queue : (queue : Queue) → queue ≢ Granted → IsIn its (queued queue own) → IsIn f.row whole
    in_queue Granted not here = absurd (not refl)
    in_queue Conversion not here = in_ahead f.row (rows_of_locks own.converting) (rows_of_locks own.waiting) (row_in its own.converting here)
    in_queue Waiting not here = in_behind f.row (rows_of_locks own.converting) (rows_of_locks own.waiting) (row_in its own.waiting here)

    in_whole : IsIn f.row whole
    in_whole = in_queue f.queue awaits.queued among

    -- a lock that waits converts not
    not_converting : IsIn its own.waiting → (x : LockState) → IsIn x (rows_of_locks own.converting) → x.lkid ≢ f.row.lkid
    not_converting here x in_x same =
        let k = lock_of x own.converting in_x in
        let one : Queued own.at Conversion ≡ Queued own.at Waiting =
        one_queue s sound own there Conversion Waiting k.0 its own there k.1.0 here (sym same ∙ sym (ap (λ (y : LockState). y.lkid) k.1.1)) in
        cc

    module _ (queue : Queue) (lock : StoredLock) (stands : IsIn lock (queued queue own)) where
      -- a lock of a queue by its row
      queue_is : (q : Queue) → IsIn lock.row (rows_of_locks (queued q own)) → queue ≡ q
      queue_is q in_row =
          let k = lock_of lock.row (queued q own) in_row in
          let one : Queued own.at queue ≡ Queued own.at q =
          one_queue s sound own there queue q lock k.0 own there stands k.1.0 (ap (λ (y : LockState). y.lkid) k.1.1) in
          cc

      -- what holds a mode is granted or converts
      holding : (q : Queue) → q ≢ Waiting → IsIn lock (queued q own) → IsIn lock.row (rows_of_locks own.granted ++ rows_of_locks own.converting)
      holding Granted not here = in_ahead lock.row (rows_of_locks own.granted) (rows_of_locks own.converting) (row_in lock own.granted here)
      holding Conversion not here = in_behind lock.row (rows_of_locks own.granted) (rows_of_locks own.converting) (row_in lock own.converting here)
      holding Waiting not here = absurd (not refl)

      -- it has the lower number
      older : nat_lt (wanted_number lock.row) request.number ≡ true → wanted_number lock.row < wanted_number f.row
      older test = subst (λ (n : ℕ). wanted_number lock.row < n) (sym number_is) (number_less (wanted_number lock.row) request.number test)

      younger : wanted_number lock.row < wanted_number f.row → nat_lt (wanted_number lock.row) request.number ≡ true
      younger less = less_number (wanted_number lock.row) request.number (subst (λ (n : ℕ). wanted_number lock.row < n) number_is less)

      -- by its queue and number it is before the request
      in_before : (p q : Queue) → IsIn lock (queued p own) → IsIn its (queued q own) → is_before p (wanted_number lock.row) q request.number ≡ true
          → IsIn lock.row (rows_before f.row.lkid whole)
      in_before Granted q here own_here before = absurd (cc)
      in_before Conversion Granted here own_here before = absurd (cc)
      in_before Conversion Conversion here own_here before =
          subst (IsIn lock.row) (sym (before_stops (rows_of_locks own.converting) (rows_of_locks own.waiting) f.row (row_in its own.converting own_here)))
          (older_before (rows_of_locks own.converting) f.row lock.row (apart_of s sound own there Conversion) (order.converting own there)
          (row_in its own.converting own_here) (row_in lock own.converting here) (older before))
      in_before Conversion Waiting here own_here before =
          subst (IsIn lock.row) (sym (before_passes f.row.lkid (rows_of_locks own.converting) (rows_of_locks own.waiting) (not_converting own_here)))
          (in_ahead lock.row (rows_before f.row.lkid (rows_of_locks own.converting)) (rows_before f.row.lkid (rows_of_locks own.waiting))
          (before_all f.row.lkid (rows_of_locks own.converting) lock.row (not_converting own_here) (row_in lock own.converting here)))
      in_before Waiting Granted here own_here before = absurd (cc)
      in_before Waiting Conversion here own_here before = absurd (cc)
      in_before Waiting Waiting here own_here before =
          subst (IsIn lock.row) (sym (before_passes f.row.lkid (rows_of_locks own.converting) (rows_of_locks own.waiting) (not_converting own_here)))
          (in_behind lock.row (rows_before f.row.lkid (rows_of_locks own.converting)) (rows_before f.row.lkid (rows_of_locks own.waiting))
          (older_before (rows_of_locks own.waiting) f.row lock.row (apart_of s sound own there Waiting) (order.waiting own there)
          (row_in its own.waiting own_here) (row_in lock own.waiting here) (older before)))

      -- a lock that keeps the request is one for which it waits
      pub kept : Keeps f.queue request queue lock.row → KeepsWaiting (plain_resource own) request f.row lock.row
      kept keeps = elim keeps [
        | inl held ↦ inl (is_among lock.row (rows_of_locks own.granted ++ rows_of_locks own.converting) (holding queue held.0 stands), held.1)
        | inr before ↦
            (let split = split_before whole f.row (queue_apart s sound own there) in_whole in
            inr (
              record {
                before = rows_before f.row.lkid whole;
                behind = split.0;
                queued = split.1;
                first_among = is_among lock.row (rows_before f.row.lkid whole) (in_before queue f.queue stands among before.0);
              },
              before.1,
            ))
      ]

      -- in its own queue a lock before the request has the lower number, and a conversion is before a waiting request
      before_by : (p q : Queue) → queue ≡ p → q ≢ Granted → IsIn its (queued q own) → IsIn lock.row (rows_before f.row.lkid whole)
          → is_before p (wanted_number lock.row) q request.number ≡ true
      before_by p Granted is not own_here before = absurd (not refl)
      before_by p Conversion is not own_here before =
          let first = subst (IsIn lock.row)
          (before_stops (rows_of_locks own.converting) (rows_of_locks own.waiting) f.row
          (row_in its own.converting own_here)) before in
          let same : Conversion ≡ p = sym (queue_is Conversion (before_in f.row.lkid (rows_of_locks own.converting) lock.row first)) ∙ is in
          subst (λ (o : Queue). is_before o (wanted_number lock.row) Conversion request.number ≡ true) same
          (younger (before_older (rows_of_locks own.converting) f.row lock.row (order.converting own there) (row_in its own.converting own_here) first))
      before_by p Waiting is not own_here before =
          elim (in_either lock.row (rows_before f.row.lkid (rows_of_locks own.converting)) (rows_before f.row.lkid (rows_of_locks own.waiting))
          (subst (IsIn lock.row) (before_passes f.row.lkid (rows_of_locks own.converting) (rows_of_locks own.waiting) (not_converting own_here)) before)) [
            | inl first ↦
                (let same : Conversion ≡ p = sym (queue_is Conversion (before_in f.row.lkid (rows_of_locks own.converting) lock.row first)) ∙ is in
                subst (λ (o : Queue). is_before o (wanted_number lock.row) Waiting request.number ≡ true) same refl)
            | inr second ↦
                (let same : Waiting ≡ p = sym (queue_is Waiting (before_in f.row.lkid (rows_of_locks own.waiting) lock.row second)) ∙ is in
                subst (λ (o : Queue). is_before o (wanted_number lock.row) Waiting request.number ≡ true) same
                (younger (before_older (rows_of_locks own.waiting) f.row lock.row (order.waiting own there) (row_in its own.waiting own_here) second)))
          ]

      -- and one for which it waits keeps it
      pub keeps : KeepsWaiting (plain_resource own) request f.row lock.row → Keeps f.queue request queue lock.row
      keeps kept = elim kept [
        | inl held ↦ inl (λ is. not_held is held.0, held.1)
        | inr before ↦
            (let parted = before.0 in
            let first : IsIn lock.row (rows_before f.row.lkid whole) =
            subst (IsIn lock.row)
            (sym (before_is parted.before f.row parted.behind
            (subst RowsApart parted.queued (queue_apart s sound own there)))
            ∙ sym (ap (rows_before f.row.lkid) parted.queued))
            (among_is lock.row parted.before parted.first_among) in
            inr (before_by queue f.queue refl awaits.queued among first, before.1))
      ]
        where
          not_held : queue ≡ Waiting → IsRowAmong (rows_of_locks own.granted ++ rows_of_locks own.converting) lock.row → ⊥
          not_held is in_held =
              elim (in_either lock.row (rows_of_locks own.granted) (rows_of_locks own.converting)
              (among_is lock.row (rows_of_locks own.granted ++ rows_of_locks own.converting) in_held)) [
                | inl first ↦ (let never : Granted ≡ Waiting = sym (queue_is Granted first) ∙ is in cc)
                | inr second ↦ (let never : Conversion ≡ Waiting = sym (queue_is Conversion second) ∙ is in cc)
              ]

      -- another lock that keeps it
      pub waits : lock.row.lkid ≢ f.row.lkid → Keeps f.queue request queue lock.row → WaitsOn (plain_resource own) f.row lock.row
      waits another keeps_it = record {
        queued = is_among f.row whole in_whole;
        request = request;
        wanted = awaits.wanted;
        counted = awaits.counted;
        another = another;
        kept = kept keeps_it;
      }

      -- and no other
      pub waited : WaitsOn (plain_resource own) f.row lock.row → (lock.row.lkid ≢ f.row.lkid) × Keeps f.queue request queue lock.row
      waited on =
          let same : on.request ≡ request = same_Some on.request request (sym on.wanted ∙ awaits.wanted) in
          (on.another, keeps (subst (λ (q : Request). KeepsWaiting (plain_resource own) q f.row lock.row) same on.kept))

-- ---- the lock that is looked at

-- the locks of the walk are those of the resource
pub record Looks (s : Records) (f : LocatedLock) (lock : ℕ) (row : LockState) (queue : Queue) : Type 0 where
  pub own : StoredResource
  pub found : resource_at f.res s.resources ≡ Some own
  pub there : IsIn own s.resources
  pub among : IsIn (record { at = f.lock; row = f.row }) (queued f.queue own)
  pub stands : IsIn (record { at = lock; row = row }) (queued queue own)

pub looks : (s : Records) (f : LocatedLock) (lock : ℕ) (row : LockState) (queue : Queue) (place : Place) (res : ℕ)
    → IsSound s → IsLocated f s → IsOn lock f.res s
    → place ≡ Queued res queue → IsIn (record { at = lock; row = row }) (locks_at place s) → Looks s f lock row queue
looks s f lock row queue place res sound located on is here =
    let w = where_on s f.res lock on in
    let one : Queued res queue ≡ Queued f.res w.queue = sym is ∙ place_is s f.res lock sound w place row here in
    let placed : IsIn (record { at = lock; row = row }) (locks_at (Queued f.res queue) s) =
    subst (λ p. IsIn (record { at = lock; row = row }) (locks_at p s)) (is ∙ same_res res f.res queue w.queue one) here in
    record {
      own = located.resource;
      found = located.found;
      there = resource_among f.res s.resources located.resource located.found;
      among = located.among;
      stands = subst (λ o. IsIn (record { at = lock; row = row }) (option_map_or (queued queue) o [])) located.found placed;
    }
  where
    same_res : (a b : ℕ) (p q : Queue) → Queued a p ≡ Queued b q → Queued a p ≡ Queued b p
    same_res a b p q one = (let same : a ≡ b = cc in ap (λ r. Queued r p) same)

-- a lock passes exactly if its row does
pub passes_row : (P : Resource → LockState → Type 0) (s : Records) (res lock : ℕ) (row : LockState)
    (own : StoredResource) → resource_at res s.resources ≡ Some own → Stores s lock row
    → P (plain_resource own) row → PassesOn P s res lock
passes_row P s res lock row own found stored passes = record { resource = own; found = found; row = row; stored = stored; passes = passes }

pub row_passes : (P : Resource → LockState → Type 0) (s : Records) (res lock : ℕ) (row : LockState)
    (own : StoredResource) → IsSound s → resource_at res s.resources ≡ Some own → Stores s lock row
    → PassesOn P s res lock → P (plain_resource own) row
row_passes P s res lock row own sound found stored w =
    let resource : w.resource ≡ own = same_Some w.resource own (sym w.found ∙ found) in
    let its_row : w.row ≡ row = one_lock s sound lock w.row row w.stored stored in
    subst (λ (r : StoredResource). P (plain_resource r) row) resource (subst (P (plain_resource w.resource)) its_row w.passes)

-- ---- the lock that is waited for

module _ (s : Records) (sound : IsSound s) (f waiting : LocatedLock) (located : IsLocated f s)
    (its : IsLocated waiting s) (other : ℕ) (handle : waiting.lock ≡ other) (on : IsOn other f.res s) where
  -- a located lock that is on a resource has its handle
  pub one_res : waiting.res ≡ f.res
  one_res =
      let w = where_on s f.res other on in
      let here : IsIn (record { at = waiting.lock; row = waiting.row }) (locks_at (Queued waiting.res waiting.queue) s) =
      subst (λ o. IsIn (record { at = waiting.lock; row = waiting.row }) (option_map_or (queued waiting.queue) o [])) (sym its.found) its.among in
      let placed : Queued waiting.res waiting.queue ≡ Queued f.res w.queue =
      place_is s f.res other sound w (Queued waiting.res waiting.queue) waiting.row
      (subst (λ h. IsIn (record { at = h; row = waiting.row }) (locks_at (Queued waiting.res waiting.queue) s)) handle here) in
      cc

  stored_of : (g : LocatedLock) → IsLocated g s → Stores s g.lock g.row
  stored_of g at = queued_stored s sound at.resource (resource_among g.res s.resources at.resource at.found) g.queue
      (record { at = g.lock; row = g.row }) at.among

  -- the located lock is on the resource of the other one
  pub located_on : IsOn f.lock waiting.res s
  located_on = subst (λ h. IsOn f.lock h s) (sym one_res) (on_all s f.res f.lock located.resource f.queue f.row located.found located.among)

  -- it is waited for exactly if the other one waits for it
  pub waited_for : WaitsOnLock s waiting f.lock → WaitsForLocated s f other
  waited_for w = record {
    resource = w.resource;
    found = subst (λ h. resource_at h s.resources ≡ Some w.resource) one_res w.found;
    row = waiting.row;
    stored = subst (λ h. Stores s h waiting.row) handle (stored_of waiting its);
    passes = subst (λ row. WaitsOn (plain_resource w.resource) waiting.row row) (one_lock s sound f.lock w.row f.row w.stored (stored_of f located)) w.passes;
  }

  pub waits_back : WaitsForLocated s f other → WaitsOnLock s waiting f.lock
  waits_back w = record {
    resource = w.resource;
    found = subst (λ h. resource_at h s.resources ≡ Some w.resource) (sym one_res) w.found;
    row = f.row;
    stored = stored_of f located;
    passes =
        subst (λ row. WaitsOn (plain_resource w.resource) row f.row)
        (one_lock s sound other w.row waiting.row w.stored (subst (λ h. Stores s h waiting.row) handle (stored_of waiting its))) w.passes;
  }
