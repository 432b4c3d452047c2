-- How many locks a process has: as many handles as it has locks of its own.
use Rattle.std.proofs.Common.{◌≡◌, ◌≢◌, ◌≤◌, ℕ, true, false, cond, List, [], ◌∷◌, ◌++◌, length, map, filter, Some, refl}
use Rattle.std.proofs.Common.{sym, ap, ◌∙◌, subst, inl, inr, arith, eq-eqb, ne_eqb, length-append}
use Rattle.std.specs.Prelude.{◌==◌, sum_by}
use Rattle.std.specs.Option.{option_map_or}
use Rattle.std.proofs.lemmas.Bool.{cases_eq}
use Rattle.std.proofs.lemmas.List.{length-map}
use Rattle.std.proofs.lemmas.List.Sums.{length-filter, sum_by-cons}
use Rattle.vlm_collections.specs.Lists.{IsApart, IsIn, without}
use Rattle.vlm_collections.proofs.Images.{IsIn-image, IsIn-of_image}
use Rattle.vlm_collections.proofs.HandleLists.{IsApart-without, IsIn-without_kept, length-without}
use Rattle.vlm_words.specs.declared.locks.LockState.{LockState}
use Rattle.vlm_words.specs.declared.resources.Queue.{Queue}
use Rattle.vlm_words.specs.declared.resources.Queue.TheVariants.{Granted, Conversion, Waiting}
use Rattle.vlm_records.specs.declared.handles.Place.{Place}
use Rattle.vlm_records.specs.declared.handles.Place.TheVariants.{Queued}
use Rattle.vlm_store.specs.Records.{AreApart, AreOwnApart, AreProcessesApart, AreResourcesApart, IsProcess, IsSound}
use Rattle.vlm_store.specs.Records.{OwnLock, Records, StoredLock, StoredProcess, StoredResource, Stores, locks_at}
use Rattle.vlm_store.specs.Records.{own_at, owned_among, owned_by, owned_on, process_at, queued, resource_at}
use Rattle.vlm_store.specs.Records.{NoneIsLoose}
use Rattle.vlm_store.proofs.PlainProcesses.{process_at-stored}
use Rattle.vlm_records.proofs.Counting.{IsApart-append, IsIn-append}
use Rattle.vlm_store.proofs.Records.{queue_at, in_a_queue}

-- ---- handles

IsIn-first : (k : ℕ) (xs ys : List ℕ) → IsIn k xs → IsIn k (xs ++ ys)
IsIn-first k [] ys found = absurd found
IsIn-first k (x ∷ xs) ys found = elim found [ inl here ↦ inl here | inr there ↦ inr (IsIn-first k xs ys there) ]

IsIn-second : (k : ℕ) (xs ys : List ℕ) → IsIn k ys → IsIn k (xs ++ ys)
IsIn-second k [] ys found = found
IsIn-second k (x ∷ xs) ys found = inr (IsIn-second k xs ys found)

-- handles that are all among others are no more than these
no_longer : (xs ys : List ℕ) → IsApart xs → IsApart ys → ((k : ℕ) → IsIn k xs → IsIn k ys) → length xs ≤ length ys
no_longer [] ys apart others within = omega arith
no_longer (x ∷ xs) ys apart others within =
    let rest = no_longer xs (without x ys) apart.1 (IsApart-without x ys others)
    (λ k found. IsIn-without_kept x k ys (within k (inr found)) (λ same. apart.0 (subst (λ y. IsIn y xs) same found))) in
    let one = length-without x ys others (within x (inl refl)) in
    omega (arith, rest, one)

-- two lists with the same handles are equally long
pub as_long : (xs ys : List ℕ) → IsApart xs → IsApart ys → ((k : ℕ) → IsIn k xs → IsIn k ys) → ((k : ℕ) → IsIn k ys → IsIn k xs) → length xs ≡ length ys
as_long xs ys apart others within back = omega (arith, no_longer xs ys apart others within, no_longer ys xs others apart back)

-- ---- the handles of a process's own locks

abbrev pub own_handles : List OwnLock → List ℕ
own_handles own = map (λ (o : OwnLock). o.at) own

pub own_handle : (own : List OwnLock) (k : ℕ) → IsIn k (own_handles own) → (o : OwnLock) × (IsIn o own × (o.at ≡ k))
own_handle = IsIn-of_image (λ (o : OwnLock). o.at)

pub own_under_handle : (own : List OwnLock) (o : OwnLock) → IsIn o own → IsIn o.at (own_handles own)
own_under_handle = IsIn-image (λ (o : OwnLock). o.at)

pub own_handles-apart : (own : List OwnLock) → AreOwnApart own → IsApart (own_handles own)
own_handles-apart [] apart = tt
own_handles-apart (o ∷ rest) apart = (
  λ found. let other = own_handle rest o.at found in apart.0 other.0 other.1.0 other.1.1,
  own_handles-apart rest apart.1,
)

-- ---- the handles of the locks whose rows name a process

module _ (pid : ℕ) where
  abbrev handles_among : List StoredLock → List ℕ
  handles_among locks = map (λ (k : StoredLock). k.at) (filter (λ (k : StoredLock). k.row.pid == pid) locks)

  handles_among-length : (locks : List StoredLock) → length (handles_among locks) ≡ owned_among pid locks
  handles_among-length locks =
      length-map (filter (λ (k : StoredLock). k.row.pid == pid) locks) (λ (k : StoredLock). k.at) ∙ length-filter (λ (k : StoredLock). k.row.pid == pid) locks

  -- the lock of a handle
  among_handles : (locks : List StoredLock) (at : ℕ) → IsIn at (handles_among locks) → (row : LockState)
      × (IsIn (record { at = at; row = row }) locks × (row.pid ≡ pid))
  among_handles [] at found = absurd found
  among_handles (k ∷ rest) at found =
      elim (cases_eq k.row.pid pid) [
        | inl same ↦
            elim (rw (eq-eqb k.row.pid pid same) at found) [
              | inl here ↦ (k.row, (inl (ap (λ x. record { at = x; row = k.row }) here), same))
              | inr there ↦ let later = among_handles rest at there in (later.0, (inr later.1.0, later.1.1))
            ]
        | inr differs ↦ let later = among_handles rest at (rw (ne_eqb k.row.pid pid differs) at found) in (later.0, (inr later.1.0, later.1.1))
      ]

  under_handle_among : (locks : List StoredLock) (lock : StoredLock) → IsIn lock locks → lock.row.pid ≡ pid → IsIn lock.at (handles_among locks)
  under_handle_among [] lock among is = absurd among
  under_handle_among (k ∷ rest) lock among is =
      elim among [
        | inl here ↦ rw (eq-eqb k.row.pid pid (ap (λ (x : StoredLock). x.row.pid) here ∙ is)) (inl (ap (λ (x : StoredLock). x.at) here))
        | inr there ↦
            elim (k.row.pid == pid) as
            (λ b. IsIn lock.at (map (λ (x : StoredLock). x.at)
            (cond b (k ∷ filter (λ (x : StoredLock). x.row.pid == pid) rest)
            (filter (λ (x : StoredLock). x.row.pid == pid) rest)))) [
              | true ↦ inr (under_handle_among rest lock there is)
              | false ↦ under_handle_among rest lock there is
            ]
      ]

  handles_among-apart : (locks : List StoredLock) → AreApart locks → IsApart (handles_among locks)
  handles_among-apart [] apart = tt
  handles_among-apart (k ∷ rest) apart =
      elim (k.row.pid == pid) as
      (λ b. IsApart (map (λ (x : StoredLock). x.at)
      (cond b (k ∷ filter (λ (x : StoredLock). x.row.pid == pid) rest)
      (filter (λ (x : StoredLock). x.row.pid == pid) rest)))) [
        | true ↦ (λ found. let other = among_handles rest k.at found in apart.0 other.0 other.1.0, handles_among-apart rest apart.1)
        | false ↦ handles_among-apart rest apart.1
      ]

  -- those on a resource, and on all resources
  abbrev handles_on : StoredResource → List ℕ
  handles_on r = handles_among r.granted ++ (handles_among r.converting ++ handles_among r.waiting)

  handles_on-length : (r : StoredResource) → length (handles_on r) ≡ owned_on pid r
  handles_on-length r =
      omega (
        arith,
        length-append (handles_among r.granted) (handles_among r.converting ++ handles_among r.waiting),
        length-append (handles_among r.converting) (handles_among r.waiting),
        handles_among-length r.granted,
        handles_among-length r.converting,
        handles_among-length r.waiting,
      )

  in_queue : (r : StoredResource) (at : ℕ) → IsIn at (handles_on r) → (queue : Queue) × (row : LockState)
      × (IsIn (record { at = at; row = row }) (queued queue r) × (row.pid ≡ pid))
  in_queue r at found =
      IsIn-append at (handles_among r.granted) (handles_among r.converting ++ handles_among r.waiting) _
      (λ here. let lock = among_handles r.granted at here in (Granted, lock.0, lock.1))
      (λ later. IsIn-append at (handles_among r.converting) (handles_among r.waiting) _
      (λ here. let lock = among_handles r.converting at here in (Conversion, lock.0, lock.1))
      (λ here. let lock = among_handles r.waiting at here in (Waiting, lock.0, lock.1)) later) found

  queue_in : (r : StoredResource) (queue : Queue) (at : ℕ) → IsIn at (handles_among (queued queue r)) → IsIn at (handles_on r)
  queue_in r Granted at found = IsIn-first at (handles_among r.granted) _ found
  queue_in r Conversion at found = IsIn-second at (handles_among r.granted) _ (IsIn-first at (handles_among r.converting) _ found)
  queue_in r Waiting at found = IsIn-second at (handles_among r.granted) _ (IsIn-second at (handles_among r.converting) _ found)

  abbrev handles_in : List StoredResource → List ℕ
  handles_in [] = []
  handles_in (r ∷ rest) = handles_on r ++ handles_in rest

  handles_in-length : (rs : List StoredResource) → length (handles_in rs) ≡ sum_by (owned_on pid) rs
  handles_in-length [] = refl
  handles_in-length (r ∷ rest) =
      omega (arith, length-append (handles_on r) (handles_in rest), handles_on-length r, handles_in-length rest, sum_by-cons (owned_on pid) r rest)

  in_resource : (rs : List StoredResource) (at : ℕ) → IsIn at (handles_in rs) → (r : StoredResource) × (IsIn r rs × IsIn at (handles_on r))
  in_resource [] at found = absurd found
  in_resource (r ∷ rest) at found =
      IsIn-append at (handles_on r) (handles_in rest) _ (λ here. (r, (inl refl, here))) (λ later. let there =
      in_resource rest at later in (there.0, (inr there.1.0, there.1.1))) found

  resource_in : (rs : List StoredResource) (res : ℕ) (queue : Queue) (lock : StoredLock)
      → IsIn lock (option_map_or (queued queue) (resource_at res rs) []) → lock.row.pid ≡ pid
      → IsIn lock.at (handles_in rs)
  resource_in [] res queue lock among is = absurd among
  resource_in (r ∷ rest) res queue lock among is =
      elim (cases_eq r.at res) [
        | inl same ↦ IsIn-first lock.at (handles_on r) (handles_in rest)
            (queue_in r queue lock.at
            (under_handle_among (queued queue r) lock (rw (eq-eqb r.at res same) at among) is))
        | inr differs ↦ IsIn-second lock.at (handles_on r) (handles_in rest) (resource_in rest res queue lock (rw (ne_eqb r.at res differs) at among) is)
      ]

  module _ (s : Records) (sound : IsSound s) where
    -- a handle of a resource is that of a lock in one of its queues
    stands_on : (r : StoredResource) → IsIn r s.resources → (at : ℕ) → IsIn at (handles_on r)
        → (queue : Queue) × (row : LockState) × (IsIn (record { at = at; row = row }) (locks_at (Queued r.at queue) s) × (row.pid ≡ pid))
    stands_on r among at found =
        let stands = in_queue r at found in
        (stands.0, stands.1, (subst (IsIn (record { at = at; row = stands.1 })) (sym (queue_at s sound r among stands.0)) stands.2.0, stands.2.1))

    -- no handle is that of two locks
    queue_apart : (r : StoredResource) → IsIn r s.resources → (queue : Queue) → IsApart (handles_among (queued queue r))
    queue_apart r among queue = handles_among-apart (queued queue r) (subst AreApart (queue_at s sound r among queue) (sound.locks_apart (Queued r.at queue)))

    queues_apart : (r : StoredResource) → IsIn r s.resources → (a b : Queue) → Queued r.at a ≢ Queued r.at b → (k : ℕ)
        → IsIn k (handles_among (queued a r)) → ¬ IsIn k (handles_among (queued b r))
    queues_apart r among a b differs k here there =
        let one = among_handles (queued a r) k here in
        let other = among_handles (queued b r) k there in
        differs (
        sound.one_place k one.0 other.0 (Queued r.at a) (Queued r.at b)
        (subst (IsIn (record { at = k; row = one.0 })) (sym (queue_at s sound r among a)) one.1.0)
        (subst (IsIn (record { at = k; row = other.0 })) (sym (queue_at s sound r among b)) other.1.0)
        )

    handles_on-apart : (r : StoredResource) → IsIn r s.resources → IsApart (handles_on r)
    handles_on-apart r among =
        IsApart-append (handles_among r.granted) (handles_among r.converting ++ handles_among r.waiting) (queue_apart r among Granted)
        (IsApart-append (handles_among r.converting) (handles_among r.waiting) (queue_apart r among Conversion)
        (queue_apart r among Waiting) (queues_apart r among Conversion Waiting (λ e. cc)))
        (λ k here there.
        IsIn-append k (handles_among r.converting) (handles_among r.waiting) ⊥
        (queues_apart r among Granted Conversion (λ e. cc) k here)
        (queues_apart r among Granted Waiting (λ e. cc) k here) there)

    handles_in-apart : (rs : List StoredResource) → AreResourcesApart rs → ((r : StoredResource) → IsIn r rs → IsIn r s.resources) → IsApart (handles_in rs)
    handles_in-apart [] apart within = tt
    handles_in-apart (r ∷ rest) apart within =
        IsApart-append (handles_on r) (handles_in rest) (handles_on-apart r (within r (inl refl)))
        (handles_in-apart rest apart.1 (λ x there. within x (inr there)))
        (λ k here there.
        let one = stands_on r (within r (inl refl)) k here in
        let other = in_resource rest k there in
        let later = stands_on other.0 (within other.0 (inr other.1.0)) k other.1.1 in
        apart.0 other.0 other.1.0
        (sym (same_resource r.at other.0.at one.0 later.0
        (sound.one_place k one.1 later.1 (Queued r.at one.0) (Queued other.0.at later.0) one.2.0 later.2.0))))
      where
        same_resource : (a b : ℕ) (p q : Queue) → Queued a p ≡ Queued b q → a ≡ b
        same_resource a b p q same = cc

    -- the handles of all locks of the process
    abbrev handles_by : List ℕ
    handles_by = handles_in s.resources

    handles_by-length : length handles_by ≡ owned_by pid s
    handles_by-length = handles_in-length s.resources

    handles_by-apart : IsApart handles_by
    handles_by-apart = handles_in-apart s.resources sound.resources_apart (λ r among. among)

    stored_handle : (at : ℕ) (row : LockState) → Stores s at row → row.pid ≡ pid → IsIn at handles_by
    stored_handle at row stored is = by_place stored.0 stored.1
      where
        by_place : (place : Place) → IsIn (record { at = at; row = row }) (locks_at place s) → IsIn at handles_by
        by_place (Queued res queue) among = resource_in s.resources res queue (record { at = at; row = row }) among is

    handle_stored : (at : ℕ) → IsIn at handles_by → (row : LockState) × (Stores s at row × (row.pid ≡ pid))
    handle_stored at found =
        let on = in_resource s.resources at found in
        let stands = stands_on on.0 on.1.0 at on.1.1 in
        (stands.1, ((Queued on.0.at stands.0, stands.2.0), stands.2.1))

-- two processes with one ID are one
pub one_process : (ps : List StoredProcess) → AreProcessesApart ps → (p q : StoredProcess) → IsIn p ps → IsIn q ps → p.process.pid ≡ q.process.pid → p ≡ q
one_process [] apart p q here there same = absurd here
one_process (x ∷ ps) apart p q here there same =
    elim here [
      | inl first ↦ elim there [
        | inl also ↦ sym first ∙ also
        | inr later ↦ absurd ((apart.0 q later).1 (sym same ∙ ap (λ (y : StoredProcess). y.process.pid) (sym first)))
      ]
      | inr later ↦ elim there [
        | inl first ↦ absurd ((apart.0 p later).1 (same ∙ ap (λ (y : StoredProcess). y.process.pid) (sym first)))
        | inr also ↦ one_process ps apart.1 p q later also same
      ]
    ]

-- a process has as many locks of its own as rows name it
pub count_is : (s : Records) (p : StoredProcess) → IsSound s → NoneIsLoose s → IsIn p s.processes → length p.own ≡ owned_by p.process.pid s
count_is s p sound none among =
    sym (length-map p.own (λ (o : OwnLock). o.at))
    ∙ as_long (own_handles p.own) (handles_by p.process.pid s sound) (own_handles-apart p.own (sound.own_apart p among))
    (handles_by-apart p.process.pid s sound)
    (λ k found.
    let own = own_handle p.own k found in
    let stored = sound.owned.owns p own.0 among own.1.0 in
    stored_handle p.process.pid s sound k stored.0 (subst (λ x. Stores s x stored.0) own.1.1 (in_a_queue s none own.0.at stored.0 stored.1.0)) stored.1.1)
    (λ k found.
    let stored = handle_stored p.process.pid s sound k found in
    let owned = sound.owned.owned k stored.0 (inl stored.1.0) in
    let same = one_process s.processes sound.processes_apart owned.0 p owned.2.0 among (owned.2.1 ∙ stored.1.1) in
    subst (λ (x : StoredProcess). IsIn k (own_handles x.own)) same
    (subst (λ x. IsIn x (own_handles owned.0.own)) owned.2.3 (own_under_handle owned.0.own owned.1 owned.2.2)))
    ∙ handles_by-length p.process.pid s sound

pub own_count : (s : Records) (at pid : ℕ) → IsSound s → NoneIsLoose s → IsProcess at pid s → length (own_at at s) ≡ owned_by pid s
own_count s at pid sound none is =
    let found = subst (λ x. process_at x s.processes ≡ Some is.0) is.1.1 (process_at-stored is.0 s.processes sound.processes_apart is.1.0) in
    ap (λ o. length (option_map_or (λ (x : StoredProcess). x.own) o [])) found ∙ count_is s is.0 sound none is.1.0 ∙ ap (λ x. owned_by x s) is.1.2
