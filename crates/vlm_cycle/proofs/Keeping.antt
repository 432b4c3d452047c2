-- Whom a queued request waits for: those whose locks keep it, as the records have them.
use Rattle.std.proofs.Common.{◌≡◌, ◌≢◌, ◌⊎◌, ℕ, true, false, List, [], ◌∷◌, ◌++◌, None, Some, refl, sym, ap, ◌∙◌, subst, inl, inr}
use Rattle.std.proofs.lemmas.Option.{same_Some}
use Rattle.vlm_words.specs.declared.locks.Request.{Request}
use Rattle.vlm_words.specs.declared.locks.LockState.{LockState}
use Rattle.vlm_words.specs.declared.resources.Queue.{Queue}
use Rattle.vlm_words.specs.declared.resources.Queue.TheVariants.{Granted, Conversion, Waiting}
use Rattle.vlm_model.specs.Deadlocks.{KeepsWaiting, WaitsFor, WaitsOn, queue_of}
use Rattle.vlm_words.specs.Flags.{flag_bits, has_flag, nodlckwt}
use Rattle.vlm_collections.specs.Lists.{IsIn}
use Rattle.vlm_records.specs.declared.handles.Place.TheVariants.{Queued}
use Rattle.vlm_store.specs.Plain.{plain_resource}
use Rattle.vlm_store.specs.Records.{AreApart, IsSound, Records, StoredLock, StoredResource, Stores, locks_at, queued, resource_at, rows_of_locks}
use Rattle.vlm_store.proofs.Records.{queue_at, resource_is}
use Rattle.vlm_locks.proofs.QueuedLocks.{queued_stored}
use Rattle.vlm_cycle.specs.Waiting.{OwnsWaitedFor, OwnsBefore, OwnsBlocker, OwnsKeeper, rows_before, searched}
use Rattle.vlm_cycle.proofs.Listed.{RowsApart, among_is, any_resource, apart_both, before_differs, before_is}
use Rattle.vlm_cycle.proofs.Listed.{before_passes, before_stops, is_among, lock_of, row_in, some_resource, split_before}
use Rattle.vlm_collections.proofs.HandleLists.{in_either, in_ahead, in_behind}

-- a lock that is queued and not granted
pub record IsQueuedOn (s : Records) (r : StoredResource) (row : LockState) : Type 0 where
  pub queue : Queue
  pub not_granted : queue ≢ Granted
  pub lock : StoredLock
  pub among : IsIn lock (queued queue r)
  pub its : lock.row ≡ row

pub queued_on : (s : Records) (r : StoredResource) (row : LockState) → IsIn row (queue_of (plain_resource r)) → IsQueuedOn s r row
queued_on s r row there = elim (in_either row (rows_of_locks r.converting) (rows_of_locks r.waiting) there) [
  | inl first ↦
      (let found = lock_of row r.converting first in
      record { queue = Conversion; not_granted = λ is. cc; lock = found.0; among = found.1.0; its = found.1.1 })
  | inr second ↦
      (let found = lock_of row r.waiting second in
      record { queue = Waiting; not_granted = λ is. cc; lock = found.0; among = found.1.0; its = found.1.1 })
]

-- a request that waits is stored
pub record IsWaitingOn (s : Records) (row lock : LockState) : Type 0 where
  pub resource : StoredResource
  pub there : IsIn resource s.resources
  pub waits : WaitsOn (plain_resource resource) row lock
  pub stands : IsQueuedOn s resource row

pub waiting_on : (s : Records) (row lock : LockState) → WaitsFor (searched s) row lock → IsWaitingOn s row lock
waiting_on s row lock waits =
    let found = some_resource (λ r. WaitsOn r row lock) s.resources waits in
    record {
      resource = found.0;
      there = found.1.0;
      waits = found.1.1;
      stands = queued_on s found.0 row (among_is row (queue_of (plain_resource found.0)) found.1.1.queued);
    }

module _ (s : Records) (sound : IsSound s) where
  pub row_stored : (row lock : LockState) → WaitsFor (searched s) row lock → (at : ℕ) × Stores s at row
  row_stored row lock waits =
      let w = waiting_on s row lock waits in
      let k = w.stands.lock in
      (k.at, subst (Stores s k.at) w.stands.its (queued_stored s sound w.resource w.there w.stands.queue k w.stands.among))

  -- and so is the lock that it waits for
  pub lock_stored : (row lock : LockState) → WaitsFor (searched s) row lock → (at : ℕ) × Stores s at lock
  lock_stored row lock waits =
      let w = waiting_on s row lock waits in
      elim w.waits.kept [
        | inl held ↦ elim (in_either lock (rows_of_locks w.resource.granted) (rows_of_locks w.resource.converting)
            (among_is lock (rows_of_locks w.resource.granted ++ rows_of_locks w.resource.converting) held.0)) [
              | inl first ↦ in_one w.resource w.there Granted (lock_of lock w.resource.granted first)
              | inr second ↦ in_one w.resource w.there Conversion (lock_of lock w.resource.converting second)
            ]
        | inr before ↦
            (let stands = queued_on s w.resource lock
            (subst (IsIn lock) (sym before.0.queued)
            (in_ahead lock before.0.before (row ∷ before.0.behind)
            (among_is lock before.0.before before.0.first_among))) in
            in_one w.resource w.there stands.queue (stands.lock, (stands.among, stands.its)))
      ]
    where
      in_one : (r : StoredResource) → IsIn r s.resources → (queue : Queue) → (k : StoredLock)
          × (IsIn k (queued queue r) × (k.row ≡ lock)) → (at : ℕ) × Stores s at lock
      in_one r there queue found = (found.0.at, subst (Stores s found.0.at) found.1.1 (queued_stored s sound r there queue found.0 found.1.0))

  -- ---- the rows of a resource

  module _ (own : StoredResource) (there : IsIn own s.resources) where
    apart_in : (ks : List StoredLock) → AreApart ks → ((k : StoredLock) → IsIn k ks → Stores s k.at k.row) → RowsApart (rows_of_locks ks)
    apart_in [] apart stored = tt
    apart_in (k ∷ ks) apart stored = (
      λ other in_other same.
          let found = lock_of other ks in_other in
          let x = found.0 in
          let handle : x.at ≡ k.at = sound.lkids_apart x.at k.at x.row k.row (inl (stored x (inr found.1.0)))
          (inl (stored k (inl refl))) (ap (λ (y : LockState). y.lkid) found.1.1 ∙ same) in
          apart.0 x.row (subst (λ h. IsIn (record { at = h; row = x.row }) ks) handle found.1.0),
      apart_in ks apart.1 (λ x in_x. stored x (inr in_x)),
    )

    pub apart_of : (queue : Queue) → RowsApart (rows_of_locks (queued queue own))
    apart_of queue =
        apart_in (queued queue own) (subst AreApart (queue_at s sound own there queue) (sound.locks_apart (Queued own.at queue)))
        (queued_stored s sound own there queue)

    -- a lock stands in one queue
    pub one_queue : (p q : Queue) (a b : StoredLock) (r : StoredResource) → IsIn r s.resources → IsIn a (queued p own)
        → IsIn b (queued q r) → b.row.lkid ≡ a.row.lkid
        → Queued own.at p ≡ Queued r.at q
    one_queue p q a b r in_r in_a in_b same =
        let handle : b.at ≡ a.at = sound.lkids_apart b.at a.at b.row a.row (inl (queued_stored s sound r in_r q b in_b))
        (inl (queued_stored s sound own there p a in_a)) same in
        sound.one_place a.at a.row b.row (Queued own.at p) (Queued r.at q)
        (subst (IsIn a) (sym (queue_at s sound own there p)) in_a)
        (subst (λ h. IsIn (record { at = h; row = b.row }) (locks_at (Queued r.at q) s)) handle (subst (IsIn b) (sym (queue_at s sound r in_r q)) in_b))

    pub queue_apart : RowsApart (queue_of (plain_resource own))
    queue_apart =
        apart_both (rows_of_locks own.converting) (rows_of_locks own.waiting) (apart_of Conversion) (apart_of Waiting)
        (λ a b in_a in_b same.
        let ka = lock_of a own.converting in_a in
        let kb = lock_of b own.waiting in_b in
        let one : Queued own.at Conversion ≡ Queued own.at Waiting =
        one_queue Conversion Waiting ka.0 kb.0 own there ka.1.0 kb.1.0
        (ap (λ (y : LockState). y.lkid) kb.1.1 ∙ same ∙ sym (ap (λ (y : LockState). y.lkid) ka.1.1)) in
        cc)

    module _ (lock : StoredLock) where
      pub not_converting : IsIn lock own.waiting → (x : LockState) → IsIn x (rows_of_locks own.converting) → x.lkid ≢ lock.row.lkid
      not_converting among x in_x same =
          let k = lock_of x own.converting in_x in
          let one : Queued own.at Conversion ≡ Queued own.at Waiting =
          one_queue Conversion Waiting k.0 lock own there k.1.0 among (sym same ∙ sym (ap (λ (y : LockState). y.lkid) k.1.1)) in
          cc

      -- the owners of blockers are those of blockers in the whole queue
      pub before_whole : (queue : Queue) → queue ≢ Granted → IsIn lock (queued queue own) → (pid : ℕ)
          → OwnsBefore lock.row.lkid queue (rows_of_locks own.converting) (rows_of_locks own.waiting) pid
          → OwnsBlocker (rows_before lock.row.lkid (queue_of (plain_resource own))) pid
      before_whole Granted not among pid some = absurd (not refl)
      before_whole Conversion not among pid some =
          subst (λ rows. OwnsBlocker rows pid)
          (sym (before_stops (rows_of_locks own.converting) (rows_of_locks own.waiting) lock.row
          (row_in lock own.converting among))) some
      before_whole Waiting not among pid some =
          subst (λ rows. OwnsBlocker rows pid)
          (sym (before_passes lock.row.lkid (rows_of_locks own.converting) (rows_of_locks own.waiting)
          (not_converting among)))
          (elim some [
            | inl first ↦ (
              first.0,
              (
                in_ahead first.0 (rows_before lock.row.lkid (rows_of_locks own.converting))
                    (rows_before lock.row.lkid (rows_of_locks own.waiting)) first.1.0,
                first.1.1,
                first.1.2,
              ),
            )
            | inr second ↦ (
              second.0,
              (
                in_behind second.0 (rows_before lock.row.lkid (rows_of_locks own.converting))
                    (rows_before lock.row.lkid (rows_of_locks own.waiting)) second.1.0,
                second.1.1,
                second.1.2,
              ),
            )
          ])

      pub whole_before : (queue : Queue) → queue ≢ Granted → IsIn lock (queued queue own) → (pid : ℕ)
          → OwnsBlocker (rows_before lock.row.lkid (queue_of (plain_resource own))) pid
          → OwnsBefore lock.row.lkid queue (rows_of_locks own.converting) (rows_of_locks own.waiting) pid
      whole_before Granted not among pid some = absurd (not refl)
      whole_before Conversion not among pid some =
          subst (λ rows. OwnsBlocker rows pid)
          (before_stops (rows_of_locks own.converting) (rows_of_locks own.waiting) lock.row
          (row_in lock own.converting among)) some
      whole_before Waiting not among pid some =
          of_parts (subst (λ rows. OwnsBlocker rows pid)
          (before_passes lock.row.lkid (rows_of_locks own.converting) (rows_of_locks own.waiting)
          (not_converting among)) some)
        where
          of_parts : OwnsBlocker (rows_before lock.row.lkid (rows_of_locks own.converting) ++ rows_before lock.row.lkid (rows_of_locks own.waiting)) pid
              → OwnsBlocker (rows_before lock.row.lkid (rows_of_locks own.converting)) pid
              ⊎ OwnsBlocker (rows_before lock.row.lkid (rows_of_locks own.waiting)) pid
          of_parts found =
              elim (in_either found.0 (rows_before lock.row.lkid (rows_of_locks own.converting))
              (rows_before lock.row.lkid (rows_of_locks own.waiting)) found.1.0) [
                | inl first ↦ inl (found.0, (first, found.1.1, found.1.2))
                | inr second ↦ inr (found.0, (second, found.1.1, found.1.2))
              ]

      in_whole : (queue : Queue) → queue ≢ Granted → IsIn lock (queued queue own) → IsIn lock.row (queue_of (plain_resource own))
      in_whole Granted not among = absurd (not refl)
      in_whole Conversion not among = in_ahead lock.row (rows_of_locks own.converting) (rows_of_locks own.waiting) (row_in lock own.converting among)
      in_whole Waiting not among = in_behind lock.row (rows_of_locks own.converting) (rows_of_locks own.waiting) (row_in lock own.waiting among)

      module _ (queue : Queue) (among : IsIn lock (queued queue own)) where
        -- where its request waits: here, and it is not granted
        pub record WaitsHere (pid : ℕ) : Type 0 where
          pub other : LockState
          pub waits : WaitsOn (plain_resource own) lock.row other
          pub owner : other.pid ≡ pid
          pub not_granted : queue ≢ Granted

        pub waits_here : (pid : ℕ) → OwnsWaitedFor s lock.row pid → WaitsHere pid
        waits_here pid waited =
            let w = waiting_on s lock.row waited.0 waited.1.0 in
            let one : Queued own.at queue ≡ Queued w.resource.at w.stands.queue =
            one_queue queue w.stands.queue lock w.stands.lock w.resource w.there among w.stands.among (ap (λ (y : LockState). y.lkid) w.stands.its) in
            let same_at : own.at ≡ w.resource.at = cc in
            let same_queue : queue ≡ w.stands.queue = cc in
            let same : own ≡ w.resource =
            same_Some own w.resource
            (sym (resource_is own s.resources sound.resources_apart there) ∙ ap (λ h. resource_at h s.resources) same_at
            ∙ resource_is w.resource s.resources sound.resources_apart w.there) in
            record {
              other = waited.0;
              waits = subst (λ (r : StoredResource). WaitsOn (plain_resource r) lock.row waited.0) (sym same) w.waits;
              owner = waited.1.1;
              not_granted = λ granted. w.stands.not_granted (sym same_queue ∙ granted);
            }

        module _ (request : Request) (wanted : lock.row.want ≡ Some request) where
          -- whoever is waited for owns a keeper
          pub waited_keeps : (pid : ℕ) → OwnsWaitedFor s lock.row pid
              → OwnsKeeper lock.row.lkid request.mode queue (rows_of_locks own.granted) (rows_of_locks own.converting) (rows_of_locks own.waiting) pid
          waited_keeps pid waited =
              let w = waits_here pid waited in
              let same : request ≡ w.waits.request = same_Some request w.waits.request (sym wanted ∙ w.waits.wanted) in
              by_kept w (subst (λ (q : Request). KeepsWaiting (plain_resource own) q lock.row w.other) (sym same) w.waits.kept)
            where
              by_kept : (w : WaitsHere pid) → KeepsWaiting (plain_resource own) request lock.row w.other
                  → OwnsKeeper lock.row.lkid request.mode queue (rows_of_locks own.granted) (rows_of_locks own.converting) (rows_of_locks own.waiting) pid
              by_kept w kept = elim kept [
                | inl held ↦ elim (in_either w.other (rows_of_locks own.granted) (rows_of_locks own.converting)
                    (among_is w.other (rows_of_locks own.granted ++ rows_of_locks own.converting) held.0)) [
                      | inl first ↦ inl (w.other, (first, (w.waits.another, held.1), w.owner))
                      | inr second ↦ inr (inl (w.other, (second, (w.waits.another, held.1), w.owner)))
                    ]
                | inr before ↦
                    inr (inr (whole_before queue w.not_granted among pid (
                      w.other,
                      (
                        subst (λ rows. IsIn w.other rows)
                            (sym (before_is before.0.before lock.row before.0.behind
                            (subst RowsApart before.0.queued queue_apart))
                            ∙ sym (ap (rows_before lock.row.lkid) before.0.queued))
                            (among_is w.other before.0.before before.0.first_among),
                        before.1,
                        w.owner,
                      ),
                    )))
              ]

          -- and whoever owns one is waited for
          pub keeper_waited : queue ≢ Granted → has_flag (flag_bits request.flags) nodlckwt ≡ false → (pid : ℕ)
              → OwnsKeeper lock.row.lkid request.mode queue (rows_of_locks own.granted) (rows_of_locks own.converting) (rows_of_locks own.waiting) pid
              → OwnsWaitedFor s lock.row pid
          keeper_waited not counted pid keeper = elim keeper [
            | inl granted ↦
                waited granted.0 granted.1.1.0
                (inl (
                  is_among granted.0 (rows_of_locks own.granted ++ rows_of_locks own.converting)
                      (in_ahead granted.0 (rows_of_locks own.granted) (rows_of_locks own.converting) granted.1.0),
                  granted.1.1.1,
                ))
                granted.1.2
            | inr more ↦ elim more [
              | inl converting ↦
                  waited converting.0 converting.1.1.0
                  (inl (
                    is_among converting.0 (rows_of_locks own.granted ++ rows_of_locks own.converting)
                        (in_behind converting.0 (rows_of_locks own.granted)
                        (rows_of_locks own.converting) converting.1.0),
                    converting.1.1.1,
                  ))
                  converting.1.2
              | inr before ↦ of_blocker (before_whole queue not among pid before)
            ]
          ]
            where
              waited : (other : LockState) → other.lkid ≢ lock.row.lkid
                  → KeepsWaiting (plain_resource own) request lock.row other → other.pid ≡ pid
                  → OwnsWaitedFor s lock.row pid
              waited other differs kept owner = (
                other,
                (
                  any_resource (λ r. WaitsOn r lock.row other) own s.resources there
                      (record {
                        queued = is_among lock.row (queue_of (plain_resource own)) (in_whole queue not among);
                        request = request;
                        wanted = wanted;
                        counted = counted;
                        another = differs;
                        kept = kept;
                      }),
                  owner,
                ),
              )

              of_blocker : OwnsBlocker (rows_before lock.row.lkid (queue_of (plain_resource own))) pid → OwnsWaitedFor s lock.row pid
              of_blocker found =
                  let whole = queue_of (plain_resource own) in
                  let split = split_before whole lock.row queue_apart (in_whole queue not among) in
                  waited found.0 (before_differs lock.row.lkid whole found.0 found.1.0)
                  (inr (
                    record {
                      before = rows_before lock.row.lkid whole;
                      behind = split.0;
                      queued = split.1;
                      first_among = is_among found.0 (rows_before lock.row.lkid whole) found.1.0;
                    },
                    found.1.1,
                  ))
                  found.1.2

          -- a request with NODLCKWT waits for nobody
          pub none_waited : has_flag (flag_bits request.flags) nodlckwt ≡ true → (pid : ℕ) → OwnsWaitedFor s lock.row pid → ⊥
          none_waited uncounted pid waited =
              let w = waits_here pid waited in
              let same : request ≡ w.waits.request = same_Some request w.waits.request (sym wanted ∙ w.waits.wanted) in
              let never : true ≡ false = sym uncounted ∙ ap (λ (q : Request). has_flag (flag_bits q.flags) nodlckwt) same ∙ w.waits.counted in
              cc

        -- nor does what is not wanted
        pub none_wanted : lock.row.want ≡ None → (pid : ℕ) → OwnsWaitedFor s lock.row pid → ⊥
        none_wanted none pid waited =
            let w = waits_here pid waited in
            let never : None ≡ Some w.waits.request = sym none ∙ w.waits.wanted in
            cc
