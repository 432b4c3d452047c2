-- What a search looks at leads to all that is waited for.
use Rattle.std.proofs.Common.{◌≡◌, ◌≢◌, ◌⊎◌, ℕ, ◌<◌, suc, Bool, true, false, zero, List, [], ◌∷◌, ◌++◌, length, Option}
use Rattle.std.proofs.Common.{None, Some, refl, sym, ap, ◌∙◌, subst, inl, inr, arith, append_assoc}
use Rattle.std.specs.Prelude.{◌==◌, not}
use Rattle.std.specs.List.{list_any}
use Rattle.std.specs.Option.{option_map_or}
use Rattle.std.proofs.lemmas.Bool.{and_parts, cases_eq}
use Rattle.std.specs.Cmp.{unsigned_Decides}
use Rattle.vlm_words.specs.declared.locks.LockState.{LockState}
use Rattle.vlm_words.specs.declared.locks.Request.{Request}
use Rattle.vlm_words.specs.declared.modes.Mode.{Mode}
use Rattle.vlm_words.specs.declared.modes.Mode.TheVariants.{Nl, Cr, Cw, Pr, Pw, Ex}
use Rattle.vlm_words.specs.Modes.{rank as mode_rank}
use Rattle.vlm_words.specs.declared.resources.Queue.{Queue}
use Rattle.vlm_words.specs.declared.resources.Queue.TheVariants.{Granted, Conversion, Waiting}
use Rattle.vlm_words.specs.Flags.{flag_bits, has_flag, nodlckblk, nodlckwt}
use Rattle.vlm_model.specs.Deadlocks.{BlocksThoseBehind, HoldsAgainst}
use Rattle.vlm_collections.specs.Lists.{IsIn}
use Rattle.vlm_store.specs.Records.{IsSound, OwnLock, Records, StoredLock, StoredProcess, StoredResource, Stores, queued, resource_at, rows_of_locks}
use Rattle.vlm_store.proofs.Records.{resource_is}
use Rattle.vlm_queue.specs.Walks.{rows_queued}
use Rattle.vlm_locks.specs.declared.located_locks.LocatedLock.{LocatedLock}
use Rattle.vlm_locks.specs.Standing.{IsLocated}
use Rattle.vlm_locks.proofs.QueuedLocks.{one_lock, queued_stored, resource_among}
use Rattle.vlm_cycle.specs.Covering.{OwnsConversion, OwnsNear, OwnsNearAmong, covers, covers_for, request_covers}
use Rattle.vlm_cycle.specs.Waiting.{IsBehind, OwnsBefore, OwnsBlocker, OwnsHolder, OwnsKeeper, OwnsWaitedFor, rows_before}
use Rattle.vlm_cycle.proofs.Blocking.{before_in}
use Rattle.vlm_cycle.proofs.Keeping.{WaitsHere, apart_of, keeper_waited, not_converting, waited_keeps, waiting_on, waits_here}
use Rattle.vlm_cycle.proofs.Listed.{RowsApart, before_is, lock_of, row_in, split_before}
use Rattle.vlm_cycle.proofs.NearestCover.{IsPartedBy, before_all, before_shorter, last_covering, near_in, nearest_all, none_for, one_of}
use Rattle.vlm_cycle.proofs.MarksOneByOne.{of_mark}
use Rattle.vlm_collections.proofs.HandleLists.{in_behind, in_either}

-- ---- modes and requests

abbrev mode_of : ℕ → Mode
mode_of zero = Nl
mode_of (suc zero) = Cr
mode_of (suc (suc zero)) = Cw
mode_of (suc (suc (suc zero))) = Pr
mode_of (suc (suc (suc (suc zero)))) = Pw
mode_of (suc (suc (suc (suc (suc n))))) = Ex

of_rank : (m : Mode) → mode_of (mode_rank m) ≡ m
of_rank Nl = refl
of_rank Cr = refl
of_rank Cw = refl
of_rank Pr = refl
of_rank Pw = refl
of_rank Ex = refl

same_mode : (a b : Mode) → mode_rank a ≡ mode_rank b → a ≡ b
same_mode a b same = sym (of_rank a) ∙ ap mode_of same ∙ of_rank b

-- what a row that covers wants
pub record IsCovering (row : LockState) : Type 0 where
  pub request : Request
  pub wanted : row.want ≡ Some request
  pub counted : has_flag (flag_bits request.flags) nodlckwt ≡ false
  pub blocks : has_flag (flag_bits request.flags) nodlckblk ≡ false

pub covering : (row : LockState) → covers row ≡ true → IsCovering row
covering row is = of_want row.want refl is
  where
    of_not : (b : Bool) → not b ≡ true → b ≡ false
    of_not true is = cc
    of_not false is = refl

    of_want : (want : Option Request) → row.want ≡ want → option_map_or request_covers want false ≡ true → IsCovering row
    of_want None here is = cc
    of_want (Some request) here is =
        let parts = and_parts (not (has_flag (flag_bits request.flags) nodlckwt)) (not (has_flag (flag_bits request.flags) nodlckblk)) is in
        record {
          request = request;
          wanted = here;
          counted = of_not (has_flag (flag_bits request.flags) nodlckwt) parts.0;
          blocks = of_not (has_flag (flag_bits request.flags) nodlckblk) parts.1;
        }

blocks_behind : (row : LockState) → IsCovering row → BlocksThoseBehind row.want
blocks_behind row c = rw c.wanted c.blocks

-- the mode that a row wants
wants_mode : (mode : Mode) (row : LockState) (c : IsCovering row)
    → option_map_or (λ (want : Request). mode_rank want.mode == mode_rank mode) row.want false ≡ true
    → c.request.mode ≡ mode
wants_mode mode row c is =
    same_mode c.request.mode mode ((unsigned_Decides (mode_rank c.request.mode) (mode_rank mode)).0 (rw c.wanted at is))

-- ---- one queue of one resource

module _ (s : Records) (sound : IsSound s) (own : StoredResource) (there : IsIn own s.resources) (queue : Queue) where
  rows : List LockState
  rows = rows_of_locks (queued queue own)

  abbrev OwnsOne : ℕ → Mode → ℕ → Type 0
  OwnsOne lkid mode pid =
      (OwnsBlocker (rows_before lkid (rows_of_locks (queued queue own))) pid ⊎ OwnsConversion queue (rows_of_locks own.converting) pid)
      ⊎ (OwnsHolder lkid mode (rows_of_locks own.granted) pid ⊎ OwnsHolder lkid mode (rows_of_locks own.converting) pid)

  abbrev Near : ℕ → Mode → ℕ → Type 0
  Near lkid mode pid = OwnsNearAmong lkid mode queue (rows_of_locks (queued queue own)) (rows_of_locks own.granted) (rows_of_locks own.converting) pid

  -- locks of one ID are of one process
  one_owner : (p q : Queue) (a b : LockState) → IsIn a (rows_of_locks (queued p own)) → IsIn b (rows_of_locks (queued q own)) → a.lkid ≡ b.lkid → a ≡ b
  one_owner p q a b in_a in_b same =
      let x = lock_of a (queued p own) in_a in
      let y = lock_of b (queued q own) in_b in
      let stored_x = queued_stored s sound own there p x.0 x.1.0 in
      let stored_y = queued_stored s sound own there q y.0 y.1.0 in
      let handle : x.0.at ≡ y.0.at =
      sound.lkids_apart x.0.at y.0.at x.0.row y.0.row (inl stored_x) (inl stored_y)
      (ap (λ (r : LockState). r.lkid) x.1.1 ∙ same ∙ sym (ap (λ (r : LockState). r.lkid) y.1.1)) in
      sym x.1.1 ∙ one_lock s sound y.0.at x.0.row y.0.row (subst (λ h. Stores s h x.0.row) handle stored_x) stored_y ∙ y.1.1

  module _ (Seen : ℕ → Type 0)
      (follows : (k : StoredLock) → IsIn k (queued queue own) → (request : Request) → k.row.want ≡ Some request
      → has_flag (flag_bits request.flags) nodlckwt ≡ false
      → Seen k.row.pid → (pid : ℕ) → Near k.row.lkid request.mode pid → Seen pid) where
    -- where all near ones are seen, and the same is known of shorter rows, all are
    seen_by : (k : StoredLock) → IsIn k (queued queue own) → (mode : Mode)
        → ((x : StoredLock) → IsIn x (queued queue own) → (m : Mode)
        → length (rows_before x.row.lkid (rows_of_locks (queued queue own))) < length (rows_before k.row.lkid (rows_of_locks (queued queue own)))
        → ((pid : ℕ) → Near x.row.lkid m pid → Seen pid) → (pid : ℕ) → OwnsOne x.row.lkid m pid → Seen pid)
        → ((pid : ℕ) → Near k.row.lkid mode pid → Seen pid) → (pid : ℕ) → OwnsOne k.row.lkid mode pid → Seen pid
    seen_by k among mode shorter_ones near pid one = elim (of_mark (list_any covers before)) [
      | inl some ↦ parted (last_covering before some)
      | inr none ↦ elim one [
        | inl ahead ↦ elim ahead [
          | inl blocker ↦ near pid (inl (inl (subst (λ xs. OwnsBlocker xs pid) (sym (nearest_all before none)) blocker)))
          | inr conversion ↦ near pid (inl (inr (none, conversion)))
        ]
        | inr holder ↦ near pid (inr (none_for mode before none, holder))
      ]
    ]
      where
        before : List LockState
        before = rows_before k.row.lkid (rows_of_locks (queued queue own))

        -- an earlier one that covers
        earlier : (row : LockState) → IsIn row before → (c : IsCovering row) → Seen row.pid → (other : ℕ) → OwnsOne row.lkid c.request.mode other → Seen other
        earlier row in_before_k c seen other its =
            let x = lock_of row (queued queue own) (before_in k.row.lkid (rows_of_locks (queued queue own)) row in_before_k) in
            let shorter = before_shorter k.row.lkid (rows_of_locks (queued queue own)) row in_before_k in
            shorter_ones x.0 x.1.0 c.request.mode
            (subst (λ (r : LockState). length (rows_before r.lkid (rows_of_locks (queued queue own))) < length before) (sym x.1.1) shorter)
            (follows x.0 x.1.0 c.request (ap (λ (r : LockState). r.want) x.1.1 ∙ c.wanted) c.counted (subst (λ (r : LockState). Seen r.pid) (sym x.1.1) seen))
            other (subst (λ (r : LockState). OwnsOne r.lkid c.request.mode other) (sym x.1.1) its)

        parted : IsPartedBy before → Seen pid
        parted part = elim one [
          | inl ahead ↦ elim ahead [
            | inl blocker ↦ blocker_seen pid blocker
            | inr conversion ↦ earlier part.last last_before last_covers last_seen pid (inl (inr conversion))
          ]
          | inr holder ↦ elim (of_mark (list_any (covers_for mode) before)) [
            | inl some ↦ alike (one_of (covers_for mode) before some) holder
            | inr none ↦ near pid (inr (none, holder))
          ]
        ]
          where
            last_before : IsIn part.last before
            last_before = subst (IsIn part.last) (sym part.parted) (in_behind part.last part.before (part.last ∷ part.after) (inl refl))

            last_covers : IsCovering part.last
            last_covers = covering part.last part.covering

            last_seen : Seen part.last.pid
            last_seen =
                near part.last.pid (inl (inl (part.last, (subst (IsIn part.last) (sym part.near) (inl refl), blocks_behind part.last last_covers, refl))))

            -- those before the last one that covers
            before_last : rows_before part.last.lkid (rows_of_locks (queued queue own)) ≡ part.before
            before_last =
                let split = split_before (rows_of_locks (queued queue own)) k.row (apart_of s sound own there queue) (row_in k (queued queue own) among) in
                let whole : rows_of_locks (queued queue own) ≡ part.before ++ part.last ∷ (part.after ++ k.row ∷ split.0) =
                split.1 ∙ ap (λ xs. xs ++ k.row ∷ split.0) part.parted ∙ append_assoc part.before (part.last ∷ part.after) (k.row ∷ split.0) in
                ap (rows_before part.last.lkid) whole
                ∙ before_is part.before part.last (part.after ++ k.row ∷ split.0)
                (subst RowsApart whole (apart_of s sound own there queue))

            blocker_seen : (other : ℕ) → OwnsBlocker before other → Seen other
            blocker_seen other blocker = elim (in_either blocker.0 part.before (part.last ∷ part.after) (subst (IsIn blocker.0) part.parted blocker.1.0)) [
              | inl first ↦ earlier part.last last_before last_covers last_seen other
                  (inl (inl (blocker.0, (subst (IsIn blocker.0) (sym before_last) first, blocker.1.1, blocker.1.2))))
              | inr second ↦ near other (inl (inl (blocker.0, (subst (IsIn blocker.0) (sym part.near) second, blocker.1.1, blocker.1.2))))
            ]

            alike : (row : LockState) × (IsIn row before × (covers_for mode row ≡ true))
                → OwnsHolder k.row.lkid mode (rows_of_locks own.granted) pid ⊎ OwnsHolder k.row.lkid mode (rows_of_locks own.converting) pid → Seen pid
            alike found holder = elim holder [
              | inl granted ↦ by_holder Granted granted (λ its. inr (inl its))
              | inr converting ↦ by_holder Conversion converting (λ its. inr (inr its))
            ]
              where
                parts : (option_map_or (λ (want : Request). mode_rank want.mode == mode_rank mode) found.0.want false ≡ true) × (covers found.0 ≡ true)
                parts = and_parts _ (covers found.0) found.1.1

                its : IsCovering found.0
                its = covering found.0 parts.1

                seen : Seen found.0.pid
                seen = blocker_seen found.0.pid (found.0, (found.1.0, blocks_behind found.0 its, refl))

                by_holder : (p : Queue) → OwnsHolder k.row.lkid mode (rows_of_locks (queued p own)) pid
                    → (OwnsHolder found.0.lkid its.request.mode (rows_of_locks (queued p own)) pid → OwnsOne found.0.lkid its.request.mode pid) → Seen pid
                by_holder p holds into = elim (cases_eq holds.0.lkid found.0.lkid) [
                  | inl same ↦
                      (let row = one_owner p queue holds.0 found.0 holds.1.0 (before_in k.row.lkid (rows_of_locks (queued queue own)) found.0 found.1.0) same in
                      subst Seen (sym (ap (λ (r : LockState). r.pid) row) ∙ holds.1.2) seen)
                  | inr differs ↦
                      earlier found.0 found.1.0 its seen pid
                      (into (
                        holds.0,
                        (
                          holds.1.0,
                          (
                            differs,
                            subst (λ m. HoldsAgainst m holds.0.held)
                                (sym (wants_mode mode found.0 its parts.0)) holds.1.1.1,
                          ),
                          holds.1.2,
                        ),
                      ))
                ]

    -- where all near ones are seen, all are
    pub all_seen : (n : ℕ) (k : StoredLock) → IsIn k (queued queue own) → (mode : Mode) → length (rows_before k.row.lkid (rows_of_locks (queued queue own))) < n
        → ((pid : ℕ) → Near k.row.lkid mode pid → Seen pid) → (pid : ℕ) → OwnsOne k.row.lkid mode pid → Seen pid
    all_seen zero k among mode less = absurd (omega (arith, less))
    all_seen (suc n) k among mode less = seen_by k among mode (λ x in_x m shorter. all_seen n x in_x m (omega (arith, shorter, less)))

  module _ (k : StoredLock) (among : IsIn k (queued queue own)) (pid : ℕ) where
    -- what is waited for, by its parts
    of_keeper : (mode : Mode)
        → OwnsKeeper k.row.lkid mode queue (rows_of_locks own.granted) (rows_of_locks own.converting)
        (rows_of_locks own.waiting) pid → OwnsOne k.row.lkid mode pid
    of_keeper mode keeper = elim keeper [
      | inl granted ↦ inr (inl granted)
      | inr more ↦ elim more [
        | inl converting ↦ inr (inr converting)
        | inr before ↦ inl (of_before queue among before)
      ]
    ]
      where
        of_before : (q : Queue) → IsIn k (queued q own) → OwnsBefore k.row.lkid q (rows_of_locks own.converting) (rows_of_locks own.waiting) pid
            → OwnsBlocker (rows_before k.row.lkid (rows_of_locks (queued q own))) pid ⊎ OwnsConversion q (rows_of_locks own.converting) pid
        of_before Granted here some = absurd some
        of_before Conversion here some = inl some
        of_before Waiting here some = elim some [
          | inl first ↦
              inr (subst (λ xs. OwnsBlocker xs pid) (before_all k.row.lkid (rows_of_locks own.converting) (not_converting s sound own there k here)) first)
          | inr second ↦ inl second
        ]

    -- what is near is waited for
    pub near_keeper : (mode : Mode) → queue ≢ Granted → Near k.row.lkid mode pid
        → OwnsKeeper k.row.lkid mode queue (rows_of_locks own.granted) (rows_of_locks own.converting) (rows_of_locks own.waiting) pid
    near_keeper mode not near = elim near [
      | inl ahead ↦ inr (inr (elim ahead [
        | inl blocker ↦ of_blocker queue not (
          blocker.0,
          (
            near_in (rows_before k.row.lkid (rows_of_locks (queued queue own))) blocker.0 blocker.1.0,
            blocker.1.1,
            blocker.1.2,
          ),
        )
        | inr conversion ↦ of_conversion queue among conversion.1
      ]))
      | inr holder ↦ elim holder.1 [ inl granted ↦ inl granted | inr converting ↦ inr (inl converting) ]
    ]
      where
        of_blocker : (q : Queue) → q ≢ Granted → OwnsBlocker (rows_before k.row.lkid (rows_of_locks (queued q own))) pid
            → OwnsBefore k.row.lkid q (rows_of_locks own.converting) (rows_of_locks own.waiting) pid
        of_blocker Granted not some = absurd (not refl)
        of_blocker Conversion not some = some
        of_blocker Waiting not some = inr some

        of_conversion : (q : Queue) → IsIn k (queued q own) → OwnsConversion q (rows_of_locks own.converting) pid
            → OwnsBefore k.row.lkid q (rows_of_locks own.converting) (rows_of_locks own.waiting) pid
        of_conversion Granted here some = absurd some
        of_conversion Conversion here some = absurd some
        of_conversion Waiting here some =
            inl (subst (λ xs. OwnsBlocker xs pid) (sym (before_all k.row.lkid (rows_of_locks own.converting) (not_converting s sound own there k here))) some)

-- ---- the located lock

-- what is near, by the handle of the resource
to_handle : (s : Records) (res : ℕ) (r : StoredResource) → resource_at res s.resources ≡ Some r → (queue : Queue) (lkid : ℕ) (mode : Mode) (pid : ℕ)
    → OwnsNearAmong lkid mode queue (rows_of_locks (queued queue r)) (rows_of_locks r.granted) (rows_of_locks r.converting) pid
    → OwnsNearAmong lkid mode queue (rows_queued res queue s) (rows_queued res Granted s) (rows_queued res Conversion s) pid
to_handle s res r found queue lkid mode pid near =
    subst
    (λ o. OwnsNearAmong lkid mode queue (rows_of_locks (option_map_or (queued queue) o []))
    (rows_of_locks (option_map_or (queued Granted) o []))
    (rows_of_locks (option_map_or (queued Conversion) o [])) pid)
    (sym found) near

module _ (s : Records) (f : LocatedLock) (located : IsLocated f s) where
  own_there : IsIn located.resource s.resources
  own_there = resource_among f.res s.resources located.resource located.found

  abbrev lock : StoredLock
  lock = record { at = f.lock; row = f.row }

  -- what is near, by the resource
  of_resource : (mode : Mode) (pid : ℕ)
      → OwnsNearAmong f.row.lkid mode f.queue (rows_queued f.res f.queue s) (rows_queued f.res Granted s)
      (rows_queued f.res Conversion s) pid
      → Near s located.sound located.resource own_there f.queue f.row.lkid mode pid
  of_resource mode pid near =
      subst
      (λ o. OwnsNearAmong f.row.lkid mode f.queue (rows_of_locks (option_map_or (queued f.queue) o []))
      (rows_of_locks (option_map_or (queued Granted) o []))
      (rows_of_locks (option_map_or (queued Conversion) o [])) pid)
      located.found near

  -- what a search looks at is waited for
  pub near_waited : (pid : ℕ) → OwnsNear s f pid → OwnsWaitedFor s f.row pid
  near_waited pid near =
      keeper_waited s located.sound located.resource own_there lock f.queue located.among near.request
      near.awaits.wanted near.awaits.queued near.awaits.counted pid
      (near_keeper s located.sound located.resource own_there f.queue lock located.among pid near.request.mode
      near.awaits.queued (of_resource near.request.mode pid near.near))

-- a lock of a queue, located
module _ (s : Records) (sound : IsSound s) (r : StoredResource) (there : IsIn r s.resources) (queue : Queue)
    (k : StoredLock) (among : IsIn k (queued queue r)) where
  abbrev owner_of : (p : StoredProcess) × (own : OwnLock) × (IsIn p s.processes × (p.process.pid ≡ k.row.pid) × IsIn own p.own × (own.at ≡ k.at))
  owner_of = sound.owned.owned k.at k.row (inl (queued_stored s sound r there queue k among))

  abbrev pub located_of : LocatedLock
  located_of = record { lock = k.at; owner = owner_of.0.at; row = k.row; res = r.at; queue = queue }

  abbrev pub is_located : IsLocated located_of s
  is_located = record {
    resource = r;
    found = resource_is r s.resources sound.resources_apart there;
    among = among;
    owner = (owner_of.0, (owner_of.2.0, refl, owner_of.2.1));
    sound = sound;
  }

-- where all is seen that a search looks at for what is seen, all is seen that is waited for
module _ (s : Records) (sound : IsSound s) (Seen : ℕ → Type 0)
    (follows : (f : LocatedLock) → IsLocated f s → Seen f.row.pid → (pid : ℕ) → OwnsNear s f pid → Seen pid) where
  pub waited_seen : (f : LocatedLock) → IsLocated f s → ((pid : ℕ) → OwnsNear s f pid → Seen pid) → (pid : ℕ) → OwnsWaitedFor s f.row pid → Seen pid
  waited_seen f located near pid waited =
      all_seen s located.sound located.resource (own_there s f located) f.queue Seen its_follow
      (suc (length (rows_before f.row.lkid (rows_of_locks (queued f.queue located.resource)))))
      (lock s f located) located.among w.waits.request.mode (omega arith) its_near pid
      (of_keeper s located.sound located.resource (own_there s f located) f.queue (lock s f located) located.among pid w.waits.request.mode
      (waited_keeps s located.sound located.resource (own_there s f located)
      (lock s f located) f.queue located.among w.waits.request w.waits.wanted pid waited))
    where
      w : WaitsHere s located.sound located.resource (own_there s f located) (lock s f located) f.queue located.among pid
      w = waits_here s located.sound located.resource (own_there s f located) (lock s f located) f.queue located.among pid waited

      its_near : (other : ℕ) → Near s located.sound located.resource (own_there s f located) f.queue f.row.lkid w.waits.request.mode other → Seen other
      its_near other is =
          near other (record {
            request = w.waits.request;
            awaits = record { queued = w.not_granted; wanted = w.waits.wanted; counted = w.waits.counted };
            near = to_handle s f.res located.resource located.found f.queue f.row.lkid w.waits.request.mode other is;
          })

      its_follow : (x : StoredLock) → IsIn x (queued f.queue located.resource) → (request : Request)
          → x.row.want ≡ Some request → has_flag (flag_bits request.flags) nodlckwt ≡ false
          → Seen x.row.pid → (other : ℕ) → Near s located.sound located.resource (own_there s f located) f.queue x.row.lkid request.mode other → Seen other
      its_follow x among request wanted counted seen other is =
          let from = located_of s located.sound located.resource (own_there s f located) f.queue x among in
          let here = is_located s located.sound located.resource (own_there s f located) f.queue x among in
          follows from here seen other (record {
            request = request;
            awaits = record { queued = w.not_granted; wanted = wanted; counted = counted };
            near = to_handle s from.res located.resource here.found f.queue x.row.lkid request.mode other is;
          })

  -- and all that its processes wait for
  pub behind_seen : (pid other : ℕ) → Seen pid → IsBehind s pid other → Seen other
  behind_seen pid other seen behind =
      let w = waiting_on s behind.row behind.lock behind.waits in
      let from = located_of s sound w.resource w.there w.stands.queue w.stands.lock w.stands.among in
      let here = is_located s sound w.resource w.there w.stands.queue w.stands.lock w.stands.among in
      waited_seen from here (follows from here (subst Seen (sym (ap (λ (r : LockState). r.pid) w.stands.its ∙ behind.owner)) seen)) other
      (subst (λ row. OwnsWaitedFor s row other) (sym w.stands.its) (behind.lock, (behind.waits, behind.holder)))
