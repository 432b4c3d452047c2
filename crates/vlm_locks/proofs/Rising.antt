-- The own locks of a process, and the locks below a lock, stand by rising ID as locks come, change and go.
use Rattle.std.proofs.Common.{◌≡◌, ◌⊎◌, ℕ, Bool, true, false, List, [], ◌∷◌, ◌++◌, map, filter, not, cond, Option, None}
use Rattle.std.proofs.Common.{Some, refl, sym, ap, ◌∙◌, subst, inl, inr, arith, eq-eqb, ne_eqb}
use Rattle.std.specs.Prelude.{◌==◌}
use Rattle.std.proofs.lemmas.Bool.{cases_eq}
use Rattle.std.proofs.lemmas.List.{append-nil, map-append}
use Rattle.std.specs.Option.{option_map_or}
use Rattle.vlm_words.specs.declared.locks.LockState.{LockState}
use Rattle.vlm_collections.specs.Lists.{IsIn, without}
use Rattle.vlm_collections.proofs.HandleLists.{IsIn-push, IsIn-without}
use Rattle.vlm_records.specs.declared.handles.Place.{Place}
use Rattle.vlm_records.specs.declared.handles.Place.TheVariants.{Queued}
use Rattle.vlm_store.proofs.Counted.{own_handle}
use Rattle.vlm_store.specs.Records.{IsNewLock, IsRowOf, IsSound, IsStored, OwnLock, Records, StoredProcess}
use Rattle.vlm_store.specs.Records.{StoredResource, Stores, but_notices, locks_at, new_own, process_with_lock}
use Rattle.vlm_store.specs.Records.{process_without_lock, queued, resource_at, with_sublock, without_sublock}
use Rattle.vlm_store.specs.Records.{NoneIsLoose}
use Rattle.vlm_locks.specs.Staying.{LocksStayAmong}
use Rattle.vlm_locks.specs.Rising.{IsOlder, HasRisingLocks, IsAboveEachLock, StandById, handles_of_own}
use Rattle.vlm_locks.proofs.GrantsKeepResources.{same_back, same_lock}
use Rattle.vlm_locks.proofs.QueuedLocks.{queued_stored, resource_among}
use Rattle.vlm_store.proofs.Records.{in_a_queue}

-- each process has rising locks
abbrev pub AllRise : Records → List StoredProcess → Type 0
AllRise s ps = (p : StoredProcess) → IsIn p ps → HasRisingLocks s p

-- each lock that is stored was stored under its handle, as the same lock
abbrev pub WereStored : Records → Records → Type 0
WereStored old new = (at : ℕ) (row : LockState) → Stores new at row → IsRowOf at row old

-- ---- handles

-- handles of which each two keep their order stand by it still
stand_still : (s t : Records) (handles : List ℕ) → ((a b : ℕ) → IsIn a handles → IsIn b handles → IsOlder s a b → IsOlder t a b)
    → StandById s handles → StandById t handles
stand_still s t [] kept stand = tt
stand_still s t (at ∷ rest) kept stand = (
  λ later there. kept at later (inl refl) (inr there) (stand.0 later there),
  stand_still s t rest (λ a b in_a in_b. kept a b (inr in_a) (inr in_b)) stand.1,
)

-- so do those that are left of them
stand_without : (s : Records) (lock : ℕ) (handles : List ℕ) → StandById s handles → StandById s (without lock handles)
stand_without s lock [] stand = tt
stand_without s lock (at ∷ rest) stand =
    elim (cases_eq at lock) [
      | inl same ↦ rw (eq-eqb at lock same) (stand_without s lock rest stand.1)
      | inr differs ↦ rw (ne_eqb at lock differs) (λ later there. stand.0 later (IsIn-without lock later rest there).0, stand_without s lock rest stand.1)
    ]

-- and with a last one that each of them comes before
stand_with : (s : Records) (handles : List ℕ) (last : ℕ) → ((at : ℕ) → IsIn at handles → IsOlder s at last) → StandById s handles
    → StandById s (handles ++ last ∷ [])
stand_with s [] last before stand = (λ later there. absurd there, tt)
stand_with s (at ∷ rest) last before stand = (
  λ later there. elim (IsIn-push last later rest there) [
    | inl was ↦ stand.0 later was
    | inr is ↦ subst (IsOlder s at) is (before at (inl refl))
  ],
  stand_with s rest last (λ other there. before other (inr there)) stand.1,
)

-- ---- locks that change

before_still : (old new : Records) → WereStored old new → (first second : ℕ) → IsOlder old first second → IsOlder new first second
before_still old new were first second before a b in_a in_b =
    let was_a = were first a in_a in
    let was_b = were second b in_b in
    omega (arith, before was_a.0 was_b.0 was_a.1.0 was_b.1.0, was_a.1.1.lkid, was_b.1.1.lkid)

-- where the locks are the same each was stored
pub were_stored : (old new : Records) → new.resources ≡ old.resources → WereStored old new
were_stored old new resources at row stored = (row, ((stored.0, by_place stored.0 stored.1), same_lock row))
  where
    by_place : (place : Place) → IsIn (record { at = at; row = row }) (locks_at place new) → IsIn (record { at = at; row = row }) (locks_at place old)
    by_place (Queued res queue) among =
        subst (λ rs. IsIn (record { at = at; row = row })
        (option_map_or (queued queue) (resource_at res rs) [])) resources among

-- and where none joins the resources
pub none_joined : (old new : Records) → IsSound old → LocksStayAmong new.resources old.resources → WereStored old new
none_joined old new sound none_join at row stored = by_place stored.0 stored.1
  where
    by_place : (place : Place) → IsIn (record { at = at; row = row }) (locks_at place new) → IsRowOf at row old
    by_place (Queued res queue) among = of_found (resource_at res new.resources) refl among
      where
        of_found : (found : Option StoredResource) → resource_at res new.resources ≡ found
            → IsIn (record { at = at; row = row }) (option_map_or (queued queue) found []) → IsRowOf at row old
        of_found None is here = absurd here
        of_found (Some r) is here =
            let stays = none_join r queue (record { at = at; row = row }) (resource_among res new.resources r is) here in
            let still = stays.1.2 in (
              still.row,
              (
                queued_stored old sound stays.0 stays.1.0 still.queue (record { at = at; row = still.row }) still.among,
                same_back row still.row still.same,
              ),
            )

-- a process has the locks of one that was there
pub same_own : (old new : List StoredProcess) → map but_notices new ≡ map but_notices old → (p : StoredProcess)
    → IsIn p new → (q : StoredProcess) × (IsIn q old × (q.own ≡ p.own))
same_own [] [] same p among = absurd among
same_own [] (x ∷ new) same p among = cc
same_own (y ∷ old) [] same p among = absurd among
same_own (y ∷ old) (x ∷ new) same p among =
    elim among [
      | inl here ↦ (y, (inl refl, sym (ap first_own same) ∙ ap (λ (z : StoredProcess). z.own) here))
      | inr there ↦ let later = same_own old new (ap rest_of same) p there in (later.0, (inr later.1.0, later.1.1))
    ]
  where
    first_own : List StoredProcess → List OwnLock
    first_own [] = []
    first_own (z ∷ zs) = z.own

    rest_of : List StoredProcess → List StoredProcess
    rest_of [] = []
    rest_of (z ∷ zs) = zs

-- a process has rising locks where its locks were those of one that had
pub rises_still : (old new : Records) (q p : StoredProcess) → WereStored old new → q.own ≡ p.own → HasRisingLocks old q → HasRisingLocks new p
rises_still old new q p were same rises = record {
  queued = λ own among. rises.queued own (subst (IsIn own) (sym same) among);
  own = subst (λ owns. StandById new (handles_of_own owns)) same
      (stand_still old new (handles_of_own q.own) (λ a b in_a in_b. before_still old new were a b) rises.own);
  sublocks = λ own among. stand_still old new (own.at ∷ own.sublocks) (λ a b in_a in_b. before_still old new were a b)
      (rises.sublocks own (subst (IsIn own) (sym same) among));
}

-- so all have where none gets another lock
pub all_rise_still : (old new : Records) → WereStored old new
    → map but_notices new.processes ≡ map but_notices old.processes → AllRise old old.processes
    → AllRise new new.processes
all_rise_still old new were same rising p among =
    let was = same_own old.processes new.processes same p among in
    rises_still old new was.0 p were was.1.1 (rising was.0 was.1.0)

-- a process of those that are changed was there
pub was_process : (change : StoredProcess → StoredProcess) (ps : List StoredProcess) (p : StoredProcess) → IsIn p (map change ps)
    → (q : StoredProcess) × (IsIn q ps × (change q ≡ p))
was_process change [] p among = absurd among
was_process change (x ∷ ps) p among =
    elim among [
      | inl here ↦ (x, (inl refl, here))
      | inr there ↦ let later = was_process change ps p there in (later.0, (inr later.1.0, later.1.1))
    ]

-- ---- a lock that goes

-- a lock of a process without the one was there
was_own : (lock : ℕ) (owns : List OwnLock) (own : OwnLock) → IsIn own (map (without_sublock lock) (filter (λ (o : OwnLock). not (o.at == lock)) owns))
    → (o : OwnLock) × (IsIn o owns × (without_sublock lock o ≡ own))
was_own lock [] own among = absurd among
was_own lock (x ∷ owns) own among =
    elim (cases_eq x.at lock) [
      | inl same ↦ let later = was_own lock owns own (rw (eq-eqb x.at lock same) at among) in (later.0, (inr later.1.0, later.1.1))
      | inr differs ↦ elim (rw (ne_eqb x.at lock differs) at among) [
        | inl here ↦ (x, (inl refl, here))
        | inr there ↦ let later = was_own lock owns own there in (later.0, (inr later.1.0, later.1.1))
      ]
    ]

-- of the handles just its own goes
pub handles_without : (lock : ℕ) (owns : List OwnLock)
    → handles_of_own (map (without_sublock lock) (filter (λ (o : OwnLock). not (o.at == lock)) owns)) ≡ without lock
    (handles_of_own owns)
handles_without lock [] = refl
handles_without lock (x ∷ owns) =
    elim (cases_eq x.at lock) [
      | inl same ↦ rw (eq-eqb x.at lock same) (handles_without lock owns)
      | inr differs ↦ rw (ne_eqb x.at lock differs) (ap (λ handles. x.at ∷ handles) (handles_without lock owns))
    ]

rises_without : (s : Records) (lock : ℕ) (q : StoredProcess) → HasRisingLocks s q → HasRisingLocks s (process_without_lock lock q)
rises_without s lock q rises = record {
  queued = λ own among. let was = was_own lock q.own own among in ap (λ (o : OwnLock). o.loose) (sym was.1.1) ∙ rises.queued was.0 was.1.0;
  own = subst (StandById s) (sym (handles_without lock q.own)) (stand_without s lock (handles_of_own q.own) rises.own);
  sublocks = λ own among.
      let was = was_own lock q.own own among in
      let stand = rises.sublocks was.0 was.1.0 in
      subst (λ (o : OwnLock). StandById s (o.at ∷ o.sublocks)) was.1.1
      (λ later there. stand.0 later (IsIn-without lock later was.0.sublocks there).0, stand_without s lock was.0.sublocks stand.1);
}

-- the locks of each process stand so still as a lock goes
pub all_rise_without : (s : Records) (lock : ℕ) (ps : List StoredProcess) → AllRise s ps → AllRise s (map (process_without_lock lock) ps)
all_rise_without s lock ps rising p among =
    let was = was_process (process_without_lock lock) ps p among in
    subst (HasRisingLocks s) was.1.1 (rises_without s lock was.0 (rising was.0 was.1.0))

-- then each lock is in a queue
pub none_loose : (s : Records) → AllRise s s.processes → NoneIsLoose s
none_loose s rising p own among own_among = (rising p among).queued own own_among

-- ---- a lock that is made

-- an ID above all is new
pub new_above : (lkid : ℕ) (s : Records) → NoneIsLoose s → IsAboveEachLock lkid s → IsNewLock lkid s
new_above lkid s none above at row has same = absurd (omega (arith, above at row (in_a_queue s none at row has), same))

module _ (owner : ℕ) (parent : Option ℕ) (lock : ℕ) where
  -- a lock of a process with the one was there, or is the new one
  had_own : (mine : Bool) (owns : List OwnLock) (own : OwnLock) → IsIn own (map (with_sublock parent lock) owns ++ cond mine (new_own lock) [])
      → ((o : OwnLock) × (IsIn o owns × (with_sublock parent lock o ≡ own))) ⊎ (record { at = lock; sublocks = []; loose = None } ≡ own)
  had_own true [] own among = elim among [ inl is ↦ inr is | inr none ↦ absurd none ]
  had_own false [] own among = absurd among
  had_own mine (x ∷ owns) own among =
      elim among [
        | inl here ↦ inl (x, (inl refl, here))
        | inr there ↦ elim (had_own mine owns own there) [
          | inl was ↦ inl (was.0, (inr was.1.0, was.1.1))
          | inr is ↦ inr is
        ]
      ]

  -- a lock keeps its handle
  same_at : (up : Option ℕ) (o : OwnLock) → (with_sublock up lock o).at ≡ o.at
  same_at None o = refl
  same_at (Some handle) o = of_test (o.at == handle)
    where
      of_test : (b : Bool) → (cond b (record o { sublocks = o.sublocks ++ lock ∷ [] }) o).at ≡ o.at
      of_test true = refl
      of_test false = refl

  same_loose : (up : Option ℕ) (o : OwnLock) → (with_sublock up lock o).loose ≡ o.loose
  same_loose None o = refl
  same_loose (Some handle) o = of_test (o.at == handle)
    where
      of_test : (b : Bool) → (cond b (record o { sublocks = o.sublocks ++ lock ∷ [] }) o).loose ≡ o.loose
      of_test true = refl
      of_test false = refl

  handles_with : (owns : List OwnLock) → handles_of_own (map (with_sublock parent lock) owns) ≡ handles_of_own owns
  handles_with [] = refl
  handles_with (o ∷ owns) = ap (λ at. at ∷ handles_of_own (map (with_sublock parent lock) owns)) (same_at parent o)
      ∙ ap (λ handles. o.at ∷ handles) (handles_with owns)

  module _ (s new : Records) (sound : IsSound s) (none : NoneIsLoose s) (lkid : ℕ) (fresh : ¬ IsStored lock s) (above : IsAboveEachLock lkid s)
      (cases : (at : ℕ) (row : LockState) → Stores new at row → ((at ≡ lock) × (row.lkid ≡ lkid)) ⊎ Stores s at row) where
    -- another lock was stored
    was_stored : (at : ℕ) → IsStored at s → (row : LockState) → Stores new at row → Stores s at row
    was_stored at stored row now = elim (cases at row now) [ inl is ↦ absurd (fresh (subst (λ k. IsStored k s) is.0 stored)) | inr was ↦ was ]

    before_kept : (first second : ℕ) → IsStored first s → IsStored second s → IsOlder s first second → IsOlder new first second
    before_kept first second stored_first stored_second before a b in_a in_b =
        before a b (was_stored first stored_first a in_a) (was_stored second stored_second b in_b)

    -- each comes before the new one
    before_last : (at : ℕ) → IsStored at s → IsOlder new at lock
    before_last at stored a b in_a in_b =
        elim (cases lock b in_b) [
          | inl is ↦ omega (arith, above at a (was_stored at stored a in_a), is.1)
          | inr there ↦ absurd (fresh (b, there))
        ]

    -- handles of stored locks stand so still, and with the new one as their last
    stand_kept : (handles : List ℕ) → ((at : ℕ) → IsIn at handles → IsStored at s) → StandById s handles → StandById new handles
    stand_kept handles stored stand = stand_still s new handles (λ a b in_a in_b. before_kept a b (stored a in_a) (stored b in_b)) stand

    stand_joined : (handles : List ℕ) → ((at : ℕ) → IsIn at handles → IsStored at s) → StandById s handles → StandById new (handles ++ lock ∷ [])
    stand_joined handles stored stand = stand_with new handles lock (λ at there. before_last at (stored at there)) (stand_kept handles stored stand)

    rises_with : (q : StoredProcess) → IsIn q s.processes → HasRisingLocks s q → HasRisingLocks new (process_with_lock owner parent lock q)
    rises_with q among rises = record {
      queued = λ own there. elim (had_own (q.at == owner) q.own own there) [
        | inl was ↦ ap (λ (o : OwnLock). o.loose) (sym was.1.1) ∙ same_loose parent was.0 ∙ rises.queued was.0 was.1.0
        | inr is ↦ ap (λ (o : OwnLock). o.loose) (sym is)
      ];
      own = of_owner (q.at == owner);
      sublocks = λ own there. elim (had_own (q.at == owner) q.own own there) [
        | inl was ↦ subst (λ (o : OwnLock). StandById new (o.at ∷ o.sublocks)) was.1.1 (of_parent parent was.0 was.1.0)
        | inr is ↦ subst (λ (o : OwnLock). StandById new (o.at ∷ o.sublocks)) is (λ later none. absurd none, tt)
      ];
    }
      where
        own_stored : (at : ℕ) → IsIn at (handles_of_own q.own) → IsStored at s
        own_stored at there =
            let found = own_handle q.own at there in
            let owned = sound.owned.owns q found.0 among found.1.0 in
            subst (λ k. IsStored k s) found.1.1 (owned.0, in_a_queue s none found.0.at owned.0 owned.1.0)

        below_stored : (o : OwnLock) → IsIn o q.own → (at : ℕ) → IsIn at (o.at ∷ o.sublocks) → IsStored at s
        below_stored o own at there = elim there [
          | inl is ↦ (let owned = sound.owned.owns q o among own in subst (λ k. IsStored k s) is (owned.0, in_a_queue s none o.at owned.0 owned.1.0))
          | inr later ↦ (let below = sound.owned.below q o at among own later in (below.1, in_a_queue s none at below.1 below.2.1))
        ]

        of_owner : (mine : Bool) → StandById new (handles_of_own (map (with_sublock parent lock) q.own ++ cond mine (new_own lock) []))
        of_owner true =
            subst (StandById new)
            (sym (map-append (λ (o : OwnLock). o.at) (map (with_sublock parent lock) q.own) (new_own lock)
            ∙ ap (λ handles. handles ++ lock ∷ []) (handles_with q.own)))
            (stand_joined (handles_of_own q.own) own_stored rises.own)
        of_owner false =
            subst (StandById new)
            (sym (map-append (λ (o : OwnLock). o.at) (map (with_sublock parent lock) q.own) [] ∙ append-nil _ ∙ handles_with q.own))
            (stand_kept (handles_of_own q.own) own_stored rises.own)

        of_parent : (up : Option ℕ) (o : OwnLock) → IsIn o q.own
            → StandById new ((with_sublock up lock o).at ∷ (with_sublock up lock o).sublocks)
        of_parent None o own = stand_kept (o.at ∷ o.sublocks) (below_stored o own) (rises.sublocks o own)
        of_parent (Some handle) o own = of_test (o.at == handle)
          where
            with_lock : Bool → OwnLock
            with_lock b = cond b (record o { sublocks = o.sublocks ++ lock ∷ [] }) o

            of_test : (b : Bool) → StandById new ((with_lock b).at ∷ (with_lock b).sublocks)
            of_test true = stand_joined (o.at ∷ o.sublocks) (below_stored o own) (rises.sublocks o own)
            of_test false = stand_kept (o.at ∷ o.sublocks) (below_stored o own) (rises.sublocks o own)

    -- the locks of each process stand by rising ID with a new lock that is above all
    pub all_rise_with : AllRise s s.processes → AllRise new (map (process_with_lock owner parent lock) s.processes)
    all_rise_with rising p among =
        let had = was_process (process_with_lock owner parent lock) s.processes p among in
        subst (HasRisingLocks new) had.1.1 (rises_with had.0 had.1.0 (rising had.0 had.1.0))
