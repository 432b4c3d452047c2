-- The rundown of a process, lock by lock.
use Rattle.std.proofs.Common.{◌≡◌, ◌≤◌, ◌+◌, ◌==◌, ℕ, map, length, ◌<◌, ◌⊎◌, Bool, true, false, List, [], ◌∷◌, Option}
use Rattle.std.proofs.Common.{None, Some, refl, sym, ap, ◌∙◌, subst, inl, inr, arith, ◌≢◌, ◌++◌, not, cond, eq-eqb}
use Rattle.std.proofs.Common.{ne_eqb, flat_map, IsSome, IfSome}
use Rattle.vlm_store.specs.Plain.{plain_processes, plain_resources, plain_resource}
use Rattle.vlm_store.specs.Records.{IsProcess, IsSound, Records, HasNoLocks, HasNoSublocks, IsStored, OwnLock}
use Rattle.vlm_store.specs.Records.{StoredLock, StoredProcess, StoredResource, Stores, own_at, own_handles_at}
use Rattle.vlm_store.specs.Records.{process_at, rows_of_locks, but_notices, locks_at, process_without_lock}
use Rattle.vlm_store.specs.Records.{without_lock, without_resource, AreResourcesApart, queued, resource_at}
use Rattle.vlm_locks.specs.Owing.{IsPaid}
use Rattle.vlm_locks.specs.Rest.{IsAtRest, LeavesOthers}
use Rattle.vlm_locks.specs.Left.{giving_up, resource_left}
use Rattle.vlm_locks.specs.RunningDown.{GrantedWantNothing, SublocksAreOwn, WereThere}
use Rattle.vlm_model.specs.Endings.{How}
use Rattle.vlm_model.specs.Endings.How.{by_rundown}
use Rattle.vlm_store.specs.Total.{lock_total}
use Rattle.vlm_locks.specs.Touched.{AreStillNoted, AreThere, OnlyTouched, Touches, touched_handles}
use Rattle.std.specs.List.{AllByRecursion, sum_by}
use Rattle.std.specs.Option.{option_map_or}
use Rattle.std.proofs.lemmas.Option.{none-some, same_Some}
use Rattle.std.proofs.lemmas.Bool.{eqb-true, cases_eq, eqb-false}
use Rattle.vlm_collections.specs.Lists.{IsIn, last_from, last_handle, without, IsApart}
use Rattle.vlm_words.specs.declared.locks.LockState.{LockState}
use Rattle.vlm_words.specs.declared.resources.Queue.TheVariants.{Granted, Conversion, Waiting}
use Rattle.vlm_store.proofs.Counted.{one_process, own_handle, own_handles-apart, own_under_handle}
use Rattle.vlm_store.proofs.PlainProcesses.{process_at-stored}
use Rattle.vlm_locks.specs.Rising.{IsOlder, HasRisingLocks, StandById, handles_of_own}
use Rattle.vlm_locks.proofs.ReleasedResources.{IsOthers, nothing_left, IsOwnRow, OwnRows, one_withdrawn}
use Rattle.vlm_locks.proofs.QueuedLocks.{one_lock, queued_stored, only, own_among, resource_among, stored}
use Rattle.vlm_collections.proofs.HandleLists.{IsIn-without, length-without, none_in, in_map}
use Rattle.vlm_records.specs.declared.handles.Place.TheVariants.{Queued}
use Rattle.vlm_locks.specs.declared.located_locks.LocatedLock.{LocatedLock}
use Rattle.vlm_locks.specs.declared.touched.Note.{Note}
use Rattle.vlm_locks.specs.Standing.{IsLocated}
use Rattle.vlm_locks.proofs.Rising.{handles_without, same_own, was_process, none_loose}
use Rattle.vlm_locks.proofs.GrantsKeepResources.{among_without}
use Rattle.std.proofs.lemmas.List.Sums.{sum_by-cons}
use Rattle.vlm_words.specs.State.{Resource}
use Rattle.vlm_words.specs.declared.resources.Queue.{Queue}
use Rattle.vlm_words.specs.Rows.{rows_without}
use Rattle.vlm_model.specs.Rundown.{rundown_of}
use Rattle.vlm_words.specs.ValueBlocks.{new_value_block}
use Rattle.vlm_model.specs.Effects.{Blocks, blocks_with}
use Rattle.vlm_model.specs.Withdrawals.{Withdrawal, is_held_by_writer, processes_after, resource_after_withdrawals}
use Rattle.vlm_model.specs.Withdrawals.{resource_without, value_block_after_writer, withdrawal_endings}
use Rattle.vlm_model.proofs.IdsApart.{standing, stands}
use Rattle.vlm_model.proofs.ProcessEnds.{lock_ends, write_nothing}
use Rattle.vlm_model.proofs.Keys.{withdrawals_keep_place}
use Rattle.vlm_model.proofs.Weights.{weigh}
use Rattle.vlm_locks.proofs.FoundByHandle.{resource_alone, resource_at-at}
use Rattle.vlm_locks.proofs.SoundRecords.{same_process_of}
use Rattle.std.proofs.lemmas.List.{length-append}
use Rattle.vlm_store.proofs.Records.{in_a_queue}

-- some locks of the process are gone so far: what is left without all that go is the same as at first
pub record AreGoing (goes : LockState → Bool) (invalidates : Bool) (owner pid : ℕ) (old s : Records) (before touched : Touches) : Type 0 where
  pub resources : map (resource_left goes invalidates) (plain_resources s) ≡ map (resource_left goes invalidates) (plain_resources old)
  pub statuses : plain_processes s ≡ plain_processes old
  pub lives : IsProcess owner pid s
  pub sound : IsSound s
  pub together : SublocksAreOwn s
  pub granted : GrantedWantNothing s
  pub were_there : WereThere old s
  pub rest : IsAtRest s
  pub noted : AreThere touched.noted s
  pub only_touched : OnlyTouched touched.noted old s
  pub room : length touched.noted + lock_total s ≤ touched.room
  pub kept : AreStillNoted before.noted touched.noted
  pub same_room : touched.room ≡ before.room

-- the row is one of the process
abbrev pub is_row_of : ℕ → LockState → Bool
is_row_of pid row = row.pid == pid

-- the process is run down so far
pub record IsRunningDown (owner pid : ℕ) (old s : Records) (before touched : Touches) : Type 0 where
  pub so_far : AreGoing (is_row_of pid) true owner pid old s before touched
  pub paid : IsPaid s

-- ---- the own locks of the process

-- the last handle of a list is one of it
last_among : (handles : List ℕ) (first last : ℕ) → last_from (Some first) handles ≡ Some last → (last ≡ first) ⊎ IsIn last handles
last_among [] first last is = inl (sym (same_Some first last is))
last_among (x ∷ rest) first last is = elim (last_among rest x last is) [
  | inl same ↦ inr (inl (sym same))
  | inr there ↦ inr (inr there)
]

last_in : (handles : List ℕ) (last : ℕ) → last_handle handles ≡ Some last → IsIn last handles
last_in [] last is = absurd (none-some last is)
last_in (x ∷ rest) last is = elim (last_among rest x last is) [
  | inl same ↦ inl (sym same)
  | inr there ↦ inr there
]

-- and each other comes before it
all_before_last : (s : Records) (handles : List ℕ) (first last other : ℕ) → StandById s (first ∷ handles) → last_from (Some first) handles ≡ Some last
    → IsIn other (first ∷ handles) → (other ≡ last) ⊎ IsOlder s other last
all_before_last s [] first last other stand is among = elim among [
  | inl here ↦ inl (sym here ∙ same_Some first last is)
  | inr none ↦ absurd none
]
all_before_last s (x ∷ rest) first last other stand is among = elim among [
  | inl here ↦ inr (subst (λ h. IsOlder s h last) here (stand.0 last (last_in (x ∷ rest) last is)))
  | inr later ↦ all_before_last s rest x last other stand.1 is later
]

before_last : (s : Records) (handles : List ℕ) (last other : ℕ) → StandById s handles → last_handle handles ≡ Some last
    → IsIn other handles → (other ≡ last) ⊎ IsOlder s other last
before_last s [] last other stand is among = absurd among
before_last s (x ∷ rest) last other stand is among = all_before_last s rest x last other stand is among

-- where there is no last there is none
pub none_at_all : (handles : List ℕ) → last_handle handles ≡ None → handles ≡ []
none_at_all [] is = refl
none_at_all (x ∷ rest) is = absurd (some_last rest x is)
  where
    some_last : (xs : List ℕ) (first : ℕ) → last_from (Some first) xs ≡ None → ⊥
    some_last [] first none = none-some first (sym none)
    some_last (y ∷ ys) first none = some_last ys y none

no_own : (owns : List OwnLock) → handles_of_own owns ≡ [] → owns ≡ []
no_own [] is = refl
no_own (own ∷ owns) is = cc

-- where no row goes, what is left is what is there
module _ (s : Records) (sound : IsSound s) (goes : LockState
    → Bool) (invalidates : Bool) (none : (at : ℕ) (row : LockState) → Stores s at row → goes row ≡ false) where
  each_other : (locks : List StoredLock) → ((k : StoredLock) → IsIn k locks → Stores s k.at k.row) → AllByRecursion (IsOthers goes) (rows_of_locks locks)
  each_other [] each = tt
  each_other (k ∷ locks) each = (none k.at k.row (each k (inl refl)), each_other locks (λ x there. each x (inr there)))

  pub none_goes : map (resource_left goes invalidates) (plain_resources s) ≡ plain_resources s
  none_goes = of_list s.resources (λ r there. there)
    where
      here : (r : StoredResource) → IsIn r s.resources → resource_left goes invalidates (plain_resource r) ≡ plain_resource r
      here r among =
          nothing_left goes invalidates (plain_resource r)
          (record {
            granted = each_other r.granted (λ k there. queued_stored s sound r among Granted k there);
            converting = each_other r.converting (λ k there. queued_stored s sound r among Conversion k there);
            waiting = each_other r.waiting (λ k there. queued_stored s sound r among Waiting k there);
          })

      of_list : (rs : List StoredResource) → ((r : StoredResource) → IsIn r rs → IsIn r s.resources)
          → map (resource_left goes invalidates) (map plain_resource rs) ≡ map plain_resource rs
      of_list [] among = refl
      of_list (r ∷ rs) among =
          let first = here r (among r (inl refl)) in
          let behind = of_list rs (λ x there. among x (inr there)) in
          cc

module _ (owner pid : ℕ) (s : Records) (sound : IsSound s) (lives : IsProcess owner pid s) where
  -- the process
  abbrev pub p : StoredProcess
  p = lives.0

  found : process_at owner s.processes ≡ Some p
  found = subst (λ k. process_at k s.processes ≡ Some p) lives.1.1 (process_at-stored p s.processes sound.processes_apart lives.1.0)

  its_own : own_at owner s ≡ p.own
  its_own = ap (λ (o : Option StoredProcess). option_map_or (λ q. q.own) o []) found

  pub its_handles : own_handles_at owner s ≡ handles_of_own p.own
  its_handles = ap handles_of_own its_own

  -- each of its locks is there once
  pub handles_apart : IsApart (own_handles_at owner s)
  handles_apart = subst IsApart (sym its_handles) (own_handles-apart p.own (sound.own_apart p lives.1.0))

  -- they stand by rising ID
  pub they_rise : IsAtRest s → StandById s (own_handles_at owner s)
  they_rise rest = subst (StandById s) (sym its_handles) (rest.rising p lives.1.0).own

  -- no other process has its ID
  only_it : (q : StoredProcess) → IsIn q s.processes → q.process.pid ≡ pid → q ≡ p
  only_it q among same = one_process s.processes sound.processes_apart q p among lives.1.0 (same ∙ sym lives.1.2)

  -- each of its locks is among its own
  pub owned_here : (at : ℕ) (row : LockState) → Stores s at row → row.pid ≡ pid → IsIn at (handles_of_own p.own)
  owned_here at row stored mine =
      let owned = sound.owned.owned at row (inl stored) in
      let same : owned.0 ≡ p = only_it owned.0 owned.2.0 (owned.2.1 ∙ mine) in
      subst (λ h. IsIn h (handles_of_own p.own)) owned.2.3 (own_under_handle p.own owned.1 (subst (λ (q : StoredProcess). IsIn owned.1 q.own) same owned.2.2))

  -- and stands with its ID
  pub stored_here : IsAtRest s → (at : ℕ) → IsIn at (own_handles_at owner s) → (row : LockState) × (Stores s at row × (row.pid ≡ pid))
  stored_here rest at there =
      let own = own_handle p.own at (subst (IsIn at) its_handles there) in
      let owns = sound.owned.owns p own.0 lives.1.0 own.1.0 in
      (owns.0, (subst (λ h. Stores s h owns.0) own.1.1 (in_a_queue s (none_loose s rest.rising) own.0.at owns.0 owns.1.0), owns.1.1 ∙ lives.1.2))

  module _ (rest : IsAtRest s) (lock : ℕ) (last : last_handle (own_handles_at owner s) ≡ Some lock) where
    pub last_there : IsIn lock (own_handles_at owner s)
    last_there = last_in (own_handles_at owner s) lock last

    pub last_stored : IsStored lock s
    last_stored = let here = stored_here rest lock last_there in (here.0, here.1.0)

    -- the last lock that a process made has no sublocks
    pub last_is_childless : SublocksAreOwn s → HasNoSublocks lock s
    last_is_childless together q own in_q in_own same = none_in own.sublocks none_below
      where
        rises : HasRisingLocks s q
        rises = rest.rising q in_q

        of_order : (up row : LockState) (sub : ℕ) → up.lkid < row.lkid → (sub ≡ lock) ⊎ IsOlder s sub lock → Stores s lock up → Stores s sub row → ⊥
        of_order up row sub more (inl is) stored_up stored_row =
            omega (arith, more, ap (λ (x : LockState). x.lkid) (one_lock s sound lock up row stored_up (subst (λ h. Stores s h row) is stored_row)))
        of_order up row sub more (inr before) stored_up stored_row = omega (arith, more, before row up stored_row stored_up)

        none_below : (sub : ℕ) → IsIn sub own.sublocks → ⊥
        none_below sub there =
            let below = sound.owned.below q own sub in_q in_own there in
            let none = none_loose s rest.rising in
            let sub_stored : Stores s sub below.1 = in_a_queue s none sub below.1 below.2.1 in
            let up_stored : Stores s lock below.0 = subst (λ h. Stores s h below.0) same (in_a_queue s none own.at below.0 below.2.0) in
            let here = stored_here rest lock last_there in
            let up_same : here.0 ≡ below.0 = one_lock s sound lock here.0 below.0 here.1.0 up_stored in
            let mine : below.1.pid ≡ pid =
            together sub lock below.1 below.0 sub_stored up_stored below.2.2 ∙ ap (λ (row : LockState). row.pid) (sym up_same) ∙ here.1.1 in
            let after : IsOlder s lock sub = subst (λ h. IsOlder s h sub) same ((rises.sublocks own in_own).0 sub there) in
            let order = before_last s (handles_of_own p.own) lock sub (rest.rising p lives.1.0).own (sym (ap last_handle its_handles) ∙ last)
            (owned_here sub below.1 sub_stored mine) in
            of_order below.0 below.1 sub (after below.0 below.1 up_stored sub_stored) order up_stored sub_stored

  -- where the process has no lock, no row is its own
  pub none_is_own : own_handles_at owner s ≡ [] → (at : ℕ) (row : LockState) → Stores s at row → (row.pid == pid) ≡ false
  none_is_own none at row stored = of_test (row.pid == pid) refl
    where
      of_test : (b : Bool) → (row.pid == pid) ≡ b → b ≡ false
      of_test true is = absurd (subst (IsIn at) (sym its_handles ∙ none) (owned_here at row stored (eqb-true row.pid pid is)))
      of_test false is = refl

  pub no_locks : own_handles_at owner s ≡ [] → HasNoLocks owner s
  no_locks none = no_own (own_at owner s) none

  -- then what it leaves is what is there
  pub all_left : own_handles_at owner s ≡ [] → map (resource_left (is_row_of pid) true) (plain_resources s) ≡ plain_resources s
  all_left none = none_goes s sound (is_row_of pid) true (none_is_own none)

-- ---- one lock goes

-- a lock of another handle is among the others
pub among_others : (at : ℕ) (k : StoredLock) (locks : List StoredLock) → k.at ≢ at → IsIn k locks → IsIn k (without_lock at locks)
among_others at k [] other there = there
among_others at k (x ∷ locks) other there = of_test (x.at == at) refl (among_others at k locks other)
  where
    of_test : (b : Bool) → (x.at == at) ≡ b → (IsIn k locks → IsIn k (without_lock at locks))
        → IsIn k (cond (not b) (x ∷ without_lock at locks) (without_lock at locks))
    of_test true is later = elim there [
      | inl here ↦ absurd (other (sym (ap (λ (y : StoredLock). y.at) here) ∙ eqb-true x.at at is))
      | inr behind ↦ later behind
    ]
    of_test false is later = elim there [
      | inl here ↦ inl here
      | inr behind ↦ inr (later behind)
    ]

-- a resource of another handle is among the others
pub other_resource : (res : ℕ) (r : StoredResource) (rs : List StoredResource) → r.at ≢ res → IsIn r rs → IsIn r (without_resource res rs)
other_resource res r [] other there = there
other_resource res r (x ∷ rs) other there = of_test (x.at == res) refl (other_resource res r rs other)
  where
    of_test : (b : Bool) → (x.at == res) ≡ b → (IsIn r rs → IsIn r (without_resource res rs))
        → IsIn r (cond (not b) (x ∷ without_resource res rs) (without_resource res rs))
    of_test true is later = elim there [
      | inl here ↦ absurd (other (sym (ap (λ (y : StoredResource). y.at) here) ∙ eqb-true x.at res is))
      | inr behind ↦ later behind
    ]
    of_test false is later = elim there [
      | inl here ↦ inl here
      | inr behind ↦ inr (later behind)
    ]

pub of_others : (res : ℕ) (r : StoredResource) (rs : List StoredResource) → IsIn r (without_resource res rs) → IsIn r rs
of_others res r [] there = there
of_others res r (x ∷ rs) there = of_test (x.at == res) there (of_others res r rs)
  where
    of_test : (b : Bool) → IsIn r (cond (not b) (x ∷ without_resource res rs) (without_resource res rs))
        → (IsIn r (without_resource res rs) → IsIn r rs) → IsIn r (x ∷ rs)
    of_test true behind later = inr (later behind)
    of_test false among later = elim among [
      | inl here ↦ inl here
      | inr behind ↦ inr (later behind)
    ]

module _ (s new : Records) (sound : IsSound s) (sound_new : IsSound new) (f : LocatedLock) (located : IsLocated f s) (beside : LeavesOthers f.res f.lock s new)
    (own_locks : map but_notices new.processes ≡ map but_notices (map (process_without_lock f.lock) s.processes)) where
  -- the lock is gone
  pub gone : (row : LockState) → Stores new f.lock row → ⊥
  gone row stored =
      let owned = sound_new.owned.owned f.lock row (inl stored) in
      let was = same_own (map (process_without_lock f.lock) s.processes) new.processes own_locks owned.0 owned.2.0 in
      let here : IsIn f.lock (handles_of_own was.0.own) =
      subst (λ owns. IsIn f.lock (handles_of_own owns)) (sym was.1.1)
      (subst (λ h. IsIn h (handles_of_own owned.0.own)) owned.2.3
      (own_under_handle owned.0.own owned.1 owned.2.2)) in
      let had = was_process (process_without_lock f.lock) s.processes was.0 was.1.0 in
      (IsIn-without f.lock f.lock (handles_of_own had.0.own)
      (subst (IsIn f.lock) (ap (λ (q : StoredProcess). handles_of_own q.own) (sym had.1.1) ∙ handles_without f.lock had.0.own) here)).1 refl

  -- each lock was there
  pub one_were_there : WereThere s new
  one_were_there place k there =
      among_without f.lock k (locks_at place s)
      (subst (IsIn k) (beside.locks place)
      (among_others f.lock k (locks_at place new)
      (λ same. gone k.row (
        place,
        subst (λ h. IsIn (record { at = h; row = k.row }) (locks_at place new)) same there,
      )) there))

  pub still_together : SublocksAreOwn s → SublocksAreOwn new
  still_together together at other row up stored above same =
      together at other row up (stored.0, one_were_there stored.0 (record { at = at; row = row }) stored.1)
      (above.0, one_were_there above.0 (record { at = other; row = up }) above.1) same

  pub still_want_nothing : GrantedWantNothing s → GrantedWantNothing new
  still_want_nothing granted res lock there = granted res lock (one_were_there (Queued res Granted) lock there)

  -- the process lives on, without the lock
  module _ (owner pid : ℕ) (lives : IsProcess owner pid s) where
    process_left : (q : StoredProcess)
        × (IsIn q new.processes × (q.at ≡ lives.0.at) × (q.process.pid ≡ lives.0.process.pid)
        × (q.own ≡ (process_without_lock f.lock lives.0).own))
    process_left =
        same_process_of (map (process_without_lock f.lock) s.processes) new.processes own_locks (process_without_lock f.lock lives.0)
        (in_map (process_without_lock f.lock) lives.0 s.processes lives.1.0)

    pub lives_on : IsProcess owner pid new
    lives_on = let q = process_left in (q.0, (q.1.0, q.1.1 ∙ lives.1.1, q.1.2 ∙ lives.1.2))

    pub handles_left : own_handles_at owner new ≡ without f.lock (own_handles_at owner s)
    unfolding lives_on process_left
    handles_left =
        its_handles owner pid new sound_new lives_on
        ∙ ap handles_of_own process_left.1.3 ∙ handles_without f.lock lives.0.own
        ∙ ap (without f.lock) (sym (its_handles owner pid s sound lives))

  -- what was not touched is as it was
  pub one_only_touched : (touches : List Note) (serial : ℕ) (old : Records) → OnlyTouched touches old s
      → OnlyTouched (touches ++ record { number = serial; at = f.res } ∷ []) old new
  one_only_touched touches serial old only r there untouched =
      only r
      (of_others f.res r s.resources
      (subst (IsIn r) beside.others
      (other_resource f.res r new.resources
      (λ same. untouched (subst
      (λ h. IsIn h (touched_handles (touches ++ record { number = serial; at = f.res } ∷ []))) (sym same)
      (last_touched touches))) there)))
      (λ touched. untouched (more_touched touches touched))
    where
      last_touched : (ts : List Note) → IsIn f.res (touched_handles (ts ++ record { number = serial; at = f.res } ∷ []))
      last_touched [] = inl refl
      last_touched (t ∷ ts) = inr (last_touched ts)

      more_touched : (ts : List Note) → IsIn r.at (touched_handles ts) → IsIn r.at (touched_handles (ts ++ record { number = serial; at = f.res } ∷ []))
      more_touched [] touched = absurd touched
      more_touched (t ∷ ts) touched = elim touched [
        | inl here ↦ inl here
        | inr later ↦ inr (more_touched ts later)
      ]

-- ---- what the plain machine makes of it

-- all rows of the lock go
module _ (s : Records) (sound : IsSound s) (f : LocatedLock) (located : IsLocated f s) (goes : LockState
    → Bool) (invalidates : Bool) (its : goes f.row ≡ true) where
  each_own : (r : StoredResource) → IsIn r s.resources → (queue : Queue) → (locks : List StoredLock)
      → ((k : StoredLock) → IsIn k locks → IsIn k (queued queue r))
      → AllByRecursion (IsOwnRow goes f.row.lkid) (rows_of_locks locks)
  each_own r among queue [] there = tt
  each_own r among queue (k ∷ locks) there = (
    λ same. ap (λ (x : StoredLock). goes x.row) ((only s sound f located r among queue k (there k (inl refl))).0 same) ∙ its,
    each_own r among queue locks (λ x behind. there x (inr behind)),
  )

  own_rows : (r : StoredResource) → IsIn r s.resources → OwnRows goes f.row.lkid (plain_resource r)
  own_rows r among = record {
    granted = each_own r among Granted r.granted (λ k there. there);
    converting = each_own r among Conversion r.converting (λ k there. there);
    waiting = each_own r among Waiting r.waiting (λ k there. there);
  }

  -- what is left is the same
  module _ (waiting converting : How) where
    leaves_same : (rs : List StoredResource) → ((r : StoredResource) → IsIn r rs → IsIn r s.resources)
        → map (resource_left goes invalidates)
        (map (resource_after_withdrawals (giving_up waiting converting invalidates f.row.lkid ∷ []))
        (map plain_resource rs))
        ≡ map (resource_left goes invalidates) (map plain_resource rs)
    leaves_same [] there = refl
    leaves_same (r ∷ rs) there =
        let here = one_withdrawn goes waiting converting invalidates f.row.lkid (plain_resource r) (own_rows r (there r (inl refl))) in
        let behind = leaves_same rs (λ x later. there x (inr later)) in
        cc

    pub one_left : (new : Records) (w : Withdrawal) → w ≡ giving_up waiting converting invalidates f.row.lkid
        → plain_resources new ≡ map (resource_after_withdrawals (w ∷ [])) (plain_resources s)
        → map (resource_left goes invalidates) (plain_resources new) ≡ map (resource_left goes invalidates) (plain_resources s)
    one_left new w is after =
        ap (map (resource_left goes invalidates)) (after ∙ ap (λ (v : Withdrawal). map (resource_after_withdrawals (v ∷ [])) (plain_resources s)) is)
        ∙ leaves_same s.resources (λ r there. there)

-- nobody is told
pub one_untold : (new s : Records) (lkid : ℕ) (w : Withdrawal) → w ≡ rundown_of lkid
    → plain_processes new ≡ processes_after (flat_map (withdrawal_endings w) (plain_resources s)) (plain_processes s) → plain_processes new ≡ plain_processes s
one_untold new s lkid w is after =
    after ∙ ap (λ (v : Withdrawal). processes_after (flat_map (withdrawal_endings v) (plain_resources s)) (plain_processes s)) is
    ∙ ap (λ (b : Blocks). b.processes)
    (write_nothing (flat_map (withdrawal_endings (rundown_of lkid)) (plain_resources s))
    (blocks_with new_value_block (plain_processes s)) (lock_ends lkid (plain_resources s)))

-- ---- how many are left

-- how many rows there are
rows_count : List Resource → ℕ
rows_count rs = sum_by (weigh (λ row. 1)) rs

ones : (locks : List StoredLock) → sum_by (λ (row : LockState). 1) (rows_of_locks locks) ≡ length locks
ones [] = refl
ones (k ∷ locks) = omega (arith, ones locks, sum_by-cons (λ (row : LockState). 1) k.row (rows_of_locks locks))

pub total_is : (rs : List StoredResource)
    → sum_by (λ r. length r.granted + length r.converting + length r.waiting) rs ≡ sum_by (weigh (λ row. 1))
    (map plain_resource rs)
total_is [] = refl
total_is (r ∷ rs) =
    omega (
      arith,
      total_is rs,
      ones r.granted,
      ones r.converting,
      ones r.waiting,
      sum_by-cons (λ (x : StoredResource). length x.granted + length x.converting + length x.waiting) r rs,
      sum_by-cons (weigh (λ row. 1)) (plain_resource r) (map plain_resource rs),
    )

rows_parted : (lkid : ℕ) (rows : List LockState)
    → sum_by (λ (row : LockState). 1) (rows_without lkid rows) + sum_by (stands lkid) rows ≡ sum_by
    (λ (row : LockState). 1) rows
rows_parted lkid [] = refl
rows_parted lkid (row ∷ rows) = of_test (row.lkid == lkid) refl (rows_parted lkid rows)
  where
    of_test : (b : Bool) → (row.lkid == lkid) ≡ b
        → sum_by (λ (x : LockState). 1) (rows_without lkid rows) + sum_by (stands lkid) rows ≡ sum_by (λ (x : LockState). 1) rows
        → sum_by (λ (x : LockState). 1) (cond (not b) (row ∷ rows_without lkid rows) (rows_without lkid rows)) + sum_by
        (stands lkid) (row ∷ rows) ≡ sum_by (λ (x : LockState). 1) (row ∷ rows)
    of_test true is behind =
        let one : stands lkid row ≡ 1 = ap (λ (b : Bool). cond b 1 0) is in
        omega (arith, behind, one, sum_by-cons (stands lkid) row rows, sum_by-cons (λ (x : LockState). 1) row rows)
    of_test false is behind =
        let none : stands lkid row ≡ 0 = ap (λ (b : Bool). cond b 1 0) is in
        omega (
          arith,
          behind,
          none,
          sum_by-cons (stands lkid) row rows,
          sum_by-cons (λ (x : LockState). 1) row rows,
          sum_by-cons (λ (x : LockState). 1) row (rows_without lkid rows),
        )

module _ (waiting converting : How) (invalidates : Bool) (lkid : ℕ) where
  resource_parted : (r : Resource)
      → weigh (λ row. 1) (resource_after_withdrawals (giving_up waiting converting invalidates lkid ∷ []) r) + weigh (stands lkid) r ≡ weigh (λ row. 1) r
  unfolding resource_without
  resource_parted r = of_test (is_held_by_writer lkid r)
    where
      of_test : (b : Bool)
          → weigh (λ row. 1) (resource_without lkid
          (cond b (record r {
            value_block =
                value_block_after_writer (giving_up waiting converting invalidates lkid) r.value_block;
          }) r))
          + weigh (stands lkid) r ≡ weigh (λ row. 1) r
      of_test true = omega (arith, rows_parted lkid r.granted, rows_parted lkid r.converting, rows_parted lkid r.waiting)
      of_test false = omega (arith, rows_parted lkid r.granted, rows_parted lkid r.converting, rows_parted lkid r.waiting)

  all_parted : (rs : List Resource)
      → sum_by (weigh (λ row. 1))
      (map (resource_after_withdrawals
      (giving_up waiting converting invalidates lkid ∷ [])) rs) + standing lkid rs ≡ sum_by (weigh (λ row. 1)) rs
  all_parted [] = refl
  all_parted (r ∷ rs) =
      omega (
        arith,
        all_parted rs,
        resource_parted r,
        sum_by-cons (weigh (λ row. 1)) r rs,
        sum_by-cons (weigh (stands lkid)) r rs,
        sum_by-cons (weigh (λ row. 1)) (resource_after_withdrawals (giving_up waiting converting invalidates lkid ∷ []) r)
            (map (resource_after_withdrawals (giving_up waiting converting invalidates lkid ∷ [])) rs),
      )

-- a lock that stands is counted
counted_in : (k : StoredLock) (locks : List StoredLock) → IsIn k locks → 1 ≤ sum_by (stands k.row.lkid) (rows_of_locks locks)
counted_in k [] there = absurd there
counted_in k (x ∷ locks) there = elim there [
  | inl here ↦
      (let one : stands k.row.lkid x.row ≡ 1 = ap (λ (b : Bool). cond b 1 0) (eq-eqb x.row.lkid k.row.lkid (ap (λ (y : StoredLock). y.row.lkid) here)) in
      omega (arith, one, sum_by-cons (stands k.row.lkid) x.row (rows_of_locks locks)))
  | inr later ↦ omega (arith, counted_in k locks later, sum_by-cons (stands k.row.lkid) x.row (rows_of_locks locks))
]

counted_on : (k : StoredLock) (r : StoredResource) (queue : Queue) → IsIn k (queued queue r) → 1 ≤ weigh (stands k.row.lkid) (plain_resource r)
counted_on k r Granted there = omega (arith, counted_in k r.granted there)
counted_on k r Conversion there = omega (arith, counted_in k r.converting there)
counted_on k r Waiting there = omega (arith, counted_in k r.waiting there)

counted_among : (k : StoredLock) (r : StoredResource) (queue : Queue) → IsIn k (queued queue r)
    → (rs : List StoredResource) → IsIn r rs → 1 ≤ standing k.row.lkid (map plain_resource rs)
counted_among k r queue there [] among = absurd among
counted_among k r queue there (x ∷ rs) among = elim among [
  | inl here ↦
      omega (
        arith,
        subst (λ (y : StoredResource). 1 ≤ weigh (stands k.row.lkid) (plain_resource y)) (sym here) (counted_on k r queue there),
        sum_by-cons (weigh (stands k.row.lkid)) (plain_resource x) (map plain_resource rs),
      )
  | inr later ↦ omega (arith, counted_among k r queue there rs later, sum_by-cons (weigh (stands k.row.lkid)) (plain_resource x) (map plain_resource rs))
]

-- there is one lock less
pub one_less : (s new : Records) (sound : IsSound s) (f : LocatedLock) (located : IsLocated f s) → IsAtRest s → IsAtRest new
    → (waiting converting : How) (invalidates : Bool) (w : Withdrawal) → w ≡ giving_up waiting converting invalidates f.row.lkid
    → plain_resources new ≡ map (resource_after_withdrawals (w ∷ [])) (plain_resources s) → lock_total new + 1 ≤ lock_total s
one_less s new sound f located rest rest_new waiting converting invalidates w is after =
    omega (
      arith,
      total_is s.resources,
      total_is new.resources,
      ap (sum_by (weigh (λ row. 1))) (after ∙ ap (λ (v : Withdrawal). map (resource_after_withdrawals (v ∷ [])) (plain_resources s)) is),
      all_parted waiting converting invalidates f.row.lkid (plain_resources s),
      counted_among (record { at = f.lock; row = f.row }) located.resource f.queue located.among s.resources (own_among s sound f located),
    )

-- ---- the touched resources

-- the serials of all resources but one
serials_but : (res : ℕ) (r : StoredResource) (rs : List StoredResource) → AreResourcesApart rs → IsIn r rs → r.at ≡ res
    → sum_by (λ x. x.serial) (without_resource res rs) + r.serial ≡ sum_by (λ x. x.serial) rs
serials_but res r [] apart there named = absurd there
serials_but res r (x ∷ rs) apart there named = of_test (x.at == res) refl there (serials_but res r rs apart.1) (none_but res rs)
  where
    none_but : (at : ℕ) (ys : List StoredResource) → ((y : StoredResource) → IsIn y ys → y.at ≡ at → ⊥) → without_resource at ys ≡ ys
    none_but at [] none = refl
    none_but at (y ∷ ys) none =
        rw (ne_eqb y.at at (none y (inl refl)))
        (ap (λ (kept : List StoredResource). y ∷ kept) (none_but at ys (λ z later. none z (inr later))))

    of_test : (b : Bool) → (x.at == res) ≡ b → IsIn r (x ∷ rs)
        → (IsIn r rs → r.at ≡ res → sum_by (λ y. y.serial) (without_resource res rs) + r.serial ≡ sum_by (λ y. y.serial) rs)
        → (((y : StoredResource) → IsIn y rs → y.at ≡ res → ⊥) → without_resource res rs ≡ rs)
        → sum_by (λ y. y.serial) (cond (not b) (x ∷ without_resource res rs) (without_resource res rs)) + r.serial ≡ sum_by (λ y. y.serial) (x ∷ rs)
    of_test true is among later none = elim among [
      | inl here ↦ omega (
        arith,
        ap (sum_by (λ (y : StoredResource). y.serial)) (none (λ y behind same. apart.0 y behind (same ∙ sym (eqb-true x.at res is)))),
        ap (λ (y : StoredResource). y.serial) here,
        sum_by-cons (λ (y : StoredResource). y.serial) x rs,
      )
      | inr behind ↦ absurd (apart.0 r behind (named ∙ sym (eqb-true x.at res is)))
    ]
    of_test false is among later none = elim among [
      | inl here ↦ absurd (eqb-false x.at res is (ap (λ (y : StoredResource). y.at) here ∙ named))
      | inr behind ↦ omega (
        arith,
        later behind named,
        sum_by-cons (λ (y : StoredResource). y.serial) x rs,
        sum_by-cons (λ (y : StoredResource). y.serial) x (without_resource res rs),
      )
    ]

serials_plain : (rs : List StoredResource) → sum_by (λ r. r.serial) rs ≡ sum_by (λ r. r.serial) (map plain_resource rs)
serials_plain [] = refl
serials_plain (r ∷ rs) =
    omega (
      arith,
      serials_plain rs,
      sum_by-cons (λ (x : StoredResource). x.serial) r rs,
      sum_by-cons (λ (x : Resource). x.serial) (plain_resource r) (map plain_resource rs),
    )

serials_kept : (w : Withdrawal) (rs : List Resource) → sum_by (λ r. r.serial) (map (resource_after_withdrawals (w ∷ [])) rs) ≡ sum_by (λ r. r.serial) rs
serials_kept w [] = refl
serials_kept w (r ∷ rs) =
    omega (
      arith,
      serials_kept w rs,
      (withdrawals_keep_place (w ∷ []) r).serial,
      sum_by-cons (λ (x : Resource). x.serial) r rs,
      sum_by-cons (λ (x : Resource). x.serial) (resource_after_withdrawals (w ∷ []) r) (map (resource_after_withdrawals (w ∷ [])) rs),
    )

module _ (s new : Records) (sound : IsSound s) (sound_new : IsSound new) (f : LocatedLock) (located : IsLocated f s) (beside : LeavesOthers f.res f.lock s new)
    (w : Withdrawal) (after : plain_resources new ≡ map (resource_after_withdrawals (w ∷ [])) (plain_resources s)) where
  -- the lock's resource has its serial still
  same_serial : (r : StoredResource) → IsIn r new.resources → r.at ≡ f.res → r.serial ≡ located.resource.serial
  same_serial r there named =
      omega (
        arith,
        serials_but f.res r new.resources sound_new.resources_apart there named,
        serials_but f.res located.resource s.resources sound.resources_apart (own_among s sound f located)
            (resource_at-at f.res s.resources located.resource located.found),
        ap (sum_by (λ (x : StoredResource). x.serial)) beside.others,
        serials_plain s.resources,
        serials_plain new.resources,
        ap (sum_by (λ (x : Resource). x.serial)) after,
        serials_kept w (plain_resources s),
      )

  -- what was touched is there still, and so is the lock's resource
  pub still_there : (touches : List Note) (serial : ℕ) → AreThere touches s → IfSome (resource_at f.res new.resources) (λ r. serial ≡ r.serial)
      → AreThere (touches ++ record { number = serial; at = f.res } ∷ []) new
  still_there touches serial there its t among = elim (was_or_last touches among) [
    | inl was ↦ of_old t (there t was)
    | inr last ↦ (let r = now_at in (
      r.0,
      (
        r.1.0,
        r.1.1 ∙ ap (λ (x : Note). x.at) last,
        sym (subst (λ (o : Option StoredResource). IfSome o (λ x. serial ≡ x.serial)) r.1.2 its)
            ∙ ap (λ (x : Note). x.number) last,
      ),
    ))
  ]
    where
      now_at : (r : StoredResource) × (IsIn r new.resources × (r.at ≡ f.res) × (resource_at f.res new.resources ≡ Some r))
      now_at = of_found (resource_at f.res new.resources) refl beside.there
        where
          of_found : (o : Option StoredResource) → resource_at f.res new.resources ≡ o → IsSome o
              → (r : StoredResource) × (IsIn r new.resources × (r.at ≡ f.res) × (resource_at f.res new.resources ≡ Some r))
          of_found None is some = cc
          of_found (Some r) is some = (r, (resource_among f.res new.resources r is, resource_at-at f.res new.resources r is, is))

      of_old : (x : Note) → (r : StoredResource) × (IsIn r s.resources × (r.at ≡ x.at) × (r.serial ≡ x.number))
          → (r : StoredResource) × (IsIn r new.resources × (r.at ≡ x.at) × (r.serial ≡ x.number))
      of_old x old = elim (cases_eq old.0.at f.res) [
        | inl same ↦
            (let r = now_at in (
              r.0,
              (
                r.1.0,
                r.1.1 ∙ sym same ∙ old.1.1,
                same_serial r.0 r.1.0 r.1.1
                    ∙ sym (ap (λ (y : StoredResource). y.serial)
                    (resource_alone f.res s.resources located.resource old.0 sound.resources_apart located.found
                    old.1.0 same)) ∙ old.1.2,
              ),
            ))
        | inr differs ↦ (
          old.0,
          (
            of_others f.res old.0 new.resources
                (subst (IsIn old.0) (sym beside.others) (other_resource f.res old.0 s.resources differs old.1.0)),
            old.1.1,
            old.1.2,
          ),
        )
      ]

      was_or_last : (ts : List Note) → IsIn t (ts ++ record { number = serial; at = f.res } ∷ []) → IsIn t ts ⊎ (record { number = serial; at = f.res } ≡ t)
      was_or_last [] here = elim here [ inl is ↦ inr is | inr none ↦ absurd none ]
      was_or_last (x ∷ ts) here = elim here [
        | inl is ↦ inl (inl is)
        | inr later ↦ elim (was_or_last ts later) [
          | inl was ↦ inl (inr was)
          | inr last ↦ inr last
        ]
      ]

-- what was noted is noted with another behind it
noted_before : (t : Note) (touches : List Note) (last : Note) → IsIn t touches → IsIn t (touches ++ last ∷ [])
noted_before t [] last none = absurd none
noted_before t (x ∷ touches) last there = elim there [
  | inl here ↦ inl here
  | inr behind ↦ inr (noted_before t touches last behind)
]

-- ---- a turn

-- what a turn has, which withdraws a lock of the process that goes, and notes its resource
pub record IsTurn (goes : LockState → Bool) (invalidates : Bool) (owner : ℕ) (s new : Records) (touched noted : Touches)
    (f : LocatedLock) (w : Withdrawal) : Type 0 where
  pub sound : IsSound new
  pub located : IsLocated f s
  pub mine : IsIn f.lock (own_handles_at owner s)
  pub its : goes f.row ≡ true
  pub waiting : How
  pub converting : How
  pub withdrawal : w ≡ giving_up waiting converting invalidates f.row.lkid
  pub resources : plain_resources new ≡ map (resource_after_withdrawals (w ∷ [])) (plain_resources s)
  pub statuses : plain_processes new ≡ plain_processes s
  pub beside : LeavesOthers f.res f.lock s new
  pub own_locks : map but_notices new.processes ≡ map but_notices (map (process_without_lock f.lock) s.processes)
  pub serial : ℕ
  pub its_serial : IfSome (resource_at f.res new.resources) (λ r. serial ≡ r.serial)
  pub notes : noted.noted ≡ touched.noted ++ record { number = serial; at = f.res } ∷ []
  pub room : noted.room ≡ touched.room

-- a lock of the process is a row of it
pub its_row : (owner pid : ℕ) (s : Records) (sound : IsSound s) (lives : IsProcess owner pid s) → IsAtRest s
    → (f : LocatedLock) → IsLocated f s → IsIn f.lock (own_handles_at owner s)
    → f.row.pid ≡ pid
its_row owner pid s sound lives rest f located there =
    let here = stored_here owner pid s sound lives rest f.lock there in
    ap (λ (row : LockState). row.pid) (one_lock s sound f.lock f.row here.0 (stored s f located) here.1.0) ∙ here.1.1

module _ (goes : LockState → Bool) (invalidates : Bool) (owner pid : ℕ) (old s new : Records)
    (before touched noted : Touches) (f : LocatedLock) (w : Withdrawal)
    (so_far : AreGoing goes invalidates owner pid old s before touched) (turn : IsTurn goes invalidates owner s new touched noted f w) where
  pub own_apart : IsApart (own_handles_at owner s)
  own_apart = handles_apart owner pid s so_far.sound so_far.lives

  pub fewer_own : length (own_handles_at owner new) + 1 ≡ length (own_handles_at owner s)
  fewer_own =
      let own_left = handles_left s new so_far.sound turn.sound f turn.located turn.beside turn.own_locks owner pid so_far.lives in
      omega (arith, ap (λ (handles : List ℕ). length handles) own_left, length-without f.lock (own_handles_at owner s) own_apart turn.mine)

  pub next_turn : AreGoing goes invalidates owner pid old new before noted
  next_turn = record {
    resources =
        one_left s so_far.sound f turn.located goes invalidates turn.its turn.waiting turn.converting new w turn.withdrawal turn.resources ∙ so_far.resources;
    statuses = turn.statuses ∙ so_far.statuses;
    lives = lives_on s new so_far.sound turn.sound f turn.located turn.beside turn.own_locks owner pid so_far.lives;
    sound = turn.sound;
    together = still_together s new so_far.sound turn.sound f turn.located turn.beside turn.own_locks so_far.together;
    granted = still_want_nothing s new so_far.sound turn.sound f turn.located turn.beside turn.own_locks so_far.granted;
    were_there = λ place k there.
        so_far.were_there place k (one_were_there s new so_far.sound turn.sound f turn.located turn.beside turn.own_locks place k there);
    rest = turn.beside.rest;
    noted =
        subst (λ (touches : List Note). AreThere touches new) (sym turn.notes)
        (still_there s new so_far.sound turn.sound f turn.located turn.beside w turn.resources touched.noted turn.serial so_far.noted turn.its_serial);
    only_touched =
        subst (λ (touches : List Note). OnlyTouched touches old new) (sym turn.notes)
        (one_only_touched s new so_far.sound turn.sound f turn.located turn.beside turn.own_locks touched.noted turn.serial old so_far.only_touched);
    room =
        omega (
          arith,
          so_far.room,
          one_less s new so_far.sound f turn.located so_far.rest turn.beside.rest turn.waiting turn.converting invalidates w turn.withdrawal turn.resources,
          ap (λ (touches : List Note). length touches) turn.notes,
          length-append touched.noted (record { number = turn.serial; at = f.res } ∷ []),
          turn.room,
        );
    kept = λ t there.
        subst (λ (touches : List Note). IsIn t touches) (sym turn.notes)
        (noted_before t touched.noted (record { number = turn.serial; at = f.res }) (so_far.kept t there));
    same_room = turn.room ∙ so_far.same_room;
  }

-- a lock that stands is counted: there is room to note its resource
pub one_at_least : (s : Records) (sound : IsSound s) (f : LocatedLock) (located : IsLocated f s) → 1 ≤ lock_total s
one_at_least s sound f located =
    omega (
      arith,
      total_is s.resources,
      all_parted by_rundown by_rundown true f.row.lkid (plain_resources s),
      counted_among (record { at = f.lock; row = f.row }) located.resource f.queue located.among s.resources (own_among s sound f located),
    )
