-- The locks below a lock are gathered level by level, and those that are noted are the chosen ones.
use Rattle.std.proofs.Common.{◌≡◌, ◌≢◌, ◌≤◌, ◌<◌, ◌+◌, ℕ, zero, suc, true, false, List, [], ◌∷◌, ◌++◌, length, get_or}
use Rattle.std.proofs.Common.{Some, refl, sym, ap, ◌∙◌, subst, inl, inr, arith, eq-eqb}
use Rattle.std.specs.Prelude.{◌==◌, ◌||◌}
use Rattle.std.proofs.lemmas.Bool.{cases_eq, eqb-true, or_cases}
use Rattle.std.proofs.lemmas.List.{append_assoc, append-nil, length-append, length-map}
use Rattle.vlm_words.specs.declared.locks.LockState.{LockState}
use Rattle.vlm_model.specs.OwnLocks.{is_below, parent_of}
use Rattle.vlm_collections.specs.Lists.{IsApart, IsIn}
use Rattle.vlm_collections.proofs.HandleLists.{IsIn-push, IsIn-push_kept, IsIn-push_last, in_ahead, in_behind, in_either, in_map}
use Rattle.vlm_store.specs.Plain.{plain_resources}
use Rattle.vlm_store.specs.Records.{FindsLock, IsProcess, IsSound, IsStored, Records, Stores, own_handles_at, sublocks_at}
use Rattle.vlm_store.specs.Total.{lock_total}
use Rattle.vlm_locks.specs.declared.joint_withdrawals.Scope.TheVariants.{All, Below}
use Rattle.vlm_locks.specs.declared.touched.Note.{Note}
use Rattle.vlm_locks.specs.GivingUp.{AreChosen, AreOfLocks, IsOwnScope, SublocksGoToo, noted_lkids}
use Rattle.vlm_locks.specs.Rest.{IsAtRest}
use Rattle.vlm_locks.specs.Rising.{StandById}
use Rattle.vlm_locks.specs.RunningDown.{SublocksAreOwn}
use Rattle.vlm_locks.specs.Touched.{IsNoted, RiseByNumber, Touches, touched_handles}
use Rattle.vlm_locks.proofs.ChosenLocks.{absent_before}
use Rattle.vlm_locks.proofs.InOrder.{handle_among, touch_of}
use Rattle.vlm_locks.proofs.Notes.{handle_there, note_of, rise_in_order, rise_noted}
use Rattle.vlm_locks.proofs.ParentsNamed.{below_no_other, parent_named, parent_nowhere, parents_come_first, somewhere_or_not}
use Rattle.vlm_locks.proofs.RunsDown.{handles_apart, its_handles, owned_here, stored_here, they_rise}
use Rattle.vlm_locks.proofs.QueuedLocks.{one_lock}
use Rattle.vlm_locks.proofs.Sublocks.{as_many_at_most, below_of, is_below_it, sublocks_apart}
use Rattle.vlm_records.proofs.Counting.{IsApart-append}
use Rattle.vlm_store.proofs.Records.{in_a_queue}
use Rattle.vlm_locks.proofs.Rising.{none_loose}

-- ---- all locks of a process

module _ (owner pid : ℕ) (s : Records) (sound : IsSound s) (lives : IsProcess owner pid s) where
  -- there is room for each
  pub own_at_most : IsAtRest s → length (own_handles_at owner s) ≤ lock_total s
  own_at_most rest =
      as_many_at_most s (own_handles_at owner s) (handles_apart owner pid s sound lives)
      (λ at there. let here = stored_here owner pid s sound lives rest at there in (here.0, here.1.0))

  -- those that are noted are chosen
  pub own_chosen : IsAtRest s → (notes : List Note) → AreOfLocks notes s
      → touched_handles notes ≡ own_handles_at owner s → AreChosen All pid s (noted_lkids notes)
  own_chosen rest notes locks noted = record {
    rise = rise_in_order s notes locks (subst (StandById s) (sym noted) (they_rise owner pid s sound lives rest));
    each = λ lkid there.
        let t = note_of lkid notes there in
        let row = locks t.0 t.1.0 in
        let here = stored_here owner pid s sound lives rest t.0.at (subst (IsIn t.0.at) noted (handle_among notes t.0 t.1.0)) in
        (t.0.at, row.0, (row.1.0, row.1.1 ∙ t.1.1, ap (λ (x : LockState). x.pid) (one_lock s sound t.0.at row.0 here.0 row.1.0 here.1.0) ∙ here.1.1, refl));
    all = λ at row stored mine chosen.
        let t = touch_of at notes
        (subst (IsIn at) (sym (noted ∙ its_handles owner pid s sound lives)) (owned_here owner pid s sound lives at row stored mine)) in
        let its = locks t.0 t.1.0 in
        let same : its.0 ≡ row = one_lock s sound at its.0 row (subst (λ h. Stores s h its.0) t.1.1 its.1.0) stored in
        subst (λ n. IsIn n (noted_lkids notes)) (sym its.1.1 ∙ ap (λ (x : LockState). x.lkid) same) (in_map (λ (x : Note). x.number) t.0 notes t.1.0);
  }

-- ---- the locks below a lock

-- the lock has one of these as its parent
abbrev pub IsUnder : Records → List ℕ → LockState → Type 0
IsUnder s parents row = (h : ℕ) × (up : LockState) × (IsIn h parents × Stores s h up × (row.parent ≡ up.lkid))

-- a lock below the one of this ID, of its process
abbrev pub IsBelowTop : Records → ℕ → ℕ → ℕ → Type 0
IsBelowTop s pid top at = (row : LockState) × (Stores s at row × (row.pid ≡ pid) × (top < row.lkid) × (is_below 15 top (plain_resources s) row.lkid ≡ true))

-- these are the sublocks of these parents, each once
pub record AreGathered (s : Records) (pid top : ℕ) (parents handles : List ℕ) : Type 0 where
  pub each : (at : ℕ) → IsIn at handles → IsBelowTop s pid top at
  pub apart : IsApart handles
  pub under : (at : ℕ) (row : LockState) → IsIn at handles → Stores s at row → IsUnder s parents row
  pub all : (at : ℕ) (row : LockState) → Stores s at row → IsUnder s parents row → IsIn at handles

-- those of no parent are none
none_gathered : (s : Records) (pid top : ℕ) → AreGathered s pid top [] []
none_gathered s pid top = record {
  each = λ at there. absurd there;
  apart = tt;
  under = λ at row there stored. absurd there;
  all = λ at row stored under. absurd under.2.0;
}

-- what is noted is gathered: the locks before this spot are parents, and so is the top
pub record AreLevels (s : Records) (pid top at_top : ℕ) (was touched : Touches) (passed : ℕ) : Type 0 where
  pub front : List ℕ
  pub back : List ℕ
  pub split : touched_handles touched.noted ≡ front ++ back
  pub count : length front ≡ passed
  pub gathered : AreGathered s pid top (at_top ∷ front) (front ++ back)
  pub locks : AreOfLocks touched.noted s
  pub room : touched.room ≡ was.room

-- the top is the lock that is found
pub top_found : (s : Records) → IsSound s → (pid top : ℕ) → IsOwnScope (Below top) pid s → (lock : ℕ) → FindsLock s top (Some lock)
    → (row : LockState) × (Stores s lock row × (row.lkid ≡ top) × (row.pid ≡ pid))
top_found s sound pid top own lock found =
    let handle : own.1 ≡ lock = sound.lkids_apart own.1 lock own.2 found.0 (inl own.3.0) found.1.0 (own.3.1 ∙ sym found.1.1) in
    (own.2, (subst (λ h. Stores s h own.2) handle own.3.0, own.3.1, own.3.2))

-- a lock is of one process
pub one_scope : (s : Records) → IsSound s → (top pid other : ℕ) → IsOwnScope (Below top) pid s → IsOwnScope (Below top) other s → pid ≡ other
one_scope s sound top pid other own also =
    let handle : own.1 ≡ also.1 = sound.lkids_apart own.1 also.1 own.2 also.2 (inl own.3.0) (inl also.3.0) (own.3.1 ∙ sym also.3.1) in
    let same : own.2 ≡ also.2 = one_lock s sound also.1 own.2 also.2 (subst (λ h. Stores s h own.2) handle own.3.0) also.3.0 in
    sym own.3.2 ∙ ap (λ (x : LockState). x.pid) same ∙ also.3.2

module _ (s : Records) (sound : IsSound s) (rest : IsAtRest s) (pid top : ℕ) (own : IsOwnScope (Below top) pid s)
    (together : SublocksAreOwn s) (closed : SublocksGoToo (Below top) s) where
  abbrev at_top : ℕ
  at_top = own.1

  -- a lock whose sublocks are below the top
  abbrev HasChosenSublocks : ℕ → Type 0
  HasChosenSublocks h = (up : LockState) × (Stores s h up × (up.pid ≡ pid) × (top ≤ up.lkid)
      × ((at : ℕ) (row : LockState) → Stores s at row → row.parent ≡ up.lkid → is_below 15 top (plain_resources s) row.lkid ≡ true))

  -- the top is one
  of_top : HasChosenSublocks at_top
  of_top = (
    own.2,
    (
      own.3.0,
      own.3.2,
      omega (arith, own.3.1),
      λ at row stored names.
          let parent : parent_of row.lkid (plain_resources s) ≡ top = parent_named s sound at row stored ∙ names ∙ own.3.1 in
          ap (λ b. b || is_below 14 top (plain_resources s) (parent_of row.lkid (plain_resources s)))
          (eq-eqb (parent_of row.lkid (plain_resources s)) top parent),
    ),
  )

  -- and each lock below it
  of_lock : (at : ℕ) → IsBelowTop s pid top at → HasChosenSublocks at
  of_lock h below = (
    below.0,
    (below.1.0, below.1.1, omega (arith, below.1.2), λ at row stored names. closed at h row below.0 stored below.1.0 names below.1.3),
  )

  -- its sublocks are gathered too
  module _ (parents handles : List ℕ) (gathered : AreGathered s pid top parents handles) (h : ℕ) (chosen : HasChosenSublocks h) (fresh : ¬ IsIn h parents) where
    abbrev up : LockState
    up = chosen.0

    not_0 : up.lkid ≢ 0
    not_0 is = own.0 (omega (arith, is, chosen.1.2))

    sublock : (at : ℕ) → IsIn at (sublocks_at h s) → (row : LockState) × (Stores s at row × (row.parent ≡ up.lkid))
    sublock at there =
        let below = below_of s sound h rest at there in
        (below.1, (below.2.1, below.2.2 ∙ ap (λ (x : LockState). x.lkid) (one_lock s sound h below.0 up below.2.0 chosen.1.0)))

    one_parent_more : AreGathered s pid top (parents ++ h ∷ []) (handles ++ sublocks_at h s)
    one_parent_more = record {
      each = λ at there. elim (in_either at handles (sublocks_at h s) there) [
        | inl before ↦ gathered.each at before
        | inr behind ↦
            (let below = sublock at behind in (
              below.0,
              (
                below.1.0,
                together at h below.0 up below.1.0 chosen.1.0 below.1.1 ∙ chosen.1.1,
                omega (arith, chosen.1.2, parents_come_first s sound rest at h below.0 up below.1.0 chosen.1.0 (λ is. not_0 (sym below.1.1 ∙ is)) below.1.1),
                chosen.1.3 at below.0 below.1.0 below.1.1,
              ),
            ))
      ];
      apart =
          IsApart-append handles (sublocks_at h s) gathered.apart (sublocks_apart s sound h rest)
          (λ at before behind.
          let below = sublock at behind in
          let under = gathered.under at below.0 before below.1.0 in
          fresh (subst (λ k. IsIn k parents) (sound.lkids_apart under.0 h under.1 up (inl under.2.1) (inl chosen.1.0) (sym under.2.2 ∙ below.1.1)) under.2.0));
      under = λ at row there stored. elim (in_either at handles (sublocks_at h s) there) [
        | inl before ↦
            (let under = gathered.under at row before stored in
            (under.0, under.1, (IsIn-push_kept h under.0 parents under.2.0, under.2.1, under.2.2)))
        | inr behind ↦
            (let below = sublock at behind in
            (h, up, (IsIn-push_last h parents, chosen.1.0, ap (λ (x : LockState). x.parent) (one_lock s sound at row below.0 stored below.1.0) ∙ below.1.1)))
      ];
      all = λ at row stored under. elim (IsIn-push h under.0 parents under.2.0) [
        | inl before ↦ in_ahead at handles (sublocks_at h s) (gathered.all at row stored (under.0, under.1, (before, under.2.1, under.2.2)))
        | inr same ↦
            (let names : row.parent ≡ up.lkid =
            under.2.2 ∙ ap (λ (x : LockState). x.lkid) (one_lock s sound h under.1 up (subst (λ k. Stores s k under.1) (sym same) under.2.1) chosen.1.0) in
            in_behind at handles (sublocks_at h s) (is_below_it s sound h rest at up row chosen.1.0 stored (λ is. not_0 (sym names ∙ is)) names))
      ];
    }

  -- there is room for all that are gathered
  gathered_fit : (parents handles : List ℕ) → AreGathered s pid top parents handles → length handles ≤ lock_total s
  gathered_fit parents handles gathered =
      as_many_at_most s handles gathered.apart (λ at there. let below = gathered.each at there in (below.0, below.1.0))

  -- the sublocks of the top
  first_gathered : AreGathered s pid top (at_top ∷ []) (sublocks_at at_top s)
  first_gathered = one_parent_more [] [] (none_gathered s pid top) at_top of_top (λ none. none)

  pub first_fits : length (sublocks_at at_top s) ≤ lock_total s
  first_fits = gathered_fit (at_top ∷ []) (sublocks_at at_top s) first_gathered

  -- at first they are noted
  pub first_level : (was touched : Touches) → was.noted ≡ [] → touched_handles touched.noted ≡ touched_handles was.noted ++ sublocks_at at_top s
      → AreOfLocks touched.noted s → touched.room ≡ was.room → AreLevels s pid top at_top was touched 0
  first_level was touched none noted locks room = record {
    front = [];
    back = sublocks_at at_top s;
    split = noted ∙ ap (λ (ts : List Note). touched_handles ts ++ sublocks_at at_top s) none;
    count = refl;
    gathered = first_gathered;
    locks = locks;
    room = room;
  }

  -- ---- a turn

  module _ (was touched : Touches) (passed : ℕ) (so_far : AreLevels s pid top at_top was touched passed) (within : passed < length touched.noted)
      (t : Note) (is : t ≡ get_or touched.noted passed t) where
    there : (others : List ℕ) × (so_far.back ≡ t.at ∷ others)
    there = handle_there so_far.front so_far.back touched.noted passed t so_far.split so_far.count within is

    listed : IsIn t.at (so_far.front ++ so_far.back)
    listed = in_behind t.at so_far.front so_far.back (subst (IsIn t.at) (sym there.1) (inl refl))

    below : IsBelowTop s pid top t.at
    below = so_far.gathered.each t.at listed

    pub lock_stored : IsStored t.at s
    lock_stored = (below.0, below.1.0)

    fresh : ¬ IsIn t.at (at_top ∷ so_far.front)
    fresh here = elim here [
      | inl same ↦
          (let row : below.0 ≡ own.2 = one_lock s sound t.at below.0 own.2 below.1.0 (subst (λ k. Stores s k own.2) same own.3.0) in
          absurd (omega (arith, below.1.2, ap (λ (x : LockState). x.lkid) row, own.3.1)))
      | inr before ↦ absent_before so_far.front t.at there.0 (subst (λ hs. IsApart (so_far.front ++ hs)) there.1 so_far.gathered.apart) before
    ]

    more : AreGathered s pid top ((at_top ∷ so_far.front) ++ t.at ∷ []) ((so_far.front ++ so_far.back) ++ sublocks_at t.at s)
    more = one_parent_more (at_top ∷ so_far.front) (so_far.front ++ so_far.back) so_far.gathered t.at (of_lock t.at below) fresh

    -- there is room for its sublocks
    pub sublocks_fit : lock_total s ≤ was.room → length touched.noted + length (sublocks_at t.at s) ≤ touched.room
    sublocks_fit room =
        omega (
          arith,
          room,
          so_far.room,
          gathered_fit ((at_top ∷ so_far.front) ++ t.at ∷ []) ((so_far.front ++ so_far.back) ++ sublocks_at t.at s) more,
          length-append (so_far.front ++ so_far.back) (sublocks_at t.at s),
          ap (λ (hs : List ℕ). length hs) so_far.split,
          length-map touched.noted (λ (x : Note). x.at),
        )

    -- there is a lock for each that is passed
    pub passes_one : passed < lock_total s
    passes_one =
        omega (
          arith,
          within,
          gathered_fit (at_top ∷ so_far.front) (so_far.front ++ so_far.back) so_far.gathered,
          ap (λ (hs : List ℕ). length hs) so_far.split,
          length-map touched.noted (λ (x : Note). x.at),
        )

    -- its sublocks are noted behind the others
    pub next_level : (noted : Touches) → touched_handles noted.noted ≡ touched_handles touched.noted ++ sublocks_at t.at s → AreOfLocks noted.noted s
        → noted.room ≡ touched.room → AreLevels s pid top at_top was noted (passed + 1)
    next_level noted handles locks room = record {
      front = so_far.front ++ t.at ∷ [];
      back = there.0 ++ sublocks_at t.at s;
      split = handles ∙ ap (λ hs. hs ++ sublocks_at t.at s) so_far.split ∙ whole;
      count = omega (arith, so_far.count, length-append so_far.front (t.at ∷ []));
      gathered = subst (AreGathered s pid top (at_top ∷ (so_far.front ++ t.at ∷ []))) whole more;
      locks = locks;
      room = room ∙ so_far.room;
    }
      where
        whole : (so_far.front ++ so_far.back) ++ sublocks_at t.at s ≡ (so_far.front ++ t.at ∷ []) ++ (there.0 ++ sublocks_at t.at s)
        whole =
            ap (λ hs. (so_far.front ++ hs) ++ sublocks_at t.at s) there.1
            ∙ append_assoc so_far.front (t.at ∷ there.0) (sublocks_at t.at s)
            ∙ sym (append_assoc so_far.front (t.at ∷ []) (there.0 ++ sublocks_at t.at s))

  -- ---- at the end

  -- no lock is below one that has none above it
  none_below_0 : (levels : ℕ) → is_below levels top (plain_resources s) 0 ≡ false
  none_below_0 levels = below_no_other (plain_resources s) levels top 0 no_parent (λ same. own.0 (sym same))
    where
      no_parent : parent_of 0 (plain_resources s) ≡ 0
      no_parent = elim (somewhere_or_not s sound 0) [
        | inr none ↦ parent_nowhere s sound 0 none
        | inl some ↦
            (let is : parent_of 0 (plain_resources s) ≡ some.1.parent =
            ap (λ n. parent_of n (plain_resources s)) (sym some.2.1)
            ∙ parent_named s sound some.0 some.1 some.2.0 in
            elim (cases_eq some.1.parent 0) [
              | inl root ↦ is ∙ root
              | inr has ↦
                  (let parent = sound.owned.named some.0 some.1 (inl some.2.0) has in
                  absurd (omega (
                    arith,
                    some.2.1,
                    parents_come_first s sound rest some.0 parent.1.at some.1 parent.2 some.2.0
                        (in_a_queue s (none_loose s rest.rising) parent.1.at parent.2 parent.3.3) has (sym parent.3.4),
                  )))
            ])
      ]

  -- where the sublocks of all are gathered, each lock below the top is
  each_below : (handles : List ℕ) → AreGathered s pid top (at_top ∷ handles) handles → (levels at : ℕ) (row : LockState) → Stores s at row
      → is_below levels top (plain_resources s) row.lkid ≡ true → IsIn at handles
  each_below handles gathered zero at row stored below = cc
  each_below handles gathered (suc levels) at row stored below =
      let parent : parent_of row.lkid (plain_resources s) ≡ row.parent = parent_named s sound at row stored in
      elim (or_cases (parent_of row.lkid (plain_resources s) == top) (is_below levels top (plain_resources s) (parent_of row.lkid (plain_resources s))) below) [
        | inl here ↦
            gathered.all at row stored
            (at_top, own.2, (inl refl, own.3.0, sym parent ∙ eqb-true (parent_of row.lkid (plain_resources s)) top here ∙ sym own.3.1))
        | inr above ↦ elim (cases_eq row.parent 0) [
          | inl root ↦
              (let never : true ≡ false = sym above ∙ ap (is_below levels top (plain_resources s)) (parent ∙ root) ∙ none_below_0 levels in
              cc)
          | inr has ↦
              (let named = sound.owned.named at row (inl stored) has in
              let up_stored = in_a_queue s (none_loose s rest.rising) named.1.at named.2 named.3.3 in
              let in_handles : IsIn named.1.at handles =
              each_below handles gathered levels named.1.at named.2 up_stored (ap (is_below levels top (plain_resources s)) (named.3.4 ∙ sym parent) ∙ above) in
              gathered.all at row stored (named.1.at, named.2, (inr in_handles, up_stored, sym named.3.4)))
        ]
      ]

  module _ (was touched : Touches) (passed : ℕ) (so_far : AreLevels s pid top at_top was touched passed) (over : length touched.noted ≤ passed) where
    none_left : so_far.back ≡ []
    none_left = none (so_far.back) (omega (
      arith,
      over,
      so_far.count,
      length-append so_far.front so_far.back,
      ap (λ (hs : List ℕ). length hs) so_far.split,
      length-map touched.noted (λ (x : Note). x.at),
    ))
      where
        none : (xs : List ℕ) → length xs ≡ 0 → xs ≡ []
        none [] is = refl
        none (x ∷ xs) is = absurd (omega (arith, is))

    whole : so_far.front ++ so_far.back ≡ so_far.front
    whole = ap (λ hs. so_far.front ++ hs) none_left ∙ append-nil so_far.front

    all_gathered : AreGathered s pid top (at_top ∷ so_far.front) so_far.front
    all_gathered = subst (AreGathered s pid top (at_top ∷ so_far.front)) whole so_far.gathered

    handles_are : touched_handles touched.noted ≡ so_far.front
    handles_are = so_far.split ∙ whole

    -- in order the notes are those of the chosen locks
    pub below_chosen : (ordered : List Note) → RiseByNumber ordered → ((t : Note) → IsIn t ordered → IsIn t touched.noted)
        → ((t : Note) → IsIn t touched.noted → IsNoted t.number ordered) → AreChosen (Below top) pid s (noted_lkids ordered)
    below_chosen ordered rise within each = record {
      rise = rise_noted ordered rise;
      each = λ lkid there.
          let t = note_of lkid ordered there in
          let was_there = within t.0 t.1.0 in
          let row = so_far.locks t.0 was_there in
          let its = all_gathered.each t.0.at (subst (IsIn t.0.at) handles_are (handle_among touched.noted t.0 was_there)) in
          let same : its.0 ≡ row.0 = one_lock s sound t.0.at its.0 row.0 its.1.0 row.1.0 in (
            t.0.at,
            its.0,
            (
              its.1.0,
              ap (λ (x : LockState). x.lkid) same ∙ row.1.1 ∙ t.1.1,
              its.1.1,
              ap (is_below 15 top (plain_resources s)) (sym (ap (λ (x : LockState). x.lkid) same ∙ row.1.1 ∙ t.1.1)) ∙ its.1.3,
            ),
          );
      all = λ at row stored mine chosen.
          let t = touch_of at touched.noted (subst (IsIn at) (sym handles_are) (each_below so_far.front all_gathered 15 at row stored chosen)) in
          let its = so_far.locks t.0 t.1.0 in
          let same : its.0 ≡ row = one_lock s sound at its.0 row (subst (λ h. Stores s h its.0) t.1.1 its.1.0) stored in
          let left = each t.0 t.1.0 in
          subst (λ n. IsIn n (noted_lkids ordered)) (left.1.1 ∙ sym its.1.1 ∙ ap (λ (x : LockState). x.lkid) same)
          (in_map (λ (x : Note). x.number) left.0 ordered left.1.0);
    }
