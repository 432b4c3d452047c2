-- Locks that are given up together go, the last first.
use Rattle.std.proofs.Common.{◌≡◌, ◌≢◌, ◌<◌, ◌+◌, ℕ, zero, suc, Bool, true, false, List, [], ◌∷◌, ◌++◌, length, get_or}
use Rattle.std.proofs.Common.{refl, sym, ap, ◌∙◌, subst, inl, inr, arith}
use Rattle.std.proofs.lemmas.List.{append_assoc, append-nil, length-append, map-append}
use Rattle.std.proofs.lemmas.Bool.{cases_Bool}
use Rattle.vlm_words.specs.declared.locks.LockState.{LockState}
use Rattle.vlm_model.specs.Withdrawals.{Withdrawal}
use Rattle.vlm_collections.specs.Lists.{IsIn}
use Rattle.vlm_store.specs.Records.{HasNoSublocks, IsProcess, IsSound, IsStored, Records, Stores, locks_at, own_handles_at}
use Rattle.vlm_locks.specs.declared.located_locks.LocatedLock.{LocatedLock}
use Rattle.vlm_locks.specs.declared.touched.Note.{Note}
use Rattle.vlm_locks.specs.GivingUp.{AreGone, AreOfLocks, CanGo, IsPaidBut, Rise, noted_lkids}
use Rattle.vlm_locks.specs.Left.{is_among}
use Rattle.vlm_locks.specs.Owing.{LosesOne}
use Rattle.vlm_locks.specs.RunningDown.{CanEndProcesses}
use Rattle.vlm_locks.specs.Touched.{Touches, touched_handles}
use Rattle.vlm_locks.specs.Withdrawing.{owned_after}
use Rattle.vlm_locks.proofs.ChosenLocks.{among_in, in_among}
use Rattle.vlm_locks.proofs.EndsTogether.{below_later}
use Rattle.vlm_locks.proofs.RunsDown.{AreGoing, IsTurn, among_others, gone, its_handles, next_turn, none_goes, one_were_there, owned_here}
use Rattle.vlm_locks.proofs.GrantsKeepResources.{among_without}
use Rattle.vlm_locks.proofs.QueuedLocks.{one_lock}
use Rattle.vlm_locks.proofs.ReservedWithoutEnded.{paid_whole, paid_without}
use Rattle.vlm_collections.proofs.HandleLists.{in_ahead, in_behind, in_either, in_map, none_in}
use Rattle.vlm_store.proofs.Records.{in_a_queue}
use Rattle.vlm_locks.proofs.Rising.{none_loose}

-- nothing is noted, in the same room
abbrev pub no_notes : Touches → Touches
no_notes before = record { noted = []; room = before.room }

-- the locks are gone but for so many as this, the first, and in the place of each that is gone its resource is noted
pub record AreLeaving (invalidates : Bool) (owner pid : ℕ) (old s : Records) (before now : Touches) (many : ℕ) : Type 0 where
  pub front : List Note
  pub passed : List Note
  pub resources : List Note
  pub had : before.noted ≡ front ++ passed
  pub split : now.noted ≡ front ++ resources
  pub count : length front ≡ many
  pub touched : Touches
  pub going : AreGoing (is_among (noted_lkids before.noted)) invalidates owner pid old s (no_notes before) touched
  pub same_room : now.room ≡ touched.room
  pub as_many : length resources ≡ length touched.noted
  pub each : (t : Note) → IsIn t resources → IsIn t touched.noted
  pub all : (t : Note) → IsIn t touched.noted → IsIn t resources
  pub paid : IsPaidBut (noted_lkids before.noted) s
  pub stay : AreOfLocks front s
  pub left : (at : ℕ) (row : LockState) → Stores s at row → IsIn row.lkid (noted_lkids before.noted) → IsIn row.lkid (noted_lkids front)

-- at first none is
pub none_is_gone : (invalidates : Bool) (owner pid : ℕ) (s : Records) (before : Touches) → IsProcess owner pid s → IsSound s → CanGo pid before s
    → AreLeaving invalidates owner pid s s before before (length before.noted)
none_is_gone invalidates owner pid s before lives sound can_go = record {
  front = before.noted;
  passed = [];
  resources = [];
  had = sym (append-nil before.noted);
  split = sym (append-nil before.noted);
  count = refl;
  touched = no_notes before;
  going = record {
    resources = refl;
    statuses = refl;
    lives = lives;
    sound = sound;
    together = can_go.together;
    granted = can_go.granted;
    were_there = λ place k there. there;
    rest = can_go.rest;
    noted = λ t there. absurd there;
    only_touched = λ r there untouched. there;
    room = omega (arith, can_go.room);
    kept = λ t there. there;
    same_room = refl;
  };
  same_room = refl;
  as_many = refl;
  each = λ t there. there;
  all = λ t there. there;
  paid = can_go.paid;
  stay = can_go.locks;
  left = λ at row stored there. there;
}

-- the last of some notes
last_of : (notes : List Note) (many : ℕ) → length notes ≡ many + 1 → (init : List Note) × (last : Note) × ((notes ≡ init ++ last ∷ []) × (length init ≡ many))
last_of [] many is = absurd (omega (arith, is))
last_of (x ∷ []) many is = ([], x, (refl, omega (arith, is)))
last_of (x ∷ y ∷ notes) zero is = absurd (omega (arith, is))
last_of (x ∷ y ∷ notes) (suc many) is =
    let rest = last_of (y ∷ notes) many (omega (arith, is)) in
    (x ∷ rest.0, rest.1, (ap (λ (ts : List Note). x ∷ ts) rest.2.0, omega (arith, rest.2.1)))

-- as many are left by another name
pub leaving_by : {invalidates : Bool} {owner pid : ℕ} {old s : Records} {before now : Touches} {many : ℕ} (other : ℕ) → many ≡ other
    → AreLeaving invalidates owner pid old s before now many → AreLeaving invalidates owner pid old s before now other
leaving_by {invalidates} {owner} {pid} {old} {s} {before} {now} other same = subst (AreLeaving invalidates owner pid old s before now) same

-- ---- a turn

module _ {invalidates : Bool} {owner pid : ℕ} {old s : Records} {before now : Touches} (many : ℕ)
    (so_far : AreLeaving invalidates owner pid old s before now (many + 1)) (can_go : CanGo pid before old) where
  lkids : List ℕ
  lkids = noted_lkids before.noted

  going : AreGoing (is_among (noted_lkids before.noted)) invalidates owner pid old s (no_notes before) so_far.touched
  going = so_far.going

  pub parted : (init : List Note) × (last : Note) × ((so_far.front ≡ init ++ last ∷ []) × (length init ≡ many))
  parted = last_of so_far.front many so_far.count

  abbrev pub init : List Note
  init = parted.0

  abbrev pub last : Note
  last = parted.1

  -- the last is noted on this spot
  pub split_now : now.noted ≡ init ++ last ∷ so_far.resources
  split_now = so_far.split ∙ ap (λ ts. ts ++ so_far.resources) parted.2.0 ∙ append_assoc init (last ∷ []) so_far.resources

  had_whole : before.noted ≡ init ++ last ∷ so_far.passed
  had_whole = so_far.had ∙ ap (λ ts. ts ++ so_far.passed) parted.2.0 ∙ append_assoc init (last ∷ []) so_far.passed

  pub count_now : many ≡ length init
  count_now = sym parted.2.1

  -- it is the note on this spot
  pub note_is : (t : Note) → t ≡ get_or now.noted many t → t ≡ last
  note_is t is = is ∙ ap (λ ts. get_or ts many t) split_now ∙ ap (λ n. get_or (init ++ last ∷ so_far.resources) n t) count_now ∙ behind init
    where
      behind : (ts : List Note) → get_or (ts ++ last ∷ so_far.resources) (length ts) t ≡ last
      behind [] = refl
      behind (x ∷ ts) = behind ts

  last_in : IsIn last so_far.front
  last_in = subst (IsIn last) (sym parted.2.0) (in_behind last init (last ∷ []) (inl refl))

  pub lock_stored : IsStored last.at s
  lock_stored = let row = so_far.stay last last_in in (row.0, row.1.0)

  listed_last : IsIn last.number (noted_lkids before.noted)
  listed_last =
      subst (λ ts. IsIn last.number (noted_lkids ts)) (sym had_whole)
      (in_map (λ (t : Note). t.number) last (init ++ last ∷ so_far.passed) (in_behind last init (last ∷ so_far.passed) (inl refl)))

  were : (at : ℕ) (row : LockState) → Stores s at row → Stores old at row
  were at row stored = (stored.0, going.were_there stored.0 (record { at = at; row = row }) stored.1)

  -- each before it is below it
  before_last : (n : ℕ) → IsIn n (noted_lkids init) → n < last.number
  before_last n there =
      below_later (noted_lkids init) last.number (noted_lkids so_far.passed)
      (subst Rise (ap noted_lkids had_whole ∙ map-append (λ (t : Note). t.number) init (last ∷ so_far.passed)) can_go.rise) n there

  module _ (row : LockState) (stored : Stores s last.at row) where
    named : row.lkid ≡ last.number
    named =
        let its = so_far.stay last last_in in
        ap (λ (x : LockState). x.lkid) (one_lock s going.sound last.at row its.0 stored its.1.0) ∙ its.1.1

    listed : IsIn row.lkid (noted_lkids before.noted)
    listed = subst (λ n. IsIn n (noted_lkids before.noted)) (sym named) listed_last

    -- it is one of those that go, and of the process
    pub it_goes : is_among (noted_lkids before.noted) row ≡ true
    it_goes = in_among row (noted_lkids before.noted) listed

    pub it_is_own : IsIn last.at (own_handles_at owner s)
    it_is_own =
        subst (IsIn last.at) (sym (its_handles owner pid s going.sound going.lives))
        (owned_here owner pid s going.sound going.lives last.at row stored (can_go.own last.at row (were last.at row stored) listed))

    -- its sublocks are gone
    pub no_sublocks : HasNoSublocks last.at s
    no_sublocks p own in_p in_own same = none_in own.sublocks none_below
      where
        none_below : (sub : ℕ) → IsIn sub own.sublocks → ⊥
        none_below sub there =
            let below = going.sound.owned.below p own sub in_p in_own there in
            let up : LockState = below.0 in
            let its : LockState = below.1 in
            let none = none_loose s going.rest.rising in
            let sub_stored : Stores s sub its = in_a_queue s none sub its below.2.1 in
            let up_stored : Stores s own.at up = in_a_queue s none own.at up below.2.0 in
            let above : Stores s last.at up = subst (λ h. Stores s h up) same up_stored in
            let is : up.lkid ≡ row.lkid = ap (λ (x : LockState). x.lkid) (one_lock s going.sound last.at up row above stored) in
            let older = ((going.rest.rising p in_p).sublocks own in_own).0 sub there up its up_stored sub_stored in
            let goes : IsIn its.lkid (noted_lkids so_far.front) =
            so_far.left sub its sub_stored
            (can_go.closed sub last.at its up (were sub its sub_stored) (were last.at up above) below.2.2
            (subst (λ n. IsIn n (noted_lkids before.noted)) (sym is) listed)) in
            elim (in_either its.lkid (noted_lkids init) (last.number ∷ [])
            (subst (IsIn its.lkid) (ap noted_lkids parted.2.0 ∙ map-append (λ (t : Note). t.number) init (last ∷ [])) goes)) [
              | inl earlier ↦ omega (arith, before_last its.lkid earlier, older, is, named)
              | inr later ↦ elim later [
                | inl here ↦ omega (arith, here, older, is, named)
                | inr none ↦ none
              ]
            ]

    -- it goes
    module _ (new : Records) (noted : Touches) (then : Touches) (f : LocatedLock) (w : Withdrawal)
        (turn : IsTurn (is_among (noted_lkids before.noted)) invalidates owner s new so_far.touched noted f w)
        (same : f.lock ≡ last.at) (its : f.row ≡ row) (own : new.processes ≡ owned_after true f.lock s.processes)
        (loses : LosesOne (record { at = f.lock; row = f.row }) s new)
        (touch : Note) (as_noted : noted.noted ≡ so_far.touched.noted ++ touch ∷ [])
        (put : then.noted ≡ init ++ touch ∷ so_far.resources) (room : then.room ≡ now.room) where
      was_there : (at : ℕ) (x : LockState) → Stores new at x → Stores s at x
      was_there at x there =
          (there.0, one_were_there s new going.sound turn.sound f turn.located turn.beside turn.own_locks there.0 (record { at = at; row = x }) there.1)

      others_stay : (at : ℕ) (x : LockState) → at ≢ last.at → Stores s at x → Stores new at x
      others_stay at x differs there = (
        there.0,
        among_without f.lock (record { at = at; row = x }) (locks_at there.0 new)
            (subst (IsIn (record { at = at; row = x })) (sym (turn.beside.locks there.0))
            (among_others f.lock (record { at = at; row = x }) (locks_at there.0 s) (λ e. differs (e ∙ same)) there.1)),
      )

      pub went : AreLeaving invalidates owner pid old new before then many
      went = record {
        front = init;
        passed = last ∷ so_far.passed;
        resources = touch ∷ so_far.resources;
        had = had_whole;
        split = put;
        count = parted.2.1;
        touched = noted;
        going = next_turn (is_among (noted_lkids before.noted)) invalidates owner pid old s new (no_notes before) so_far.touched noted f w going turn;
        same_room = room ∙ so_far.same_room ∙ sym turn.room;
        as_many =
            omega (
              arith,
              so_far.as_many,
              ap (λ (ts : List Note). length ts) as_noted,
              length-append so_far.touched.noted (touch ∷ []),
            );
        each = λ t there. subst (IsIn t) (sym as_noted)
            (elim there [
              | inl here ↦ in_behind t so_far.touched.noted (touch ∷ []) (inl here)
              | inr later ↦ in_ahead t so_far.touched.noted (touch ∷ []) (so_far.each t later)
            ]);
        all = λ t there. elim (in_either t so_far.touched.noted (touch ∷ []) (subst (IsIn t) as_noted there)) [
          | inl earlier ↦ inr (so_far.all t earlier)
          | inr here ↦ elim here [ inl is ↦ inl is | inr none ↦ absurd none ]
        ];
        paid = paid_without (noted_lkids before.noted) s new f.lock f.row turn.its loses own so_far.paid;
        stay = λ t there.
            let was = so_far.stay t (subst (IsIn t) (sym parted.2.0) (in_ahead t init (last ∷ []) there)) in
            let lower = before_last t.number (in_map (λ (x : Note). x.number) t init there) in (
              was.0,
              (
                others_stay t.at was.0
                    (λ e. let here : was.0 ≡ row = one_lock s going.sound last.at was.0 row (subst (λ h. Stores s h was.0) e was.1.0) stored in
                    omega (arith, lower, was.1.1, ap (λ (x : LockState). x.lkid) here, named))
                    was.1.0,
                was.1.1,
              ),
            );
        left = λ at x there listed_x.
            elim (in_either x.lkid (noted_lkids init) (last.number ∷ [])
            (subst (IsIn x.lkid) (ap noted_lkids parted.2.0 ∙ map-append (λ (t : Note). t.number) init (last ∷ []))
            (so_far.left at x (was_there at x there) listed_x))) [
              | inl earlier ↦ earlier
              | inr later ↦ elim later [
                | inr none ↦ absurd none
                | inl here ↦
                    (let handle : at ≡ f.lock = going.sound.lkids_apart at last.at x row (inl (was_there at x there))
                    (inl stored) (sym here ∙ sym named) ∙ sym same in
                    absurd (gone s new going.sound turn.sound f turn.located turn.beside turn.own_locks x (subst (λ h. Stores new h x) handle there)))
              ]
            ];
      }

-- ---- at the end

module _ {invalidates : Bool} {owner pid : ℕ} {old s : Records} {before now : Touches} (many : ℕ)
    (so_far : AreLeaving invalidates owner pid old s before now many) (over : many ≡ 0) where
  none_in_front : so_far.front ≡ []
  none_in_front = none so_far.front (omega (arith, so_far.count, over))
    where
      none : (ts : List Note) → length ts ≡ 0 → ts ≡ []
      none [] is = refl
      none (t ∷ ts) is = absurd (omega (arith, is))

  none_listed : (at : ℕ) (row : LockState) → Stores s at row → is_among (noted_lkids before.noted) row ≡ false
  none_listed at row stored = elim (cases_Bool (is_among (noted_lkids before.noted) row)) [
    | inr other ↦ other
    | inl listed ↦
        absurd (subst (λ ts. IsIn row.lkid (noted_lkids ts)) none_in_front (so_far.left at row stored (among_in row (noted_lkids before.noted) listed)))
  ]

  resources_alone : now.noted ≡ so_far.resources
  resources_alone = so_far.split ∙ ap (λ ts. ts ++ so_far.resources) none_in_front

  handle_kept : (at : ℕ) (xs ys : List Note) → ((t : Note) → IsIn t xs → IsIn t ys) → IsIn at (touched_handles xs) → IsIn at (touched_handles ys)
  handle_kept at [] ys within there = absurd there
  handle_kept at (x ∷ xs) ys within there = elim there [
    | inl here ↦ subst (λ h. IsIn h (touched_handles ys)) here (in_map (λ (t : Note). t.at) x ys (within x (inl refl)))
    | inr later ↦ handle_kept at xs ys (λ t later_t. within t (inr later_t)) later
  ]

  -- all of them are gone
  pub all_gone : AreGone (noted_lkids before.noted) invalidates old s (no_notes before) now
  all_gone = record {
    left = record {
      resources = sym (none_goes s so_far.going.sound (is_among (noted_lkids before.noted)) invalidates none_listed) ∙ so_far.going.resources;
      kept = λ t there. absurd there;
      only_touched = λ r there untouched.
          so_far.going.only_touched r there
          (λ noted. untouched (subst (λ ts. IsIn r.at (touched_handles ts)) (sym resources_alone)
          (handle_kept r.at so_far.touched.noted so_far.resources so_far.all noted)));
      same_room = so_far.same_room ∙ so_far.going.same_room;
    };
    statuses = so_far.going.statuses;
  }

  pub can_end_still : CanEndProcesses now s
  can_end_still = record {
    rest = so_far.going.rest;
    together = so_far.going.together;
    granted = so_far.going.granted;
    paid = paid_whole (noted_lkids before.noted) s so_far.going.sound none_listed so_far.paid;
    noted = λ t there. so_far.going.noted t (so_far.each t (subst (IsIn t) resources_alone there));
    room = omega (arith, so_far.going.room, so_far.same_room, so_far.as_many, ap (λ (ts : List Note). length ts) resources_alone);
  }
