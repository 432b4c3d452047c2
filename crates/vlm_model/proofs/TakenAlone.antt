-- A dequeue of one lock takes it and aborts its request. A cancel, or a search that ends a request, leaves a converting
-- lock granted as it held.
use Rattle.std.proofs.Common.{◌≡◌, ◌⊎◌, ℕ, Bool, true, false, not, List, [], ◌∷◌, ◌++◌, map, flat_map, cond, Option}
use Rattle.std.proofs.Common.{None, Some, inl, inr, refl, sym, ap, subst, ◌∙◌}
use Rattle.std.specs.Prelude.{◌==◌, All, Any}
use Rattle.std.specs.List.{AllByRecursion, AllZip}
use Rattle.std.proofs.lemmas.Bool.{eqb-true, eqb-false}
use Rattle.std.proofs.lemmas.List.Elements.{All-from_recursion}
use Rattle.vlm_words.specs.declared.locks.Request.{Request}
use Rattle.vlm_words.specs.declared.locks.LockState.{LockState}
use Rattle.vlm_words.specs.declared.steps.Dequeue.{Dequeue}
use Rattle.vlm_words.specs.Flags.{cancel, deqall, has_flag}
use Rattle.vlm_words.specs.Rows.{rows_of, rows_without}
use Rattle.vlm_words.specs.State.{Resource, State}
use Rattle.vlm_model.specs.Dequeue.{conversion_ending, deq_change, dequeue_lkid, withdrawal_of}
use Rattle.vlm_model.specs.Endings.{Ending, How, row_endings, wanted_endings}
use Rattle.vlm_model.specs.Endings.How.{by_abort, by_deadlock}
use Rattle.vlm_model.specs.Search.{deadlock_of, search_change}
use Rattle.vlm_model.specs.Withdrawals.{Withdrawal, is_held_by_writer, queue_endings, resource_after_cancel}
use Rattle.vlm_model.specs.Withdrawals.{resource_after_going, resource_after_withdrawals, resource_after_writer}
use Rattle.vlm_model.specs.Withdrawals.{resource_without, row_after_cancel, value_block_after_writer}
use Rattle.vlm_model.specs.Withdrawals.{withdrawal_endings, withdrawn_endings}
use Rattle.vlm_model.proofs.Each.{Any-here, Any-there, each_append, each_weaker}
use Rattle.vlm_model.proofs.Keys.{withdrawals_keep_place}
use Rattle.vlm_model.proofs.EndedLocks.{AllGo, RowsLeft, rows_left_behind}
use Rattle.vlm_model.proofs.TakenBelow.{taken_lkids}
use Rattle.vlm_model.proofs.Withdrawing.{each_end}
use Rattle.vlm_model.specs.TakenAlone.{CancelsItsRequest, EndsItsVictim, GivesAsHeld, IsCancelled, LosesLock}
use Rattle.vlm_model.specs.TakenAlone.{LosesThisLock, LosesThisRequest, TakesItsLock, empty_gives, empty_stays}
use Rattle.vlm_model.specs.TakenAlone.{lock_goes, lock_is_given, other_is_not, other_stays}

-- ---- the rows of a queue

-- the rows except this lock's
loses : (lkid : ℕ) (rows : List LockState) → LosesLock lkid rows (rows_without lkid rows)
loses lkid [] = empty_stays
loses lkid (row ∷ rows) = of_test (row.lkid == lkid) refl (loses lkid rows)
  where
    of_test : (b : Bool) → (row.lkid == lkid) ≡ b → LosesLock lkid rows (rows_without lkid rows)
        → LosesLock lkid (row ∷ rows) (cond (not b) (row ∷ rows_without lkid rows) (rows_without lkid rows))
    of_test true is behind = lock_goes (eqb-true row.lkid lkid is) behind
    of_test false is behind = other_stays (eqb-false row.lkid lkid is) behind

-- the rows of this lock, wanting nothing
gives : (lkid : ℕ) (rows : List LockState) → GivesAsHeld lkid rows (map row_after_cancel (rows_of lkid rows))
gives lkid [] = empty_gives
gives lkid (row ∷ rows) = of_test (row.lkid == lkid) refl (gives lkid rows)
  where
    of_test : (b : Bool) → (row.lkid == lkid) ≡ b → GivesAsHeld lkid rows (map row_after_cancel (rows_of lkid rows))
        → GivesAsHeld lkid (row ∷ rows) (map row_after_cancel (cond b (row ∷ rows_of lkid rows) (rows_of lkid rows)))
    of_test true is behind =
        lock_is_given (eqb-true row.lkid lkid is)
        (record { lkid = refl; pid = refl; parent = refl; held = refl; wants_nothing = refl; armed = refl }) behind
    of_test false is behind = other_is_not (eqb-false row.lkid lkid is) behind

-- ---- one resource

-- a lock that goes
goes_from : (w : Withdrawal) → AllGo (w ∷ []) → (r : Resource) → LosesThisLock w.lkid r (resource_after_withdrawals (w ∷ []) r)
goes_from w go r =
    let left : RowsLeft (w ∷ []) r (resource_after_withdrawals (w ∷ []) r) = rows_left_behind (w ∷ []) go r in
    record {
      same = withdrawals_keep_place (w ∷ []) r;
      granted = subst (LosesLock w.lkid r.granted) (sym left.granted) (loses w.lkid r.granted);
      converting = subst (LosesLock w.lkid r.converting) (sym left.converting) (loses w.lkid r.converting);
      waiting = subst (LosesLock w.lkid r.waiting) (sym left.waiting) (loses w.lkid r.waiting);
    }

all_go_from : (w : Withdrawal) → AllGo (w ∷ []) → (resources : List Resource)
    → AllZip (LosesThisLock w.lkid) resources (map (resource_after_withdrawals (w ∷ [])) resources)
all_go_from w go [] = tt
all_go_from w go (r ∷ rest) = (goes_from w go r, all_go_from w go rest)

-- a lock whose request ends, and that stays if it converts
request_leaves : (w : Withdrawal) → w.stays ≡ true → (r : Resource) → LosesThisRequest w.lkid r (resource_after_withdrawals (w ∷ []) r)
unfolding resource_after_cancel resource_without
request_leaves w stays r =
    of_writer (is_held_by_writer w.lkid r) refl
  where
    cancelled : (written : Resource) → written.granted ≡ r.granted → written.converting ≡ r.converting → written.waiting ≡ r.waiting
        → resource_after_writer w r ≡ written → LosesThisRequest w.lkid r (resource_after_withdrawals (w ∷ []) r)
    cancelled written granted converting waiting is =
        let after : resource_after_withdrawals (w ∷ []) r ≡ resource_after_cancel w.lkid written =
        ap (resource_after_going w) is ∙ ap (λ (b : Bool). cond b (resource_after_cancel w.lkid written) (resource_without w.lkid written)) stays in
        record {
          given = map row_after_cancel (rows_of w.lkid r.converting);
          same = withdrawals_keep_place (w ∷ []) r;
          as_held = gives w.lkid r.converting;
          granted = ap (λ (x : Resource). x.granted) after
              ∙ ap (λ (rows : List LockState). rows ++ map row_after_cancel (rows_of w.lkid written.converting)) granted
              ∙ ap (λ (rows : List LockState). r.granted ++ map row_after_cancel (rows_of w.lkid rows)) converting;
          converting = subst (LosesLock w.lkid r.converting)
              (sym (ap (λ (x : Resource). x.converting) after ∙ ap (rows_without w.lkid) converting)) (loses w.lkid r.converting);
          waiting = subst (LosesLock w.lkid r.waiting)
              (sym (ap (λ (x : Resource). x.waiting) after ∙ ap (rows_without w.lkid) waiting)) (loses w.lkid r.waiting);
        }

    of_writer : (b : Bool) → is_held_by_writer w.lkid r ≡ b → LosesThisRequest w.lkid r (resource_after_withdrawals (w ∷ []) r)
    of_writer true is =
        cancelled (record r { value_block = value_block_after_writer w r.value_block }) refl refl refl
        (ap (λ (b : Bool). cond b (record r { value_block = value_block_after_writer w r.value_block }) r) is)
    of_writer false is =
        cancelled r refl refl refl
        (ap (λ (b : Bool). cond b (record r { value_block = value_block_after_writer w r.value_block }) r) is)

all_requests_leave : (w : Withdrawal) → w.stays ≡ true → (resources : List Resource)
    → AllZip (LosesThisRequest w.lkid) resources (map (resource_after_withdrawals (w ∷ [])) resources)
all_requests_leave w stays [] = tt
all_requests_leave w stays (r ∷ rest) = (request_leaves w stays r, all_requests_leave w stays rest)

-- ---- the end of the request

-- the ending is of this lock, in this way, and the lock is among these rows
abbrev EndsOf : ℕ → How → Type 0 → Ending → Type 0
EndsOf lkid how Where ending = (ending.lkid ≡ lkid) × (ending.how ≡ how) × Where

queue_ends : (how : How) (lkid : ℕ) (rows : List LockState)
    → AllByRecursion (EndsOf lkid how (Any (λ row. row.lkid ≡ lkid) rows)) (queue_endings how lkid rows)
queue_ends how lkid [] = tt
queue_ends how lkid (row ∷ rows) = of_test (row.lkid == lkid) refl (queue_ends how lkid rows)
  where
    Here : List LockState → Type 0
    Here = Any (λ x. x.lkid ≡ lkid)

    of_want : row.lkid ≡ lkid → Here (row ∷ rows) → (want : Option Request)
        → AllByRecursion (EndsOf lkid how (Here (row ∷ rows))) (wanted_endings how false row.lkid row.pid want)
    of_want same here None = tt
    of_want same here (Some request) = ((same, refl, here), tt)

    later : AllByRecursion (EndsOf lkid how (Here rows)) (queue_endings how lkid rows)
        → AllByRecursion (EndsOf lkid how (Here (row ∷ rows))) (queue_endings how lkid rows)
    later behind =
        each_weaker (EndsOf lkid how (Here rows)) (EndsOf lkid how (Here (row ∷ rows)))
        (λ ending is. (is.0, is.1, Any-there (λ x. x.lkid ≡ lkid) row rows is.2)) (queue_endings how lkid rows) behind

    of_test : (b : Bool) → (row.lkid == lkid) ≡ b → AllByRecursion (EndsOf lkid how (Here rows)) (queue_endings how lkid rows)
        → AllByRecursion (EndsOf lkid how (Here (row ∷ rows))) (flat_map (row_endings how false) (cond b (row ∷ rows_of lkid rows) (rows_of lkid rows)))
    of_test true is behind =
        each_append (EndsOf lkid how (Here (row ∷ rows))) (row_endings how false row) (queue_endings how lkid rows)
        (of_want (eqb-true row.lkid lkid is) (Any-here (λ x. x.lkid ≡ lkid) row rows (eqb-true row.lkid lkid is)) row.want) (later behind)
    of_test false is behind = later behind

-- where the lock of a withdrawal converts, and where it waits
abbrev Converts : ℕ → List Resource → Type 0
Converts lkid resources = Any (λ r. Any (λ row. row.lkid ≡ lkid) r.converting) resources

abbrev Waits : ℕ → List Resource → Type 0
Waits lkid resources = Any (λ r. Any (λ row. row.lkid ≡ lkid) r.waiting) resources

-- the ending is that of a conversion or of a waiting request, as the withdrawal has it
abbrev EndsAs : Withdrawal → List Resource → Ending → Type 0
EndsAs w resources ending =
    EndsOf w.lkid w.converting (Converts w.lkid resources) ending ⊎ EndsOf w.lkid w.waiting (Waits w.lkid resources) ending

resources_end : (w : Withdrawal) (resources : List Resource) → AllByRecursion (EndsAs w resources) (flat_map (withdrawal_endings w) resources)
resources_end w [] = tt
resources_end w (r ∷ rest) =
    each_append (EndsAs w (r ∷ rest)) (withdrawal_endings w r) (flat_map (withdrawal_endings w) rest)
    (each_append (EndsAs w (r ∷ rest)) (queue_endings w.converting w.lkid r.converting) (queue_endings w.waiting w.lkid r.waiting)
    (each_weaker (EndsOf w.lkid w.converting (On r.converting)) (EndsAs w (r ∷ rest))
    (λ ending is. inl (is.0, is.1, Any-here (λ x. On x.converting) r rest is.2)) (queue_endings w.converting w.lkid r.converting)
    (queue_ends w.converting w.lkid r.converting))
    (each_weaker (EndsOf w.lkid w.waiting (On r.waiting)) (EndsAs w (r ∷ rest))
    (λ ending is. inr (is.0, is.1, Any-here (λ x. On x.waiting) r rest is.2)) (queue_endings w.waiting w.lkid r.waiting)
    (queue_ends w.waiting w.lkid r.waiting)))
    (each_weaker (EndsAs w rest) (EndsAs w (r ∷ rest))
    (λ ending ends. elim ends [
      | inl is ↦ inl (is.0, is.1, Any-there (λ x. On x.converting) r rest is.2)
      | inr is ↦ inr (is.0, is.1, Any-there (λ x. On x.waiting) r rest is.2)
    ])
    (flat_map (withdrawal_endings w) rest) (resources_end w rest))
  where
    On : List LockState → Type 0
    On = Any (λ row. row.lkid ≡ w.lkid)

-- what holds of each such ending holds of all endings of the withdrawal
all_end_as : (w : Withdrawal) (resources : List Resource) (P : Ending → Type 0) → ((ending : Ending) → EndsAs w resources ending → P ending)
    → All P (withdrawn_endings (w ∷ []) resources)
all_end_as w resources P so =
    All-from_recursion P (withdrawn_endings (w ∷ []) resources)
    (each_end P (w ∷ []) resources
    (each_weaker (EndsAs w resources) P so (flat_map (withdrawal_endings w) resources) (resources_end w resources), tt))

-- ---- the steps

-- the withdrawal of a dequeue that cancels, or does not
abbrev withdrawal_if : Dequeue → ℕ → Bool → Withdrawal
withdrawal_if d lkid cancels = record {
  lkid = lkid;
  waiting = by_abort;
  converting = conversion_ending cancels;
  stays = cancels;
  value = cond cancels None d.value;
  tail = cond cancels None d.tail;
  invalidates = (withdrawal_of d lkid).invalidates;
}

-- the locks that a dequeue takes, with DEQALL or without
abbrev lkids_if : State → Dequeue → Bool → List ℕ
lkids_if s d all = cond all (taken_lkids s d) (dequeue_lkid s d ∷ [])

pub takes_its_lock : (s : State) (d : Dequeue) (choice : Option LockState) → has_flag d.flags deqall ≡ false → has_flag d.flags cancel ≡ false
    → TakesItsLock s d choice
unfolding deq_change
takes_its_lock s d choice single plain =
    let w : Withdrawal = withdrawal_of d (dequeue_lkid s d) in
    record {
      lock = subst (λ (b : Bool). AllZip (LosesThisLock w.lkid) s.resources
          (map (resource_after_withdrawals (map (withdrawal_of d) (lkids_if s d b))) s.resources)) (sym single)
          (all_go_from w (plain, tt) s.resources);
      request = subst (λ (b : Bool). All (λ ending. (ending.lkid ≡ w.lkid) × (ending.how ≡ by_abort))
          (withdrawn_endings (map (withdrawal_of d) (lkids_if s d b)) s.resources)) (sym single)
          (all_end_as w s.resources (λ ending. (ending.lkid ≡ w.lkid) × (ending.how ≡ by_abort))
          (λ ending ends. elim ends [
            | inl is ↦ (is.0, is.1 ∙ ap conversion_ending plain)
            | inr is ↦ (is.0, is.1)
          ]));
    }

pub cancels_its_request : (s : State) (d : Dequeue) (choice : Option LockState) → has_flag d.flags deqall ≡ false → has_flag d.flags cancel ≡ true
    → CancelsItsRequest s d choice
unfolding deq_change
cancels_its_request s d choice single cancels =
    let w : Withdrawal = withdrawal_of d (dequeue_lkid s d) in
    record {
      lock = subst (λ (b : Bool). AllZip (LosesThisRequest w.lkid) s.resources
          (map (resource_after_withdrawals (map (withdrawal_of d) (lkids_if s d b))) s.resources)) (sym single)
          (all_requests_leave w cancels s.resources);
      request = subst (λ (b : Bool). All (IsCancelled s w.lkid)
          (withdrawn_endings (map (withdrawal_of d) (lkids_if s d b)) s.resources)) (sym single)
          (all_end_as w s.resources (IsCancelled s w.lkid)
          (λ ending ends. elim ends [
            | inl is ↦ (is.0, inl (is.1 ∙ ap conversion_ending cancels, is.2))
            | inr is ↦ (is.0, inr (is.1, is.2))
          ]));
    }

pub ends_its_victim : (s : State) (node : ℕ) (victim : LockState) → EndsItsVictim s node victim.lkid (Some victim)
unfolding search_change
ends_its_victim s node victim =
    record {
      lock = all_requests_leave (deadlock_of victim.lkid) refl s.resources;
      request = all_end_as (deadlock_of victim.lkid) s.resources (λ ending. (ending.lkid ≡ victim.lkid) × (ending.how ≡ by_deadlock))
          (λ ending ends. elim ends [ inl is ↦ (is.0, is.1) | inr is ↦ (is.0, is.1) ]);
    }
