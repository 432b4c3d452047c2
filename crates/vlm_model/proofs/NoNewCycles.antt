-- A search catches nobody anew: who waits for whom after it did so before.
use Rattle.std.proofs.Common.{◌≡◌, ◌<◌, ◌⊎◌, ℕ, Bool, zero, suc, not, inl, inr, List, [], ◌∷◌, ◌++◌, map, filter, take}
use Rattle.std.proofs.Common.{drop, Option, None, Some, refl, sym, ap, subst, ◌∙◌, arith}
use Rattle.std.specs.Prelude.{◌==◌, Any}
use Rattle.std.specs.List.{AllZip}
use Rattle.std.proofs.lemmas.Bool.{cond_both}
use Rattle.vlm_words.specs.declared.conditions.Cond.{Cond}
use Rattle.vlm_words.specs.declared.locks.Request.{Request}
use Rattle.vlm_words.specs.declared.locks.LockState.{LockState}
use Rattle.vlm_words.specs.declared.steps.Step.TheVariants.{Search}
use Rattle.vlm_words.specs.State.{Resource, State}
use Rattle.vlm_model.specs.Endings.{Ending}
use Rattle.vlm_words.specs.Rows.{rows_of, rows_without}
use Rattle.vlm_model.specs.Withdrawals.{Withdrawal, is_held_by_writer, resource_after_cancel}
use Rattle.vlm_model.specs.Withdrawals.{resource_after_withdrawals, resource_after_writer, row_after_cancel}
use Rattle.vlm_model.specs.Withdrawals.{state_after_withdrawals, value_block_after_writer}
use Rattle.vlm_model.specs.Sweeps.{resources_after_sweep, sweep_endings}
use Rattle.vlm_model.specs.Search.{deadlock_of, search_change, victim_withdrawals}
use Rattle.vlm_model.specs.Stepped.{refused_or, step_change}
use Rattle.vlm_model.specs.Laws.{GrantsFirst, IsBeside, IsGranted, IsSameButArmed, SweptInOrder, goes, none, stays, first_rows}
use Rattle.vlm_model.specs.Cycles.{ComesBackTo, ComesBefore, IsAheadOf, IsBlocked, IsBlockedBy, IsHeldUpBy, IsOneOf, IsWaitedFor, KeepsOut, WaitsOnTo}
use Rattle.vlm_model.proofs.LocksBelow.{either}
use Rattle.vlm_model.proofs.Each.{Any-cases, Any-here, Any-none, Any-there}
use Rattle.vlm_model.proofs.InOrder.{sweep_in_order}
use Rattle.vlm_model.specs.NoNewCycles.{NoneIsCaughtAnew}

-- ---- rows of a queue

-- the first of a queue, and what is behind it
one_here : (row : LockState) (rows : List LockState) → IsOneOf (row ∷ rows) row
one_here row rows = Any-here (λ other. other ≡ row) row rows refl

one_later : (first row : LockState) (rows : List LockState) → IsOneOf rows row → IsOneOf (first ∷ rows) row
one_later first row rows = Any-there (λ other. other ≡ row) first rows

one_by_cases : (first row : LockState) (rows : List LockState) → IsOneOf (first ∷ rows) row → (first ≡ row) ⊎ IsOneOf rows row
one_by_cases first row rows = Any-cases (λ other. other ≡ row) first rows

no_one : (row : LockState) → IsOneOf [] row → ⊥
no_one row = Any-none (λ other. other ≡ row)

-- a row that a filter keeps was there
one_kept : (keep : LockState → Bool) (rows : List LockState) (row : LockState) → IsOneOf (filter keep rows) row → IsOneOf rows row
one_kept keep [] row one = one
one_kept keep (first ∷ rows) row one =
    cond_both (keep first) (first ∷ filter keep rows) (filter keep rows) (λ kept. IsOneOf kept row → IsOneOf (first ∷ rows) row)
    (λ _ kept. elim (one_by_cases first row (filter keep rows) kept) [
      | inl here ↦ Any-here (λ other. other ≡ row) first rows here
      | inr there ↦ one_later first row rows (one_kept keep rows row there)
    ]) (λ _ kept. one_later first row rows (one_kept keep rows row kept)) one

-- and stood behind whom it stands behind
before_kept : (keep : LockState → Bool) (rows : List LockState) (lock row : LockState) → ComesBefore lock row (filter keep rows) → ComesBefore lock row rows
before_kept keep [] lock row comes = comes
before_kept keep (first ∷ rows) lock row comes =
    cond_both (keep first) (first ∷ filter keep rows) (filter keep rows) (λ kept. ComesBefore lock row kept → ComesBefore lock row (first ∷ rows))
    (λ _ kept. of_kept kept (before_kept keep rows lock row)) (λ _ kept. inr (before_kept keep rows lock row kept)) comes
  where
    of_kept : ((first ≡ lock) × IsOneOf (filter keep rows) row) ⊎ ComesBefore lock row (filter keep rows)
        → (ComesBefore lock row (filter keep rows) → ComesBefore lock row rows)
        → ComesBefore lock row (first ∷ rows)
    of_kept (inl now) later = inl (now.0, one_kept keep rows row now.1)
    of_kept (inr behind) later = inr (later behind)

-- a row that is left once the first have gone was there
one_left : (many : ℕ) (rows : List LockState) (row : LockState) → IsOneOf (drop many rows) row → IsOneOf rows row
one_left zero rows row one = one
one_left (suc many) [] row one = one
one_left (suc many) (first ∷ rows) row one = one_later first row rows (one_left many rows row one)

-- and stood behind whom it stands behind
before_left : (many : ℕ) (rows : List LockState) (lock row : LockState) → ComesBefore lock row (drop many rows) → ComesBefore lock row rows
before_left zero rows lock row comes = comes
before_left (suc many) [] lock row comes = comes
before_left (suc many) (first ∷ rows) lock row comes = inr (before_left many rows lock row comes)

-- a row that has gone from the head was there
one_gone : (many : ℕ) (rows : List LockState) (row : LockState) → IsOneOf (take many rows) row → IsOneOf rows row
one_gone zero rows row one = absurd (no_one row one)
one_gone (suc many) [] row one = one
one_gone (suc many) (first ∷ rows) row one =
    elim (one_by_cases first row (take many rows) one) [
      | inl here ↦ Any-here (λ other. other ≡ row) first rows here
      | inr there ↦ one_later first row rows (one_gone many rows row there)
    ]

-- and stood before all that are left
gone_before_left : (many : ℕ) (rows : List LockState) (lock row : LockState) → IsOneOf (take many rows) lock → IsOneOf (drop many rows) row
    → ComesBefore lock row rows
gone_before_left zero rows lock row gone left = absurd (no_one lock gone)
gone_before_left (suc many) [] lock row gone left = absurd (no_one lock gone)
gone_before_left (suc many) (first ∷ rows) lock row gone left =
    elim (one_by_cases first lock (take many rows) gone) [
      | inl here ↦ inl (here, one_left many rows row left)
      | inr there ↦ inr (gone_before_left many rows lock row there left)
    ]

-- a row to which another one belongs, place by place
record Pairs (R : LockState → LockState → Type 0) (rows : List LockState) (after : LockState) : Type 0 where
  before : LockState
  one : IsOneOf rows before
  pair : R before after

pair_of : (R : LockState → LockState → Type 0) (rows others : List LockState) (row : LockState) → AllZip R rows others → IsOneOf others row → Pairs R rows row
pair_of R [] [] row zip one = absurd (no_one row one)
pair_of R [] (other ∷ others) row zip one = absurd zip
pair_of R (first ∷ rows) [] row zip one = absurd zip
pair_of R (first ∷ rows) (other ∷ others) row zip one =
    elim (one_by_cases other row others one) [
      | inl here ↦ record { before = first; one = one_here first rows; pair = subst (R first) here zip.0 }
      | inr there ↦
          (let later : Pairs R rows row = pair_of R rows others row zip.1 there in
          record { before = later.before; one = one_later first later.before rows later.one; pair = later.pair })
    ]

-- ---- one wait on a resource

-- the row waited on the resource for this lock, whatever it held and wanted
record WasBlockedBy (r : Resource) (row lock : LockState) : Type 0 where
  was : LockState
  lkid : was.lkid ≡ lock.lkid
  owner : was.pid ≡ lock.pid
  blocked : IsBlockedBy r row was

-- each wait on the second resource was one on the first
abbrev HasNoNewWait : Resource → Resource → Type 0
HasNoNewWait before after = (row lock : LockState) → IsBlockedBy after row lock → WasBlockedBy before row lock

-- one change after another
waits_through : (a b c : Resource) → HasNoNewWait a b → HasNoNewWait b c → HasNoNewWait a c
waits_through a b c first second row lock blocked =
    let later : WasBlockedBy b row lock = second row lock blocked in
    let sooner : WasBlockedBy a row later.was = first row later.was later.blocked in
    record { was = sooner.was; lkid = sooner.lkid ∙ later.lkid; owner = sooner.owner ∙ later.owner; blocked = sooner.blocked }

-- the same wait
same_wait : (r : Resource) → HasNoNewWait r r
same_wait r row lock blocked = record { was = lock; lkid = refl; owner = refl; blocked = blocked }

-- why a row waits: for what is held, or by order
abbrev WaitsWhy : Resource → Request → LockState → LockState → Type 0
WaitsWhy r request row lock = KeepsOut r request.mode lock ⊎ (IsAheadOf r lock row × IsWaitedFor lock.want)

-- the reason stood before, for the same lock
record StoodWhy (r : Resource) (request : Request) (row lock : LockState) : Type 0 where
  was : LockState
  lkid : was.lkid ≡ lock.lkid
  owner : was.pid ≡ lock.pid
  why : WaitsWhy r request row was

-- where a row was queued, and had a reason, it waited
was_blocked : (before after : Resource) (row lock : LockState)
    → (IsOneOf after.converting row ⊎ IsOneOf after.waiting row → IsOneOf before.converting row ⊎ IsOneOf before.waiting row)
    → ((request : Request) → IsOneOf after.converting row ⊎ IsOneOf after.waiting row → WaitsWhy after request row lock → StoodWhy before request row lock)
    → IsBlockedBy after row lock → WasBlockedBy before row lock
was_blocked before after row lock queued stood blocked =
    let why : StoodWhy before blocked.request row lock = stood blocked.request blocked.queued blocked.why in
    record {
      was = why.was;
      lkid = why.lkid;
      owner = why.owner;
      blocked = record {
        queued = queued blocked.queued;
        request = blocked.request;
        wants = blocked.wants;
        waits = blocked.waits;
        another = λ same. blocked.another (sym why.lkid ∙ same);
        why = why.why;
      };
    }

-- what is held keeps the request out, and is waited for
abbrev HoldsOut : Request → Option Request → Type 0
HoldsOut request held = (IsBeside request.mode held → ⊥) × IsWaitedFor held

-- a lock that held the same kept the request out before
kept_out : (r : Resource) (request : Request) (row lock was : LockState) → IsOneOf r.granted was
    ⊎ IsOneOf r.converting was → was.lkid ≡ lock.lkid → was.pid ≡ lock.pid
    → lock.held ≡ was.held → HoldsOut request lock.held → StoodWhy r request row lock
kept_out r request row lock was place lkid owner same out = record {
  was = was;
  lkid = lkid;
  owner = owner;
  why =
      (let so : HoldsOut request was.held = subst (HoldsOut request) same out in
      inl (place, so.0, so.1));
}

-- a lock that was ahead, and wanted what it holds now, was waited for by order
was_ahead : (r : Resource) (request : Request) (row lock was : LockState) → IsAheadOf r was row → was.lkid ≡ lock.lkid → was.pid ≡ lock.pid
    → lock.held ≡ was.want → IsWaitedFor lock.held → StoodWhy r request row lock
was_ahead r request row lock was ahead lkid owner same counts = record {
  was = was;
  lkid = lkid;
  owner = owner;
  why = inr (ahead, subst IsWaitedFor same counts);
}

-- ---- the victim is withdrawn

-- what is left in the value block matters to nobody
writer_waits : (w : Withdrawal) (r : Resource) → HasNoNewWait r (resource_after_writer w r)
writer_waits w r =
    cond_both (is_held_by_writer w.lkid r) (record r { value_block = value_block_after_writer w r.value_block }) r (HasNoNewWait r)
    (λ _ row lock blocked. record {
      was = lock;
      lkid = refl;
      owner = refl;
      blocked = record {
        queued = blocked.queued;
        request = blocked.request;
        wants = blocked.wants;
        waits = blocked.waits;
        another = blocked.another;
        why = blocked.why;
      };
    })
    (λ _. same_wait r)

-- the row after its conversion is given up
abbrev IsCancelled : LockState → LockState → Type 0
IsCancelled was now = row_after_cancel was ≡ now

-- a row whose conversion is given up was one that converts
cancelled : (rows : List LockState) (row : LockState) → IsOneOf (map row_after_cancel rows) row → Pairs IsCancelled rows row
cancelled [] row one = absurd (no_one row one)
cancelled (first ∷ rows) row one =
    elim (one_by_cases (row_after_cancel first) row (map row_after_cancel rows) one) [
      | inl here ↦ record { before = first; one = one_here first rows; pair = here }
      | inr there ↦
          (let later : Pairs IsCancelled rows row = cancelled rows row there in
          record { before = later.before; one = one_later first later.before rows later.one; pair = later.pair })
    ]

-- a lock whose conversion is given up, or that goes, gives no reason to wait
cancel_waits : (lkid : ℕ) (r : Resource) → HasNoNewWait r (resource_after_cancel lkid r)
unfolding resource_after_cancel
cancel_waits lkid r row lock = was_blocked r (resource_after_cancel lkid r) row lock of_queue (λ request _ why. of_why request why)
  where
    others : LockState → Bool
    others other = not (other.lkid == lkid)

    of_queue : IsOneOf (rows_without lkid r.converting) row ⊎ IsOneOf (rows_without lkid r.waiting) row → IsOneOf r.converting row ⊎ IsOneOf r.waiting row
    of_queue (inl converts) = inl (one_kept others r.converting row converts)
    of_queue (inr waits) = inr (one_kept others r.waiting row waits)

    of_ahead : IsAheadOf (resource_after_cancel lkid r) lock row → IsAheadOf r lock row
    of_ahead (inl conversions) = inl (before_kept others r.converting lock row conversions)
    of_ahead (inr (inl both)) = inr (inl (one_kept others r.converting lock both.0, one_kept others r.waiting row both.1))
    of_ahead (inr (inr waiting)) = inr (inr (before_kept others r.waiting lock row waiting))

    of_granted : (request : Request) → IsOneOf r.granted lock ⊎ IsOneOf (map row_after_cancel (rows_of lkid r.converting)) lock
        → HoldsOut request lock.held → StoodWhy r request row lock
    of_granted request (inl stood) out = kept_out r request row lock lock (inl stood) refl refl refl out
    of_granted request (inr gave_up) out =
        let was : Pairs IsCancelled (rows_of lkid r.converting) lock = cancelled (rows_of lkid r.converting) lock gave_up in
        kept_out r request row lock was.before (inr (one_kept (λ other. other.lkid == lkid) r.converting was.before was.one))
        (ap (λ (x : LockState). x.lkid) was.pair) (ap (λ (x : LockState). x.pid) was.pair) (sym (ap (λ (x : LockState). x.held) was.pair)) out

    of_place : (request : Request) → IsOneOf (r.granted ++ map row_after_cancel (rows_of lkid r.converting)) lock
        ⊎ IsOneOf (rows_without lkid r.converting) lock
        → HoldsOut request lock.held → StoodWhy r request row lock
    of_place request (inl granted) out =
        of_granted request (either (λ other. other ≡ lock) r.granted (map row_after_cancel (rows_of lkid r.converting)) granted) out
    of_place request (inr converts) out = kept_out r request row lock lock (inr (one_kept others r.converting lock converts)) refl refl refl out

    of_why : (request : Request) → WaitsWhy (resource_after_cancel lkid r) request row lock → StoodWhy r request row lock
    of_why request (inl out) = of_place request out.0 (out.1, out.2)
    of_why request (inr ahead) = record { was = lock; lkid = refl; owner = refl; why = inr (of_ahead ahead.0, ahead.1) }

-- so nobody waits for the victim, or for another, who did not
withdrawn_waits : (choice : Option LockState) (r : Resource) → HasNoNewWait r (resource_after_withdrawals (victim_withdrawals choice) r)
withdrawn_waits None r = same_wait r
withdrawn_waits (Some victim) r =
    waits_through r (resource_after_writer (deadlock_of victim.lkid) r)
    (resource_after_cancel victim.lkid (resource_after_writer (deadlock_of victim.lkid) r)) (writer_waits (deadlock_of victim.lkid) r)
    (cancel_waits victim.lkid (resource_after_writer (deadlock_of victim.lkid) r))

-- ---- the resource is swept

-- what is granted from the heads of the queues was waited for by all that are left in them
swept_waits : (before after : Resource) (endings : List Ending) → GrantsFirst before after endings → HasNoNewWait before after
swept_waits before after endings first row lock = was_blocked before after row lock of_queue of_why
  where
    left_converting : (x : LockState) → IsOneOf after.converting x → IsOneOf (drop first.conversions before.converting) x
    left_converting x = subst (λ (rows : List LockState). IsOneOf rows x) first.converting

    left_waiting : (x : LockState) → IsOneOf after.waiting x → IsOneOf (drop first.new_requests before.waiting) x
    left_waiting x = subst (λ (rows : List LockState). IsOneOf rows x) first.waiting

    converted : (x : LockState) → IsOneOf after.converting x → IsOneOf before.converting x
    converted x converts = one_left first.conversions before.converting x (left_converting x converts)

    waited : (x : LockState) → IsOneOf after.waiting x → IsOneOf before.waiting x
    waited x waits = one_left first.new_requests before.waiting x (left_waiting x waits)

    of_queue : IsOneOf after.converting row ⊎ IsOneOf after.waiting row → IsOneOf before.converting row ⊎ IsOneOf before.waiting row
    of_queue (inl converts) = inl (converted row converts)
    of_queue (inr waits) = inr (waited row waits)

    of_ahead : IsAheadOf after lock row → IsAheadOf before lock row
    of_ahead (inl conversions) =
        inl (before_left first.conversions before.converting lock row (subst (ComesBefore lock row) first.converting conversions))
    of_ahead (inr (inl both)) = inr (inl (converted lock both.0, waited row both.1))
    of_ahead (inr (inr waiting)) =
        inr (inr (before_left first.new_requests before.waiting lock row (subst (ComesBefore lock row) first.waiting waiting)))

    some_granted : (many : ℕ) (rows : List LockState) (x : LockState) → IsOneOf (take many rows) x → 0 < many
    some_granted zero rows x one = absurd (no_one x one)
    some_granted (suc many) rows x one = omega arith

    was_before : (was : LockState) → IsOneOf (take first.conversions before.converting) was ⊎ IsOneOf (take first.new_requests before.waiting) was
        → IsOneOf after.converting row ⊎ IsOneOf after.waiting row → IsAheadOf before was row
    was_before was (inl converted_it) (inl converts) =
        inl (gone_before_left first.conversions before.converting was row converted_it (left_converting row converts))
    was_before was (inl converted_it) (inr waits) =
        inr (inl (one_gone first.conversions before.converting was converted_it, waited row waits))
    was_before was (inr was_new) (inl converts) =
        absurd (no_one row (subst (λ (rows : List LockState). IsOneOf rows row)
        (first.conversions_before (some_granted first.new_requests before.waiting was was_new)) converts))
    was_before was (inr was_new) (inr waits) =
        inr (inr (gone_before_left first.new_requests before.waiting was row was_new (left_waiting row waits)))

    of_given : (request : Request) → IsOneOf after.converting row ⊎ IsOneOf after.waiting row → IsOneOf first.given lock
        → IsWaitedFor lock.held → StoodWhy before request row lock
    of_given request queued given counts =
        let was : Pairs IsGranted (first_rows first.conversions first.new_requests before) lock =
        pair_of IsGranted (first_rows first.conversions first.new_requests before) first.given lock first.rows given in
        was_ahead before request row lock was.before
        (was_before was.before (either (λ other. other ≡ was.before) (take first.conversions before.converting)
        (take first.new_requests before.waiting) was.one) queued)
        (sym was.pair.lkid) (sym was.pair.pid) was.pair.holds counts

    of_granted : (request : Request) → IsOneOf after.converting row ⊎ IsOneOf after.waiting row → IsOneOf first.kept lock ⊎ IsOneOf first.given lock
        → HoldsOut request lock.held → StoodWhy before request row lock
    of_granted request queued (inl kept) out =
        let was : Pairs IsSameButArmed before.granted lock = pair_of IsSameButArmed before.granted first.kept lock first.stay kept in
        kept_out before request row lock was.before (inl was.one) (sym was.pair.lkid) (sym was.pair.pid) was.pair.held out
    of_granted request queued (inr given) out = of_given request queued given out.1

    of_place : (request : Request) → IsOneOf after.converting row ⊎ IsOneOf after.waiting row → IsOneOf after.granted lock ⊎ IsOneOf after.converting lock
        → HoldsOut request lock.held → StoodWhy before request row lock
    of_place request queued (inl granted) out =
        of_granted request queued
        (either (λ other. other ≡ lock) first.kept first.given (subst (λ (rows : List LockState). IsOneOf rows lock) first.granted granted)) out
    of_place request queued (inr converts) out = kept_out before request row lock lock (inr (converted lock converts)) refl refl refl out

    of_why : (request : Request) → IsOneOf after.converting row ⊎ IsOneOf after.waiting row → WaitsWhy after request row lock
        → StoodWhy before request row lock
    of_why request queued (inl out) = of_place request queued out.0 (out.1, out.2)
    of_why request queued (inr ahead) = record { was = lock; lkid = refl; owner = refl; why = inr (of_ahead ahead.0, ahead.1) }

-- ---- all resources

-- on some of these resources the row waits for a lock of the same owner
record IsBlockedAmong (resources : List Resource) (row lock : LockState) : Type 0 where
  was : LockState
  owner : was.pid ≡ lock.pid
  blocked : Any (λ r. IsBlockedBy r row was) resources

blocked_here : (r : Resource) (rest : List Resource) (row lock : LockState) → WasBlockedBy r row lock → IsBlockedAmong (r ∷ rest) row lock
blocked_here r rest row lock waited = record {
  was = waited.was;
  owner = waited.owner;
  blocked = Any-here (λ x. IsBlockedBy x row waited.was) r rest waited.blocked;
}

blocked_there : (r : Resource) (rest : List Resource) (row lock : LockState) → IsBlockedAmong rest row lock → IsBlockedAmong (r ∷ rest) row lock
blocked_there r rest row lock waited = record {
  was = waited.was;
  owner = waited.owner;
  blocked = Any-there (λ x. IsBlockedBy x row waited.was) r rest waited.blocked;
}

-- each wait after a sweep was one before
swept_blocked : (resources left : List Resource) (endings : List Ending) → SweptInOrder resources left endings → (row lock : LockState)
    → Any (λ r. IsBlockedBy r row lock) left → IsBlockedAmong resources row lock
swept_blocked _ _ _ none row lock blocked = absurd (Any-none (λ r. IsBlockedBy r row lock) blocked)
swept_blocked _ _ _ (stays {before} {after} {rest} {left} {endings} {more} first behind) row lock blocked =
    of_cases (Any-cases (λ r. IsBlockedBy r row lock) after left blocked) (swept_blocked rest left more behind row lock)
  where
    of_cases : IsBlockedBy after row lock ⊎ Any (λ r. IsBlockedBy r row lock) left
        → (Any (λ r. IsBlockedBy r row lock) left → IsBlockedAmong rest row lock)
        → IsBlockedAmong (before ∷ rest) row lock
    of_cases (inl here) later = blocked_here before rest row lock (swept_waits before after endings first row lock here)
    of_cases (inr there) later = blocked_there before rest row lock (later there)
swept_blocked _ _ _ (goes {before} {after} {rest} {left} {endings} {more} first vacant behind) row lock blocked =
    blocked_there before rest row lock (swept_blocked rest left more behind row lock blocked)

-- and each one after the withdrawal
withdrawn_blocked : (choice : Option LockState) (resources : List Resource) (row lock : LockState)
    → Any (λ r. IsBlockedBy r row lock) (map (resource_after_withdrawals (victim_withdrawals choice)) resources)
    → IsBlockedAmong resources row lock
withdrawn_blocked choice [] row lock blocked = absurd (Any-none (λ r. IsBlockedBy r row lock) blocked)
withdrawn_blocked choice (r ∷ rest) row lock blocked =
    elim (Any-cases (λ x. IsBlockedBy x row lock) (change r) (map change rest) blocked) [
      | inl here ↦ blocked_here r rest row lock (withdrawn_waits choice r row lock here)
      | inr there ↦ blocked_there r rest row lock (withdrawn_blocked choice rest row lock there)
    ]
  where
    change : Resource → Resource
    change = resource_after_withdrawals (victim_withdrawals choice)

-- ---- cycles

-- each wait in the second state was one in the first, for a lock of the same owner
abbrev HasNoNewWaits : State → State → Type 0
HasNoNewWaits old new = (row lock : LockState) → IsBlocked new row lock → IsBlockedAmong old.resources row lock

module _ (old new : State) (waited : HasNoNewWaits old new) where
  was_held_up : (pid other : ℕ) → IsHeldUpBy new pid other → IsHeldUpBy old pid other
  was_held_up pid other held =
      let sooner : IsBlockedAmong old.resources held.row held.lock = waited held.row held.lock held.blocked in
      record { row = held.row; lock = sooner.was; waiter = held.waiter; owner = sooner.owner ∙ held.owner; blocked = sooner.blocked }

  waited_on_to : (end pid : ℕ) (others : List ℕ) → WaitsOnTo new end pid others → WaitsOnTo old end pid others
  waited_on_to end pid [] waits = was_held_up pid end waits
  waited_on_to end pid (next ∷ others) waits = (was_held_up pid next waits.0, waited_on_to end next others waits.1)

  came_back_to : (pid owner : ℕ) → ComesBackTo new pid owner → ComesBackTo old pid owner
  came_back_to pid owner (inl same) = inl same
  came_back_to pid owner (inr chain) = inr (chain.0, waited_on_to pid owner chain.0 chain.1)

  was_caught : NoneIsCaughtAnew old new
  was_caught row caught =
      let sooner : IsBlockedAmong old.resources row caught.lock = waited row caught.lock caught.blocked in
      record {
        lock = sooner.was;
        blocked = sooner.blocked;
        back = subst (ComesBackTo old row.pid) (sym sooner.owner) (came_back_to row.pid caught.lock.pid caught.back);
      }

-- ---- the search

-- the victim is withdrawn, and all is swept
searched_waits : (s : State) (node : ℕ) (choice : Option LockState) → HasNoNewWaits s (refused_or None s (step_change s (Search node) choice)).state
unfolding search_change
searched_waits s node choice row lock blocked =
    let change : State = state_after_withdrawals (victim_withdrawals choice) s in
    let swept : IsBlockedAmong change.resources row lock =
    swept_blocked change.resources (resources_after_sweep change.processes change.resources) (sweep_endings change.resources)
    (sweep_in_order change.processes change.resources) row lock blocked in
    let sooner : IsBlockedAmong s.resources row swept.was = withdrawn_blocked choice s.resources row swept.was swept.blocked in
    record { was = sooner.was; owner = sooner.owner ∙ swept.owner; blocked = sooner.blocked }

-- a search catches nobody anew
pub none_caught_anew : (s : State) (node : ℕ) (choice : Option LockState) (refusal : Option Cond)
    → NoneIsCaughtAnew s (refused_or refusal s (step_change s (Search node) choice)).state
none_caught_anew s node choice None = was_caught s (refused_or None s (step_change s (Search node) choice)).state (searched_waits s node choice)
none_caught_anew s node choice (Some refusal) = λ row caught. caught
