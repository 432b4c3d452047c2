-- A process waits in a cycle exactly if a request of it is deadlocked.
use Rattle.std.proofs.Common.{◌≡◌, ◌≤◌, ◌⊎◌, ℕ, Bool, true, false, inl, inr, List, [], ◌∷◌, ◌++◌, cond, Option, None, Some, refl, sym, ap, subst, ◌∙◌, arith}
use Rattle.std.specs.Prelude.{◌==◌, Any}
use Rattle.std.specs.Option.{option_map_or}
use Rattle.std.specs.List.{flat_map, AllByRecursion}
use Rattle.std.proofs.lemmas.List.{map-id}
use Rattle.vlm_words.specs.declared.conditions.Cond.{Cond}
use Rattle.vlm_words.specs.declared.locks.Request.{Request}
use Rattle.vlm_words.specs.declared.locks.LockState.{LockState}
use Rattle.vlm_words.specs.declared.modes.Mode.{Mode}
use Rattle.vlm_words.specs.declared.steps.Answer.TheVariants.{Victim}
use Rattle.vlm_words.specs.declared.steps.Step.TheVariants.{Search}
use Rattle.vlm_words.specs.Modes.{is_compatible}
use Rattle.vlm_words.specs.State.{Resource, State}
use Rattle.vlm_model.specs.Endings.{Ending, row_endings, wanted_endings}
use Rattle.vlm_model.specs.Endings.How.{by_deadlock}
use Rattle.vlm_words.specs.Rows.{rows_of}
use Rattle.vlm_model.specs.Withdrawals.{queue_endings, withdrawal_endings}
use Rattle.vlm_model.specs.Sweeps.{sweep_endings}
use Rattle.std.proofs.lemmas.Bool.{eq-eqb}
use Rattle.vlm_model.specs.Laws.{IsBeside}
use Rattle.vlm_model.specs.Deadlocks.{BlocksThoseBehind, HoldsAgainst, IsDeadlocked, IsVictim, KeepsWaiting, LeadsTo}
use Rattle.vlm_model.specs.Deadlocks.{ProcessWaitsFor, StandsBefore, WaitsFor, WaitsOn, queue_of, wanted_number}
use Rattle.vlm_model.specs.Search.{IsSearchedFor, deadlock_of, search_change, search_endings, search_refusal}
use Rattle.vlm_model.specs.Stable.{IsStable, IsUnswept}
use Rattle.vlm_model.specs.Stepped.{IsChoice, refused_or, step_change, stepped, stepped_after_sweep}
use Rattle.vlm_model.specs.Runs.{History, Run}
use Rattle.vlm_model.proofs.LocksBelow.{either}
use Rattle.vlm_model.proofs.Each.{Any-behind, Any-cases, Any-here, Any-none, Any-there, Any-weaker, any_left}
use Rattle.vlm_model.proofs.Stable.{stable_law, unswept}
use Rattle.vlm_model.specs.Cycles.{ComesBackTo, ComesBefore, FindsWhoIsCaught, IsAheadOf, IsBlocked, IsBlockedBy}
use Rattle.vlm_model.specs.Cycles.{IsCaught, IsHeldUpBy, IsNoLater, IsOneOf, IsWaitedFor, KeepsOut, LeavesAll}
use Rattle.vlm_model.specs.Cycles.{NobodyWaitsInACycle, WaitsOnTo}

-- ---- queues

-- where a row stands in a queue
record Place (queue : List LockState) (row : LockState) : Type 0 where
  before : List LockState
  behind : List LockState
  is : queue ≡ before ++ row ∷ behind

place_of : (queue : List LockState) (row : LockState) → IsOneOf queue row → Place queue row
place_of [] row one = absurd (Any-none (λ other. other ≡ row) one)
place_of (first ∷ rows) row one =
    elim (Any-cases (λ other. other ≡ row) first rows one) [
      | inl here ↦ record { before = []; behind = rows; is = ap (λ (x : LockState). x ∷ rows) here }
      | inr there ↦
          (let later : Place rows row = place_of rows row there in
          record { before = first ∷ later.before; behind = later.behind; is = ap (λ (xs : List LockState). first ∷ xs) later.is })
    ]

-- behind it
stands_before : (queue : List LockState) (first second : LockState) → ComesBefore first second queue → StandsBefore queue first second
stands_before [] first second comes = absurd comes
stands_before (row ∷ rows) first second (inl now) =
    let place : Place rows second = place_of rows second now.1 in
    record {
      before = row ∷ place.before;
      behind = place.behind;
      queued = ap (λ (xs : List LockState). row ∷ xs) place.is;
      first_among = Any-here (λ other. other ≡ first) row place.before now.0;
    }
stands_before (row ∷ rows) first second (inr later) =
    let further : StandsBefore rows first second = stands_before rows first second later in
    record {
      before = row ∷ further.before;
      behind = further.behind;
      queued = ap (λ (xs : List LockState). row ∷ xs) further.queued;
      first_among = Any-there (λ other. other ≡ first) row further.before further.first_among;
    }

append_assoc : (xs ys zs : List LockState) → (xs ++ ys) ++ zs ≡ xs ++ (ys ++ zs)
append_assoc [] ys zs = refl
append_assoc (x ∷ xs) ys zs = ap (λ (rest : List LockState). x ∷ rest) (append_assoc xs ys zs)

-- the same in a longer queue
with_more_behind : (rows more : List LockState) (first second : LockState) → StandsBefore rows first second → StandsBefore (rows ++ more) first second
with_more_behind rows more first second stands = record {
  before = stands.before;
  behind = stands.behind ++ more;
  queued = ap (λ (xs : List LockState). xs ++ more) stands.queued ∙ append_assoc stands.before (second ∷ stands.behind) more;
  first_among = stands.first_among;
}

with_more_before : (more rows : List LockState) (first second : LockState) → StandsBefore rows first second → StandsBefore (more ++ rows) first second
with_more_before more rows first second stands = record {
  before = more ++ stands.before;
  behind = stands.behind;
  queued = ap (λ (xs : List LockState). more ++ xs) stands.queued ∙ sym (append_assoc more stands.before (second ∷ stands.behind));
  first_among = Any-behind (λ other. other ≡ first) more stands.before stands.first_among;
}

one_in_each : (rows more : List LockState) (first second : LockState) → IsOneOf rows first → IsOneOf more second → StandsBefore (rows ++ more) first second
one_in_each rows more first second ahead waits =
    let place : Place more second = place_of more second waits in
    record {
      before = rows ++ place.before;
      behind = place.behind;
      queued = ap (λ (xs : List LockState). rows ++ xs) place.is ∙ sym (append_assoc rows place.before (second ∷ place.behind));
      first_among = any_left (λ other. other ≡ first) rows place.before ahead;
    }

-- who is ahead stands before in the queue of both
ahead_stands : (r : Resource) (lock row : LockState) → IsAheadOf r lock row → StandsBefore (queue_of r) lock row
ahead_stands r lock row (inl conversions) =
    with_more_behind r.converting r.waiting lock row (stands_before r.converting lock row conversions)
ahead_stands r lock row (inr (inl both)) = one_in_each r.converting r.waiting lock row both.0 both.1
ahead_stands r lock row (inr (inr waiting)) = with_more_before r.converting r.waiting lock row (stands_before r.waiting lock row waiting)

-- and the other way
comes_before : (before behind : List LockState) (first second : LockState) → IsOneOf before first → ComesBefore first second (before ++ second ∷ behind)
comes_before [] behind first second one = absurd (Any-none (λ other. other ≡ first) one)
comes_before (row ∷ before) behind first second one =
    elim (Any-cases (λ other. other ≡ first) row before one) [
      | inl here ↦
          inl (here, Any-behind (λ other. other ≡ second) before (second ∷ behind) (Any-here (λ other. other ≡ second) second behind refl))
      | inr there ↦ inr (comes_before before behind first second there)
    ]

ahead_by_cases : (rows more : List LockState) (first second : LockState) → ComesBefore first second (rows ++ more)
    → ComesBefore first second rows ⊎ (IsOneOf rows first × IsOneOf more second) ⊎ ComesBefore first second more
ahead_by_cases [] more first second comes = inr (inr comes)
ahead_by_cases (row ∷ rows) more first second (inl now) =
    elim (either (λ other. other ≡ second) rows more now.1) [
      | inl here ↦ inl (inl (now.0, here))
      | inr there ↦ inr (inl (Any-here (λ other. other ≡ first) row rows now.0, there))
    ]
ahead_by_cases (row ∷ rows) more first second (inr later) = of_rest (ahead_by_cases rows more first second later)
  where
    of_rest : ComesBefore first second rows ⊎ (IsOneOf rows first × IsOneOf more second) ⊎ ComesBefore first second more
        → ComesBefore first second (row ∷ rows) ⊎ (IsOneOf (row ∷ rows) first × IsOneOf more second) ⊎ ComesBefore first second more
    of_rest (inl rows_alone) = inl (inr rows_alone)
    of_rest (inr (inl both)) = inr (inl (Any-there (λ other. other ≡ first) row rows both.0, both.1))
    of_rest (inr (inr more_alone)) = inr (inr more_alone)

stands_ahead : (r : Resource) (lock row : LockState) → StandsBefore (queue_of r) lock row → IsAheadOf r lock row
stands_ahead r lock row stands =
    ahead_by_cases r.converting r.waiting lock row
    (subst (ComesBefore lock row) (sym stands.queued) (comes_before stands.before stands.behind lock row stands.first_among))

-- ---- one wait

not_true : (b : Bool) → (b ≡ true → ⊥) → b ≡ false
not_true true never = absurd (never refl)
not_true false never = refl

-- what is wanted is waited for
counts : (want : Option Request) → IsWaitedFor want → BlocksThoseBehind want
counts None is = is
counts (Some want) is = is

counted : (want : Option Request) → BlocksThoseBehind want → IsWaitedFor want
counted None is = is
counted (Some want) is = is

-- what is held keeps the mode out
holds_against : (mode : Mode) (held : Option Request) → (IsBeside mode held → ⊥) → IsWaitedFor held → HoldsAgainst mode held
holds_against mode None out is = is
holds_against mode (Some held) out is = (not_true (is_compatible mode held.mode) out, is)

out_of : (mode : Mode) (held : Option Request) → HoldsAgainst mode held → (IsBeside mode held → ⊥) × IsWaitedFor held
out_of mode None against = absurd against
out_of mode (Some held) against = (λ beside. let first : is_compatible mode held.mode ≡ false = against.0 in cc, against.1)

waits_on : (r : Resource) (row lock : LockState) → IsBlockedBy r row lock → WaitsOn r row lock
waits_on r row lock blocked = record {
  queued = of_queue blocked.queued;
  request = blocked.request;
  wanted = blocked.wants;
  counted = blocked.waits;
  another = blocked.another;
  kept = of_why blocked.why;
}
  where
    of_queue : IsOneOf r.converting row ⊎ IsOneOf r.waiting row → IsOneOf (r.converting ++ r.waiting) row
    of_queue (inl converts) = any_left (λ other. other ≡ row) r.converting r.waiting converts
    of_queue (inr waits) = Any-behind (λ other. other ≡ row) r.converting r.waiting waits

    of_place : IsOneOf r.granted lock ⊎ IsOneOf r.converting lock → IsOneOf (r.granted ++ r.converting) lock
    of_place (inl granted) = any_left (λ other. other ≡ lock) r.granted r.converting granted
    of_place (inr converts) = Any-behind (λ other. other ≡ lock) r.granted r.converting converts

    of_why : KeepsOut r blocked.request.mode lock ⊎ (IsAheadOf r lock row × IsWaitedFor lock.want) → KeepsWaiting r blocked.request row lock
    of_why (inl out) = inl (of_place out.0, holds_against blocked.request.mode lock.held out.1 out.2)
    of_why (inr ahead) = inr (ahead_stands r lock row ahead.0, counts lock.want ahead.1)

blocked_by : (r : Resource) (row lock : LockState) → WaitsOn r row lock → IsBlockedBy r row lock
blocked_by r row lock waits = record {
  queued = either (λ other. other ≡ row) r.converting r.waiting waits.queued;
  request = waits.request;
  wants = waits.wanted;
  waits = waits.counted;
  another = waits.another;
  why = of_why waits.kept;
}
  where
    of_why : KeepsWaiting r waits.request row lock → KeepsOut r waits.request.mode lock ⊎ (IsAheadOf r lock row × IsWaitedFor lock.want)
    of_why (inl held) =
        let out : (IsBeside waits.request.mode lock.held → ⊥) × IsWaitedFor lock.held = out_of waits.request.mode lock.held held.1 in
        inl (either (λ other. other ≡ lock) r.granted r.converting held.0, out.0, out.1)
    of_why (inr ahead) = inr (stands_ahead r lock row ahead.0, counted lock.want ahead.1)

-- on some resource
waits_for : (s : State) (row lock : LockState) → IsBlocked s row lock → WaitsFor s row lock
waits_for s row lock = Any-weaker (λ r. IsBlockedBy r row lock) (λ r. WaitsOn r row lock) (λ r. waits_on r row lock) s.resources

is_blocked : (s : State) (row lock : LockState) → WaitsFor s row lock → IsBlocked s row lock
is_blocked s row lock = Any-weaker (λ r. WaitsOn r row lock) (λ r. IsBlockedBy r row lock) (λ r. blocked_by r row lock) s.resources

-- ---- lists of processes

process_waits : (s : State) (pid other : ℕ) → IsHeldUpBy s pid other → ProcessWaitsFor s pid other
process_waits s pid other held = record {
  row = held.row;
  lock = held.lock;
  owner = held.waiter;
  holder = held.owner;
  waits = waits_for s held.row held.lock held.blocked;
}

held_up : (s : State) (pid other : ℕ) → ProcessWaitsFor s pid other → IsHeldUpBy s pid other
held_up s pid other waits = record {
  row = waits.row;
  lock = waits.lock;
  waiter = waits.owner;
  owner = waits.holder;
  blocked = is_blocked s waits.row waits.lock waits.waits;
}

leads_to : (s : State) (end pid : ℕ) (others : List ℕ) → WaitsOnTo s end pid others → LeadsTo s pid (others ++ end ∷ []) end
leads_to s end pid [] waits = (process_waits s pid end waits, refl)
leads_to s end pid (next ∷ others) waits = (process_waits s pid next waits.0, leads_to s end next others waits.1)

comes_back : (s : State) (end pid : ℕ) (others : List ℕ) → LeadsTo s pid others end → ComesBackTo s end pid
comes_back s end pid [] same = inl same
comes_back s end pid (next ∷ others) leads = inr (further pid next others leads.0 leads.1)
  where
    further : (from to : ℕ) (rest : List ℕ) → ProcessWaitsFor s from to → LeadsTo s to rest end → (list : List ℕ) × WaitsOnTo s end from list
    further from to [] waits same = ([], held_up s from end (subst (ProcessWaitsFor s from) same waits))
    further from to (x ∷ rest) waits behind =
        let more : (list : List ℕ) × WaitsOnTo s end to list = further to x rest behind.0 behind.1 in
        (to ∷ more.0, (held_up s from to waits, more.1))

-- a request that is caught is deadlocked
is_deadlocked : (s : State) (row : LockState) → IsCaught s row → IsDeadlocked s row
is_deadlocked s row caught = of_back caught.back
  where
    of_back : ComesBackTo s row.pid caught.lock.pid → IsDeadlocked s row
    of_back (inl same) = record { lock = caught.lock; waits = waits_for s row caught.lock caught.blocked; others = []; leads = same }
    of_back (inr chain) = record {
      lock = caught.lock;
      waits = waits_for s row caught.lock caught.blocked;
      others = chain.0 ++ row.pid ∷ [];
      leads = leads_to s row.pid caught.lock.pid chain.0 chain.1;
    }

is_caught : (s : State) (row : LockState) → IsDeadlocked s row → IsCaught s row
is_caught s row deadlocked = record {
  lock = deadlocked.lock;
  blocked = is_blocked s row deadlocked.lock deadlocked.waits;
  back = comes_back s row.pid deadlocked.lock.pid deadlocked.others deadlocked.leads;
}

-- ---- what a search finds

-- in a cycle somebody is deadlocked
nobody_in_cycle : (s : State) → ((row : LockState) → IsDeadlocked s row → ⊥) → NobodyWaitsInACycle s
nobody_in_cycle s nobody pid [] waits =
    nobody waits.row (record {
      lock = waits.lock;
      waits = waits_for s waits.row waits.lock waits.blocked;
      others = [];
      leads = waits.owner ∙ sym waits.waiter;
    })
nobody_in_cycle s nobody pid (next ∷ others) waits =
    nobody waits.0.row (record {
      lock = waits.0.lock;
      waits = waits_for s waits.0.row waits.0.lock waits.0.blocked;
      others = others ++ pid ∷ [];
      leads =
          subst (λ (from : ℕ). LeadsTo s from (others ++ pid ∷ []) waits.0.row.pid) (sym waits.0.owner)
          (subst (LeadsTo s next (others ++ pid ∷ [])) (sym waits.0.waiter) (leads_to s pid next others waits.1));
    })

-- without a victim nothing changes
leaves_all : (s : State) (node : ℕ) → AllByRecursion IsStable s.resources → LeavesAll s (stepped_after_sweep (step_change s (Search node) None))
unfolding search_change
leaves_all s node stable =
    let idle : IsUnswept s.processes s.resources = unswept s.processes s.resources stable in
    let same = map-id s.resources in
    rw same (record {
      state = rw (idle.resources, idle.statuses) refl;
      none_ends = idle.none_ends;
      none_queued = idle.none_queued;
    })

no_later : (row other : LockState) → wanted_number row ≤ wanted_number other → IsNoLater row other
no_later row other less first later wants wanted =
    let one : wanted_number row ≡ first.number = ap number wants in
    let two : wanted_number other ≡ later.number = ap number wanted in
    omega (arith, less, one, two)
  where
    number : Option Request → ℕ
    number want = option_map_or (λ request. request.number) want 0

-- of what ends on a list of rows, or of resources, some is so where it is so of what ends on one of them
in_all : {X : Type 0} {Y : Type 0} (P : Y → Type 0) (f : X → List Y) (xs : List X) → Any (λ x. Any P (f x)) xs → Any P (flat_map f xs)
in_all P f [] any = absurd (Any-none (λ x. Any P (f x)) any)
in_all P f (x ∷ xs) any =
    elim (Any-cases (λ y. Any P (f y)) x xs any) [
      | inl here ↦ any_left P (f x) (flat_map f xs) here
      | inr there ↦ Any-behind P (f x) (flat_map f xs) (in_all P f xs there)
    ]

-- the row is among those of its lock
in_its_rows : (row : LockState) (rows : List LockState) → IsOneOf rows row → IsOneOf (rows_of row.lkid rows) row
in_its_rows row [] one = one
in_its_rows row (first ∷ rows) one =
    elim (Any-cases (λ other. other ≡ row) first rows one) [
      | inl here ↦
          (let named : (first.lkid == row.lkid) ≡ true = eq-eqb first.lkid row.lkid (ap (λ (x : LockState). x.lkid) here) in
          rw named (Any-here (λ other. other ≡ row) first (rows_of row.lkid rows) here))
      | inr there ↦ of_test (first.lkid == row.lkid) (in_its_rows row rows there)
    ]
  where
    of_test : (b : Bool) → IsOneOf (rows_of row.lkid rows) row → IsOneOf (cond b (first ∷ rows_of row.lkid rows) (rows_of row.lkid rows)) row
    of_test true behind = Any-there (λ other. other ≡ row) first (rows_of row.lkid rows) behind
    of_test false behind = behind

-- the end is that of the row, by deadlock
abbrev IsItsDeadlock : LockState → Ending → Type 0
IsItsDeadlock row ending = (ending.how ≡ by_deadlock) × (ending.lkid ≡ row.lkid) × (Some ending.request ≡ row.want)

row_ends : (row : LockState) (request : Request) → row.want ≡ Some request → Any (IsItsDeadlock row) (row_endings by_deadlock false row)
row_ends row request wants = of_want row.want wants refl
  where
    of_want : (want : Option Request) → want ≡ Some request → row.want ≡ want → Any (IsItsDeadlock row) (wanted_endings by_deadlock false row.lkid row.pid want)
    of_want None is same = cc
    of_want (Some wanted) is same = Any-here (IsItsDeadlock row) _ [] (refl, refl, sym same)

queue_ends : (row : LockState) (request : Request) → row.want ≡ Some request → (rows : List LockState) → IsOneOf rows row
    → Any (IsItsDeadlock row) (queue_endings by_deadlock row.lkid rows)
queue_ends row request wants rows one =
    in_all (IsItsDeadlock row) (row_endings by_deadlock false) (rows_of row.lkid rows)
    (Any-weaker (λ other. other ≡ row) (λ other. Any (IsItsDeadlock row) (row_endings by_deadlock false other))
    (λ other same. subst (λ (x : LockState). Any (IsItsDeadlock row) (row_endings by_deadlock false x)) (sym same) (row_ends row request wants))
    (rows_of row.lkid rows) (in_its_rows row rows one))

-- on the resource where it is queued
victim_ends_on : (row lock : LockState) (r : Resource) → WaitsOn r row lock → Any (IsItsDeadlock row) (withdrawal_endings (deadlock_of row.lkid) r)
victim_ends_on row lock r waits =
    elim (either (λ other. other ≡ row) r.converting r.waiting waits.queued) [
      | inl converts ↦
          any_left (IsItsDeadlock row) (queue_endings by_deadlock row.lkid r.converting) (queue_endings by_deadlock row.lkid r.waiting)
          (queue_ends row waits.request waits.wanted r.converting converts)
      | inr waiting ↦
          Any-behind (IsItsDeadlock row) (queue_endings by_deadlock row.lkid r.converting) (queue_endings by_deadlock row.lkid r.waiting)
          (queue_ends row waits.request waits.wanted r.waiting waiting)
    ]

-- a victim's request ends by deadlock
victim_ends : (s : State) (victim : LockState) → IsDeadlocked s victim → Any (IsItsDeadlock victim) (search_endings s (Some victim))
victim_ends s victim deadlocked =
    any_left (IsItsDeadlock victim) (flat_map (withdrawal_endings (deadlock_of victim.lkid)) s.resources) []
    (in_all (IsItsDeadlock victim) (withdrawal_endings (deadlock_of victim.lkid)) s.resources
    (Any-weaker (λ r. WaitsOn r victim deadlocked.lock) (λ r. Any (IsItsDeadlock victim) (withdrawal_endings (deadlock_of victim.lkid) r))
    (λ r. victim_ends_on victim deadlocked.lock r) s.resources deadlocked.waits))

finds : (s : State) (node : ℕ) (choice : Option LockState) → AllByRecursion IsStable s.resources → IsVictim s choice → (lkid : Option ℕ)
    → (step_change s (Search node) choice).answer ≡ Victim lkid
    → FindsWhoIsCaught s (stepped_after_sweep (step_change s (Search node) choice)) lkid
finds s node None stable nobody None answered = (nobody_in_cycle s nobody, leaves_all s node stable)
finds s node None stable nobody (Some lkid) answered = cc
finds s node (Some victim) stable deadlocked None answered = cc
finds s node (Some victim) stable deadlocked (Some lkid) answered = record {
  row = victim;
  lock = same_lkid answered;
  caught = is_caught s victim deadlocked.0;
  last = λ other caught. no_later other victim (deadlocked.1 other (is_deadlocked s other caught));
  ended =
      any_left (IsItsDeadlock victim) (search_endings s (Some victim)) (sweep_endings (search_change s (Some victim)).resources)
      (victim_ends s victim deadlocked.0);
}
  where
    same_lkid : Victim (Some victim.lkid) ≡ Victim (Some lkid) → victim.lkid ≡ lkid
    same_lkid is = cc

-- after every run
pub finds_always : (history : History) (old : State) → Run history old → (node : ℕ) (choice : Option LockState) → IsChoice old (Search node) choice
    → (lkid : Option ℕ) → (stepped old (Search node) choice).answer ≡ Victim lkid → FindsWhoIsCaught old (stepped old (Search node) choice) lkid
finds_always history old run node choice chosen lkid answered = of_refusal (search_refusal old node) chosen answered
  where
    of_refusal : (refusal : Option Cond) → IsSearchedFor refusal old choice
        → (refused_or refusal old (step_change old (Search node) choice)).answer ≡ Victim lkid
        → FindsWhoIsCaught old (refused_or refusal old (step_change old (Search node) choice)) lkid
    of_refusal None victim is = finds old node choice (stable_law history old run) victim lkid is
    of_refusal (Some refusal) none is = cc
