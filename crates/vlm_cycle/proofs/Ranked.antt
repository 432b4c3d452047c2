-- A request that waits only for processes of lower rank is not deadlocked.
use Rattle.std.proofs.Common.{◌≡◌, ◌⊎◌, ℕ, ◌<◌, ◌≤◌, ◌+◌, true, false, Bool, List, [], ◌∷◌, ◌++◌, Option, None, Some}
use Rattle.std.proofs.Common.{IsSome, refl, sym, ap, ◌∙◌, subst, inl, inr, arith, eq-eqb, ne_eqb}
use Rattle.std.specs.Prelude.{find, ◌==◌}
use Rattle.std.specs.Option.{option_map_or}
use Rattle.std.proofs.lemmas.Bool.{cases_eq}
use Rattle.vlm_words.specs.declared.locks.Request.{Request}
use Rattle.vlm_words.specs.declared.locks.LockState.{LockState}
use Rattle.vlm_words.specs.declared.modes.Mode.{Mode}
use Rattle.vlm_words.specs.declared.resources.Queue.{Queue}
use Rattle.vlm_words.specs.declared.resources.Queue.TheVariants.{Granted, Conversion, Waiting}
use Rattle.vlm_model.specs.Deadlocks.{BlocksThoseBehind, HoldsAgainst, IsDeadlocked, LeadsTo, WaitsFor}
use Rattle.vlm_words.specs.Flags.{flag_bits, has_flag, nodlckwt}
use Rattle.vlm_collections.specs.Lists.{IsIn}
use Rattle.vlm_records.specs.declared.handles.Place.TheVariants.{Queued}
use Rattle.vlm_store.specs.Records.{AreProcessesApart, HasResource, IsProcess, IsSound, Records, StoredLock}
use Rattle.vlm_store.specs.Records.{StoredProcess, StoredResource, Stores, at_after, locks_at, queued, resource_at}
use Rattle.vlm_store.specs.Records.{rows_of_locks}
use Rattle.vlm_store.proofs.Walks.{at_lock}
use Rattle.vlm_queue.specs.Walks.{IsInQueue, rows_to_walk, rows_queued}
use Rattle.vlm_queue.proofs.Walking.{passes}
use Rattle.vlm_locks.proofs.QueuedLocks.{one_lock, resource_among}
use Rattle.vlm_locks.specs.declared.located_locks.LocatedLock.{LocatedLock}
use Rattle.vlm_locks.specs.Standing.{IsLocated}
use Rattle.vlm_cycle.proofs.Listed.{before_step}
use Rattle.vlm_cycle.specs.declared.blocker_ranks.BlockerRanks.{BlockerRanks}
use Rattle.vlm_cycle.specs.declared.blocker_ranks.HighestRank.{HighestRank}
use Rattle.vlm_cycle.specs.Ranks.{Ranks}
use Rattle.vlm_cycle.specs.Ranking.{CountsHeld, CountsHolders, Falls, FallsOn, HasPassed, IsAboveAll, AreBlockerRanksAt}
use Rattle.vlm_cycle.specs.Ranking.{AreBlockerRanksOf, PassesQueue, PassesOne, rank_at, rank_of}
use Rattle.vlm_cycle.specs.Waiting.{OwnsWaitedFor, OwnsBefore, OwnsBlocker, OwnsHolder, OwnsKeeper, rows_before, searched}
use Rattle.vlm_cycle.proofs.Keeping.{none_waited, none_wanted, waited_keeps}
use Rattle.vlm_collections.proofs.HandleLists.{in_either}

-- ---- ranks

-- the rank of a process is that noted under its handle
pub rank_is : (s : Records) (ranks : Ranks) → IsSound s → (at pid : ℕ) → IsProcess at pid s → rank_at ranks at ≡ rank_of s ranks pid
unfolding rank_of
rank_is s ranks sound at pid lives = sym (of_found s.processes sound.processes_apart lives.0 lives.1.0 lives.1.1 lives.1.2)
  where
    of_found : (ps : List StoredProcess) → AreProcessesApart ps → (p : StoredProcess) → IsIn p ps → p.at ≡ at → p.process.pid ≡ pid
        → option_map_or (λ (q : StoredProcess). rank_at ranks q.at) (find (λ (q : StoredProcess). q.process.pid == pid) ps) 0 ≡ rank_at ranks at
    of_found [] apart p there is named = absurd there
    of_found (x ∷ ps) apart p there is named = elim (cases_eq x.process.pid pid) [
      | inl same ↦ rw (eq-eqb x.process.pid pid same) (elim there [
        | inl here ↦ ap (rank_at ranks) (ap (λ (q : StoredProcess). q.at) here ∙ is)
        | inr later ↦ absurd ((apart.0 p later).1 (named ∙ sym same))
      ])
      | inr differs ↦ rw (ne_eqb x.process.pid pid differs) (elim there [
        | inl here ↦ absurd (differs (ap (λ (q : StoredProcess). q.process.pid) here ∙ named))
        | inr later ↦ of_found ps apart.1 p later is named
      ])
    ]

-- along a list of processes, each of which waits for the next, the rank does not rise
leads_down : (s : Records) (ranks : Ranks) → Falls s ranks → (pid : ℕ) (others : List ℕ) (last : ℕ) → LeadsTo (searched s) pid others last
    → rank_of s ranks last ≤ rank_of s ranks pid
leads_down s ranks falls pid [] last leads = subst (λ p. rank_of s ranks p ≤ rank_of s ranks pid) leads (omega arith)
leads_down s ranks falls pid (next ∷ others) last leads =
    let w = leads.0 in
    let from : rank_of s ranks w.lock.pid ≤ rank_of s ranks pid =
    subst (λ p. rank_of s ranks w.lock.pid ≤ rank_of s ranks p) w.owner (falls w.row w.lock w.waits) in
    let one : rank_of s ranks next ≤ rank_of s ranks pid = subst (λ p. rank_of s ranks p ≤ rank_of s ranks pid) w.holder from in
    let rest = leads_down s ranks falls next others last leads.1 in
    omega (arith, one, rest)

-- so a request that waits for lower ranks alone is not deadlocked
pub below_alive : (s : Records) (ranks : Ranks) → Falls s ranks → (row : LockState)
    → ((pid : ℕ) → OwnsWaitedFor s row pid → rank_of s ranks pid < rank_of s ranks row.pid) → IsDeadlocked (searched s) row → ⊥
below_alive s ranks falls row below dead =
    let first = below dead.lock.pid (dead.lock, (dead.waits, refl)) in
    let last = leads_down s ranks falls dead.lock.pid dead.others row.pid dead.leads in
    omega (arith, first, last)

pub certain_alive : (s : Records) (ranks : Ranks) (row : LockState) (rank top : ℕ) → Falls s ranks → rank ≡ rank_of s ranks row.pid → top ≤ rank
    → ((pid : ℕ) → OwnsWaitedFor s row pid → rank_of s ranks pid < top) → IsDeadlocked (searched s) row → ⊥
certain_alive s ranks row rank top falls is less below =
    below_alive s ranks falls row (λ pid waited. (let under = below pid waited in omega (arith, under, less, is)))

-- ---- the gauge at a lock

-- a lock to which a walk has come stands in that queue
pub located_there : (s : Records) → IsSound s → (res : ℕ) (queue : Queue) (lock owner : ℕ) (row : LockState)
    → HasResource res s → IsInQueue res queue (Some lock) s → Stores s lock row → IsProcess owner row.pid s
    → IsLocated (record { lock = lock; owner = owner; row = row; res = res; queue = queue }) s
located_there s sound res queue lock owner row there come stored owned =
    let among = come lock refl in
    let same = one_lock s sound lock among.0 row (Queued res queue, among.1) stored in
    of_found (resource_at res s.resources) refl there
    (subst (λ (r : LockState). IsIn (record { at = lock; row = r }) (locks_at (Queued res queue) s)) same among.1)
  where
    of_found : (o : Option StoredResource) → resource_at res s.resources ≡ o → IsSome o
        → IsIn (record { at = lock; row = row }) (option_map_or (queued queue) o [])
        → IsLocated (record { lock = lock; owner = owner; row = row; res = res; queue = queue }) s
    of_found None is some among = cc
    of_found (Some r) is some among = record { resource = r; found = is; among = among; owner = owned; sound = sound }

-- the owner of a holder is below
holder_below : (s : Records) (ranks : Ranks) (peaks : List HighestRank) (lkid : ℕ) (mode : Mode) (rows : List LockState)
    (top : ℕ) → CountsHolders s ranks peaks rows → IsAboveAll peaks mode lkid top
    → (pid : ℕ) → OwnsHolder lkid mode rows pid → rank_of s ranks pid < top
holder_below s ranks peaks lkid mode rows top counts above pid some =
    let row = some.0 in
    subst (λ p. rank_of s ranks p < top) some.1.2 (of_held row.held (counts row some.1.0) some.1.1.1)
  where
    of_held : (held : Option Request) → CountsHeld peaks held some.0.lkid (rank_of s ranks some.0.pid)
        → HoldsAgainst mode held → rank_of s ranks some.0.pid < top
    of_held None counted against = absurd against
    of_held (Some held) counted against = above held.mode against.0 some.0.lkid (rank_of s ranks some.0.pid) some.1.1.0 (counted against.1)

-- the owner of any lock that keeps a request waiting is below
keeper_below : (s : Records) (ranks : Ranks) (blocker_ranks : BlockerRanks) (lkid : ℕ) (mode : Mode) (queue : Queue)
    (granted converting waiting : List LockState) (top : ℕ)
    → CountsHolders s ranks blocker_ranks.held granted → CountsHolders s ranks blocker_ranks.held converting
    → ((pid : ℕ) → OwnsBefore lkid queue converting waiting pid → rank_of s ranks pid < blocker_ranks.before)
    → IsAboveAll blocker_ranks.held mode lkid top → blocker_ranks.before ≤ top
    → (pid : ℕ) → OwnsKeeper lkid mode queue granted converting waiting pid → rank_of s ranks pid < top
keeper_below s ranks blocker_ranks lkid mode queue granted converting waiting top in_granted in_converting passed above before pid keeper = elim keeper [
  | inl first ↦ holder_below s ranks blocker_ranks.held lkid mode granted top in_granted above pid first
  | inr more ↦ elim more [
    | inl second ↦ holder_below s ranks blocker_ranks.held lkid mode converting top in_converting above pid second
    | inr third ↦ (let below = passed pid third in omega (arith, below, before))
  ]
]

-- a flag is set or not
flag_set : (b : Bool) → (b ≡ true) ⊎ (b ≡ false)
flag_set true = inl refl
flag_set false = inr refl

-- what is above for what a row wants is above the ranks of all that it waits for
pub top_above : (s : Records) (ranks : Ranks) → IsSound s → (blocker_ranks : BlockerRanks) (f : LocatedLock)
    → IsLocated f s → AreBlockerRanksAt s ranks blocker_ranks f → (top : ℕ)
    → ((want : Request) → f.row.want ≡ Some want → has_flag (flag_bits want.flags) nodlckwt ≡ false → IsAboveAll blocker_ranks.held want.mode f.row.lkid top)
    → ((want : Request) → f.row.want ≡ Some want → has_flag (flag_bits want.flags) nodlckwt ≡ false → blocker_ranks.before ≤ top)
    → (pid : ℕ) → OwnsWaitedFor s f.row pid → rank_of s ranks pid < top
top_above s ranks sound blocker_ranks f located at top above before pid waited = of_want f.row.want refl
  where
    own : StoredResource
    own = located.resource

    there : IsIn own s.resources
    there = resource_among f.res s.resources own located.found

    lock : StoredLock
    lock = record { at = f.lock; row = f.row }

    rows_of : Queue → Option StoredResource → List LockState
    rows_of queue o = rows_of_locks (option_map_or (queued queue) o [])

    of_want : (want : Option Request) → f.row.want ≡ want → rank_of s ranks pid < top
    of_want None is = absurd (none_wanted s sound own there lock f.queue located.among is pid waited)
    of_want (Some want) is = elim (flag_set (has_flag (flag_bits want.flags) nodlckwt)) [
      | inl set ↦ absurd (none_waited s sound own there lock f.queue located.among want is set pid waited)
      | inr counted ↦
          keeper_below s ranks blocker_ranks f.row.lkid want.mode f.queue (rows_queued f.res Granted s)
          (rows_queued f.res Conversion s) (rows_queued f.res Waiting s) top
          at.granted at.converting at.passed (above want is counted) (before want is counted) pid
          (subst (λ o. OwnsKeeper f.row.lkid want.mode f.queue (rows_of Granted o) (rows_of Conversion o) (rows_of Waiting o) pid) (sym located.found)
          (waited_keeps s sound own there lock f.queue located.among want is pid waited))
    ]

-- ---- the gauge along a queue

-- a walk has come to this row
pub record IsAtRow (s : Records) (res : ℕ) (queue : Queue) (lock : ℕ) (row : LockState) : Type 0 where
  pub rest : List LockState
  pub left : rows_to_walk res queue (Some lock) s ≡ row ∷ rest

pub at_row : (s : Records) (res : ℕ) (queue : Queue) (lock : ℕ) (row : LockState) → IsSound s
    → IsInQueue res queue (Some lock) s → ((r : LockState) → Stores s lock r → r ≡ row) → IsAtRow s res queue lock row
at_row s res queue lock row sound come only =
    let ks = locks_at (Queued res queue) s in
    let next = at_after lock ks in
    let stands = at_lock lock ks (sound.locks_apart (Queued res queue)) (come lock refl) in
    let one = passes s res queue lock next sound come
    (λ place r there. ap (λ p. at_after lock (locks_at p s)) (sound.one_place lock stands.row r (Queued res queue) place stands.among there)) in
    record { rest = rows_to_walk res queue next s; left = one.left ∙ ap (λ (r : LockState). r ∷ rows_to_walk res queue next s) (only one.row one.stored) }

-- the requests of a queue are passed up to those that are left
pub record IsPassing (s : Records) (ranks : Ranks) (all left : List LockState) (old now : BlockerRanks) : Type 0 where
  pub held : now.held ≡ old.held
  pub before : old.before ≤ now.before
  pub passed : (lkid : ℕ) (row : LockState) → IsIn row (rows_before lkid all)
      → (BlocksThoseBehind row.want → rank_of s ranks row.pid < now.before) ⊎ IsIn row (rows_before lkid left)

-- at its head none is passed
pub passing_begun : (s : Records) (ranks : Ranks) (all left : List LockState) (blocker_ranks : BlockerRanks)
    → left ≡ all → IsPassing s ranks all left blocker_ranks blocker_ranks
passing_begun s ranks all left blocker_ranks is = record {
  held = refl;
  before = omega arith;
  passed = λ lkid row there. inr (subst (λ rows. IsIn row (rows_before lkid rows)) (sym is) there);
}

-- one more is passed
pub passing_on : (s : Records) (ranks : Ranks) (all left rest : List LockState) (row : LockState)
    (old now after : BlockerRanks) → left ≡ row ∷ rest → PassesOne row (rank_of s ranks row.pid) now after
    → IsPassing s ranks all left old now → IsPassing s ranks all rest old after
passing_on s ranks all left rest row old now after is one passing = record {
  held = one.held ∙ passing.held;
  before = (let first = passing.before in let second = one.before in omega (arith, first, second));
  passed = λ lkid x there. elim (passing.passed lkid x there) [
    | inl counted ↦ inl (λ blocks. (let below = counted blocks in let more = one.before in omega (arith, below, more)))
    | inr later ↦ elim (cases_eq row.lkid lkid) [
      | inl same ↦ absurd (rw (eq-eqb row.lkid lkid same) at (subst (λ rows. IsIn x (rows_before lkid rows)) is later))
      | inr differs ↦ elim (subst (λ rows. IsIn x rows) (before_step lkid row rest differs) (subst (λ rows. IsIn x (rows_before lkid rows)) is later)) [
        | inl here ↦ inl (subst (λ (y : LockState). BlocksThoseBehind y.want → rank_of s ranks y.pid < after.before) here one.passed)
        | inr behind ↦ inr behind
      ]
    ]
  ];
}

-- at its end all are passed
pub passing_ended : (s : Records) (ranks : Ranks) (all left : List LockState) (old now : BlockerRanks) → left ≡ []
    → IsPassing s ranks all left old now → PassesQueue s ranks all old now
passing_ended s ranks all left old now is passing = record {
  held = passing.held;
  before = passing.before;
  passed = λ lkid pid some. elim (passing.passed lkid some.0 some.1.0) [
    | inl counted ↦ subst (λ p. rank_of s ranks p < now.before) some.1.2 (counted some.1.1)
    | inr later ↦ absurd (subst (λ rows. IsIn some.0 (rows_before lkid rows)) is later)
  ];
}

-- at a lock the requests before it are passed
before_passed : (s : Records) (ranks : Ranks) (all left rest : List LockState) (row : LockState)
    (old now : BlockerRanks) → left ≡ row ∷ rest → IsPassing s ranks all left old now
    → (pid : ℕ) → OwnsBlocker (rows_before row.lkid all) pid → rank_of s ranks pid < now.before
before_passed s ranks all left rest row old now is passing pid some = elim (passing.passed row.lkid some.0 some.1.0) [
  | inl counted ↦ subst (λ p. rank_of s ranks p < now.before) some.1.2 (counted some.1.1)
  | inr later ↦ absurd (rw (eq-eqb row.lkid row.lkid refl) at (subst (λ rows. IsIn some.0 (rows_before row.lkid rows)) is later))
]

-- so the gauge is that at the lock
pub gauge_at : (s : Records) (ranks : Ranks) (res : ℕ) (queue : Queue) (left rest : List LockState)
    (old now : BlockerRanks) (f : LocatedLock) → left ≡ f.row ∷ rest → f.res ≡ res → f.queue ≡ queue
    → AreBlockerRanksOf s ranks old res queue → IsPassing s ranks (rows_queued res queue s) left old now → AreBlockerRanksAt s ranks now f
gauge_at s ranks res queue left rest old now f is its_res its_queue of passing = record {
  granted = subst (λ x. CountsHolders s ranks now.held (rows_queued x Granted s)) (sym its_res)
      (subst (λ h. CountsHolders s ranks h (rows_queued res Granted s)) (sym passing.held) of.granted);
  converting = subst (λ x. CountsHolders s ranks now.held (rows_queued x Conversion s)) (sym its_res)
      (subst (λ h. CountsHolders s ranks h (rows_queued res Conversion s)) (sym passing.held) of.converting);
  passed =
      subst (λ x. (pid : ℕ) → OwnsBefore f.row.lkid f.queue (rows_queued x Conversion s) (rows_queued x Waiting s) pid
      → rank_of s ranks pid < now.before) (sym its_res)
      (subst (λ q. (pid : ℕ) → OwnsBefore f.row.lkid q (rows_queued res Conversion s) (rows_queued res Waiting s) pid
      → rank_of s ranks pid < now.before) (sym its_queue)
      (of_queue queue of.passed (before_passed s ranks (rows_queued res queue s) left rest f.row old now is passing)));
}
  where
    of_queue : (q : Queue) → HasPassed s ranks old.before res q
        → ((pid : ℕ) → OwnsBlocker (rows_before f.row.lkid (rows_queued res q s)) pid
        → rank_of s ranks pid < now.before)
        → (pid : ℕ) → OwnsBefore f.row.lkid q (rows_queued res Conversion s) (rows_queued res Waiting s) pid → rank_of s ranks pid < now.before
    of_queue Granted passed here pid some = absurd some
    of_queue Conversion passed here pid some = here pid some
    of_queue Waiting passed here pid some = elim some [
      | inl first ↦ (let below = passed f.row.lkid pid first in let more = passing.before in omega (arith, below, more))
      | inr second ↦ here pid second
    ]

-- behind the conversions the gauge is at the head of the waiting ones
pub gauge_next : (s : Records) (ranks : Ranks) (res : ℕ) (old now : BlockerRanks)
    → AreBlockerRanksOf s ranks old res Conversion → PassesQueue s ranks (rows_queued res Conversion s) old now
    → AreBlockerRanksOf s ranks now res Waiting
gauge_next s ranks res old now of passes = record {
  granted = subst (λ h. CountsHolders s ranks h (rows_queued res Granted s)) (sym passes.held) of.granted;
  converting = subst (λ h. CountsHolders s ranks h (rows_queued res Conversion s)) (sym passes.held) of.converting;
  passed = passes.passed;
}

-- ---- whether all fall

-- the requests of these rows wait for no process of a higher rank, but for those that are left
abbrev pub FallsBut : Records → Ranks → List LockState → List LockState → Type 0
FallsBut s ranks all left =
    (row lock : LockState) → IsIn row all → WaitsFor (searched s) row lock → (rank_of s ranks lock.pid ≤ rank_of s ranks row.pid) ⊎ IsIn row left

pub falls_begun : (s : Records) (ranks : Ranks) (all left : List LockState) → left ≡ all → FallsBut s ranks all left
falls_begun s ranks all left is row lock there waits = inr (subst (IsIn row) (sym is) there)

pub falls_on : (s : Records) (ranks : Ranks) (all left some rest : List LockState) → left ≡ some ++ rest
    → FallsOn s ranks some → FallsBut s ranks all left → FallsBut s ranks all rest
falls_on s ranks all left some rest is falls but row lock there waits = elim (but row lock there waits) [
  | inl less ↦ inl less
  | inr later ↦ elim (in_either row some rest (subst (IsIn row) is later)) [
    | inl here ↦ inl (falls row lock here waits)
    | inr behind ↦ inr behind
  ]
]

pub falls_ended : (s : Records) (ranks : Ranks) (all left : List LockState) → left ≡ [] → FallsBut s ranks all left → FallsOn s ranks all
falls_ended s ranks all left is but row lock there waits = elim (but row lock there waits) [
  | inl less ↦ less
  | inr later ↦ absurd (subst (IsIn row) is later)
]

-- one request falls where what is above all that it waits for is at most one more than the rank of its owner
pub falls_one : (s : Records) (ranks : Ranks) (row : LockState) (rank top : ℕ) → rank ≡ rank_of s ranks row.pid → top ≤ rank + 1
    → ((pid : ℕ) → OwnsWaitedFor s row pid → rank_of s ranks pid < top) → FallsOn s ranks (row ∷ [])
falls_one s ranks row rank top is less below x lock there waits = elim there [
  | inl here ↦
      (let under = below lock.pid (lock, (subst (λ y. WaitsFor (searched s) y lock) (sym here) waits, refl)) in
      let bound : rank_of s ranks lock.pid ≤ rank_of s ranks row.pid = omega (arith, is, less, under) in
      subst (λ (y : LockState). rank_of s ranks lock.pid ≤ rank_of s ranks y.pid) here bound)
  | inr later ↦ absurd later
]

-- both of two lists fall
pub falls_both : (s : Records) (ranks : Ranks) (xs ys : List LockState) → FallsOn s ranks xs → FallsOn s ranks ys → FallsOn s ranks (xs ++ ys)
falls_both s ranks xs ys first second row lock there waits = elim (in_either row xs ys there) [
  | inl left ↦ first row lock left waits
  | inr right ↦ second row lock right waits
]
