-- The result of a search.
use Rattle.std.proofs.Common.{◌≡◌, ◌<◌, ◌≤◌, ℕ, Bool, true, false, List, [], ◌∷◌, ◌++◌, ◌+◌, Some, refl, sym, ap, ◌∙◌, subst, inl, inr, arith}
use Rattle.std.specs.Bool.{OnFalse}
use Rattle.std.proofs.lemmas.Bool.{cases_eq}
use Rattle.vlm_words.specs.declared.locks.LockState.{LockState}
use Rattle.vlm_model.specs.Deadlocks.{IsDeadlocked, LeadsTo, WaitsFor}
use Rattle.vlm_collections.specs.Lists.{IsIn}
use Rattle.vlm_records.specs.NodeMarks.{is_marked}
use Rattle.vlm_store.specs.Records.{IsSound, Records, StoredProcess}
use Rattle.vlm_cycle.specs.declared.scratch.Scratch.{Scratch}
use Rattle.vlm_locks.specs.declared.located_locks.LocatedLock.{LocatedLock}
use Rattle.vlm_locks.specs.Standing.{IsLocated}
use Rattle.vlm_cycle.specs.Covering.{IsNearBehind, OwnsNear}
use Rattle.vlm_cycle.specs.Marking.{IsClear, TakesNext, Marks}
use Rattle.vlm_cycle.specs.Waiting.{IsBehind, IsRoomy, OwnsWaitedFor, searched}
use Rattle.vlm_cycle.proofs.Closing.{behind_seen, near_waited, waited_seen}
use Rattle.vlm_cycle.proofs.Keeping.{lock_stored}
use Rattle.vlm_cycle.proofs.MarksOneByOne.{of_mark, roomy_still}

-- the process is led to from a lock that the request waits for
pub record IsLedTo (s : Records) (row : LockState) (pid : ℕ) : Type 0 where
  pub first : ℕ
  pub waits : OwnsWaitedFor s row first
  pub others : List ℕ
  pub leads : LeadsTo (searched s) first others pid

-- led back to its own process the request is deadlocked
pub led_back : (s : Records) (row : LockState) → IsLedTo s row row.pid → IsDeadlocked (searched s) row
led_back s row led = record {
  lock = led.waits.0;
  waits = led.waits.1.0;
  others = led.others;
  leads = subst (λ pid. LeadsTo (searched s) pid led.others row.pid) (sym led.waits.1.1) led.leads;
}

-- it is one of the living processes
abbrev pub IsLiving : Records → ℕ → Type 0
IsLiving s pid = (p : StoredProcess) × (IsIn p s.processes × (p.process.pid ≡ pid))

-- what is found is led to; what the search looks at first is found, and what it looks at for each process to which it
-- need not go
pub record IsSearched (s : Records) (f : LocatedLock) (marks : Scratch) : Type 0 where
  pub led : (pid : ℕ) → is_marked marks.seen pid ≡ true → IsLedTo s f.row pid
  pub begun : (pid : ℕ) → OwnsNear s f pid → is_marked marks.seen pid ≡ true
  pub closed : (pid other : ℕ) → is_marked marks.seen pid ≡ true → is_marked marks.todo pid ≡ false
      → IsNearBehind s pid other → is_marked marks.seen other ≡ true
  pub within : (pid : ℕ) → is_marked marks.todo pid ≡ true → is_marked marks.seen pid ≡ true
  pub living : (pid : ℕ) → is_marked marks.seen pid ≡ true → IsLiving s pid
  pub roomy : IsRoomy s marks

-- what a process costs the search yet: twice where it is not found, once where it is and the search has to go to it
abbrev pub cost : Bool → Bool → ℕ
cost false todo = 2
cost true true = 1
cost true false = 0

-- what all of them cost
abbrev pub to_go : Scratch → List StoredProcess → ℕ
to_go marks [] = 0
to_go marks (p ∷ processes) = cost (is_marked marks.seen p.process.pid) (is_marked marks.todo p.process.pid) + to_go marks processes

-- no mark is there and not there
both_ways : (b : Bool) → b ≡ true → b ≡ false → ⊥
both_ways b yes_is no_is = let never : true ≡ false = sym yes_is ∙ no_is in cc

module _ (s : Records) (sound : IsSound s) where
  -- the owner of a lock that is waited for lives
  owner_living : (row lock : LockState) → WaitsFor (searched s) row lock → (pid : ℕ) → lock.pid ≡ pid → IsLiving s pid
  owner_living row lock waits pid is =
      let stored = lock_stored s sound row lock waits in
      let owned = sound.owned.owned stored.0 lock (inl stored.1) in
      (owned.0, (owned.2.0, owned.2.1 ∙ is))

  -- a search looks only at what the process waits for
  near_behind : (pid other : ℕ) → IsNearBehind s pid other → IsBehind s pid other
  near_behind pid other behind =
      let waited = near_waited s behind.from behind.located other behind.near in
      record { row = behind.from.row; lock = waited.0; owner = behind.owner; holder = waited.1.1; waits = waited.1.0 }

  -- at first those are found that the search looks at
  pub searched_begun : (f : LocatedLock) → IsLocated f s → (a b : Scratch) → IsClear a → Marks (OwnsNear s f) a b → IsRoomy s b → IsSearched s f b
  searched_begun f located a b clear marks roomy = record {
    led = λ pid is. elim (marks.others pid (clear.seen pid)) [
      | inl found ↦ record { first = pid; waits = near_waited s f located pid found.1; others = []; leads = refl }
      | inr not ↦ absurd (both_ways (is_marked b.seen pid) is not.0.0)
    ];
    begun = λ pid waits. elim (marks.others pid (clear.seen pid)) [
      | inl found ↦ found.0.0
      | inr not ↦ absurd (not.1 waits)
    ];
    closed = λ pid other is gone behind. elim (marks.others pid (clear.seen pid)) [
      | inl found ↦ absurd (both_ways (is_marked b.todo pid) found.0.1 gone)
      | inr not ↦ absurd (both_ways (is_marked b.seen pid) is not.0.0)
    ];
    within = λ pid is. elim (marks.others pid (clear.seen pid)) [
      | inl found ↦ found.0.0
      | inr not ↦ absurd (both_ways (is_marked b.todo pid) is (not.0.1 ∙ clear.todo pid))
    ];
    living = λ pid is. elim (marks.others pid (clear.seen pid)) [
      | inl found ↦ (let waited = near_waited s f located pid found.1 in owner_living f.row waited.0 waited.1.0 pid waited.1.1)
      | inr not ↦ absurd (both_ways (is_marked b.seen pid) is not.0.0)
    ];
    roomy = roomy;
  }

  -- a list of processes that goes on by one
  lead_more : (first : ℕ) (others : List ℕ) (pid other : ℕ) → LeadsTo (searched s) first others pid
      → IsBehind s pid other → LeadsTo (searched s) first (others ++ other ∷ []) other
  lead_more first [] pid other leads behind = (subst (λ p. IsBehind s p other) (sym leads) behind, refl)
  lead_more first (next ∷ others) pid other leads behind = (leads.0, lead_more next others pid other leads.1 behind)

  module _ (f : LocatedLock) (a b c : Scratch) (pid : ℕ) (so_far : IsSearched s f a) (taken : TakesNext (Some pid) a b)
      (marks : Marks (IsNearBehind s pid) b c) where
    same_seen : (other : ℕ) → is_marked b.seen other ≡ is_marked a.seen other
    same_seen other = ap (λ m. is_marked m other) taken.2

    it_is_seen : is_marked a.seen pid ≡ true
    it_is_seen = so_far.within pid taken.0

    stays : (other : ℕ) → is_marked a.seen other ≡ true → is_marked c.seen other ≡ true
    stays other is = (marks.before other (same_seen other ∙ is)).0

    pub searched_on : IsSearched s f c
    searched_on = record {
      led = λ other is. elim (of_mark (is_marked a.seen other)) [
        | inl was ↦ so_far.led other was
        | inr was ↦ elim (marks.others other (same_seen other ∙ was)) [
          | inl found ↦
              (let led = so_far.led pid it_is_seen in
              record {
                first = led.first;
                waits = led.waits;
                others = led.others ++ other ∷ [];
                leads =
                    lead_more led.first led.others pid other led.leads (near_behind pid other found.1);
              })
          | inr not ↦ absurd (both_ways (is_marked c.seen other) is not.0.0)
        ]
      ];
      begun = λ other waits. stays other (so_far.begun other waits);
      closed = λ p other is gone behind. elim (cases_eq p pid) [
        | inl same ↦ elim (of_mark (is_marked a.seen other)) [
          | inl was ↦ stays other was
          | inr was ↦ elim (marks.others other (same_seen other ∙ was)) [
            | inl found ↦ found.0.0
            | inr not ↦ absurd (not.1 (subst (λ q. IsNearBehind s q other) same behind))
          ]
        ]
        | inr differs ↦ elim (of_mark (is_marked a.seen p)) [
          | inl was ↦
              stays other
              (so_far.closed p other was (sym (taken.3 p differs) ∙ sym (marks.before p (same_seen p ∙ was)).1 ∙ gone) behind)
          | inr was ↦ elim (marks.others p (same_seen p ∙ was)) [
            | inl found ↦ absurd (both_ways (is_marked c.todo p) found.0.1 gone)
            | inr not ↦ absurd (both_ways (is_marked c.seen p) is not.0.0)
          ]
        ]
      ];
      within = λ p is. elim (of_mark (is_marked a.seen p)) [
        | inl was ↦ stays p was
        | inr was ↦ elim (marks.others p (same_seen p ∙ was)) [
          | inl found ↦ found.0.0
          | inr not ↦ elim (cases_eq p pid) [
            | inl same ↦ absurd (both_ways (is_marked a.seen p) (ap (is_marked a.seen) same ∙ it_is_seen) was)
            | inr differs ↦ absurd (both_ways (is_marked a.seen p) (so_far.within p (sym (taken.3 p differs) ∙ sym not.0.1 ∙ is)) was)
          ]
        ]
      ];
      living = λ other is. elim (of_mark (is_marked a.seen other)) [
        | inl was ↦ so_far.living other was
        | inr was ↦ elim (marks.others other (same_seen other ∙ was)) [
          | inl found ↦ (let behind = near_behind pid other found.1 in owner_living behind.row behind.lock behind.waits other behind.holder)
          | inr not ↦ absurd (both_ways (is_marked c.seen other) is not.0.0)
        ]
      ];
      roomy = roomy_still s b c marks.room (roomy_still s a b taken.4 so_far.roomy);
    }

    -- ---- it ends

    most : (x y : Bool) → cost x y ≤ 2
    most false y = omega arith
    most true true = omega arith
    most true false = omega arith

    gone : cost (is_marked c.seen pid) (is_marked c.todo pid) < cost (is_marked a.seen pid) (is_marked a.todo pid)
    gone =
        let kept = marks.before pid (same_seen pid ∙ it_is_seen) in
        rw (kept.0, kept.1 ∙ taken.1, it_is_seen, taken.0) (omega arith)

    no_more : (n : ℕ) → cost (is_marked c.seen n) (is_marked c.todo n) ≤ cost (is_marked a.seen n) (is_marked a.todo n)
    no_more n = elim (cases_eq n pid) [
      | inl same ↦
          (let less : cost (is_marked c.seen n) (is_marked c.todo n) < cost (is_marked a.seen n) (is_marked a.todo n) =
          subst (λ m. cost (is_marked c.seen m) (is_marked c.todo m) < cost (is_marked a.seen m) (is_marked a.todo m)) (sym same) gone in
          omega (arith, less))
      | inr differs ↦ elim (of_mark (is_marked a.seen n)) [
        | inl was ↦
            (let kept = marks.before n (same_seen n ∙ was) in
            rw (kept.0, kept.1 ∙ taken.3 n differs, was) (omega arith))
        | inr was ↦ rw was (most (is_marked c.seen n) (is_marked c.todo n))
      ]
    ]

    none_more : (ps : List StoredProcess) → to_go c ps ≤ to_go a ps
    none_more [] = omega arith
    none_more (p ∷ ps) = let one = no_more p.process.pid in let rest = none_more ps in omega (arith, one, rest)

    less_at : (ps : List StoredProcess) (p : StoredProcess) → IsIn p ps → p.process.pid ≡ pid → to_go c ps < to_go a ps
    less_at [] p there is = absurd there
    less_at (x ∷ ps) p there is = elim there [
      | inl here ↦
          (let same : x.process.pid ≡ pid = ap (λ (y : StoredProcess). y.process.pid) here ∙ is in
          let less : cost (is_marked c.seen x.process.pid) (is_marked c.todo x.process.pid) < cost
          (is_marked a.seen x.process.pid) (is_marked a.todo x.process.pid) =
          subst (λ m. cost (is_marked c.seen m) (is_marked c.todo m) < cost (is_marked a.seen m) (is_marked a.todo m)) (sym same) gone in
          let rest = none_more ps in
          omega (arith, less, rest))
      | inr later ↦
          (let one = no_more x.process.pid in
          let rest = less_at ps p later is in
          omega (arith, one, rest))
    ]

    -- less is left to do
    pub less_to_go : to_go c s.processes < to_go a s.processes
    less_to_go = let lives = so_far.living pid it_is_seen in less_at s.processes lives.0 lives.1.0 lives.1.1

  -- where the search has to go to no process, each that is led to is found
  pub none_left : (f : LocatedLock) → IsLocated f s → (a : Scratch) → IsSearched s f a
      → ((pid : ℕ) → is_marked a.todo pid ≡ false) → IsDeadlocked (searched s) f.row
      → is_marked a.seen f.row.pid ≡ true
  none_left f located a so_far none dead =
      along dead.others dead.lock.pid
      (waited_seen s sound Seen follows f located so_far.begun dead.lock.pid (dead.lock, (dead.waits, refl))) dead.leads
    where
      Seen : ℕ → Type 0
      Seen pid = is_marked a.seen pid ≡ true

      follows : (g : LocatedLock) → IsLocated g s → Seen g.row.pid → (pid : ℕ) → OwnsNear s g pid → Seen pid
      follows g is seen pid near = so_far.closed g.row.pid pid seen (none g.row.pid) (record { from = g; located = is; owner = refl; near = near })

      along : (others : List ℕ) (p : ℕ) → is_marked a.seen p ≡ true → LeadsTo (searched s) p others f.row.pid → is_marked a.seen f.row.pid ≡ true
      along [] p is leads = subst (λ q. is_marked a.seen q ≡ true) leads is
      along (next ∷ others) p is leads = along others next (behind_seen s sound Seen follows p next is leads.0) leads.1

-- so one whose process is not found is not deadlocked
pub not_found : (D : Type 0) (b seen : Bool) → b ≡ seen → (D → seen ≡ true) → OnFalse b (D → ⊥)
not_found D true seen is found = tt
not_found D false seen is found = λ dead. both_ways seen (found dead) (sym is)
