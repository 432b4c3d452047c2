-- The best of the requests that a walk has met.
use Rattle.std.proofs.Common.{◌≡◌, ℕ, List, [], ◌∷◌, ◌++◌, map, flat_map, Option, None, Some, refl, sym, ap, ◌∙◌, subst, inl, inr, arith}
use Rattle.std.specs.Prelude.{Any}
use Rattle.std.proofs.lemmas.Option.{same_Some}
use Rattle.vlm_words.specs.declared.locks.LockState.{LockState}
use Rattle.vlm_model.specs.Deadlocks.{IsDeadlocked, LeadsTo, ProcessWaitsFor, WaitsFor, WaitsOn, queue_of, wanted_number}
use Rattle.vlm_words.specs.State.{State}
use Rattle.vlm_collections.specs.Lists.{IsIn}
use Rattle.vlm_store.specs.Plain.{plain_resource, plain_resources}
use Rattle.vlm_store.specs.Records.{Records, StoredResource}
use Rattle.vlm_locks.specs.declared.located_locks.LocatedLock.{LocatedLock}
use Rattle.vlm_locks.specs.Standing.{IsLocated}
use Rattle.vlm_cycle.specs.Finding.{Improves, IsCovered, IsFit, IsLater, IsNotLater, IsVictimOf}
use Rattle.vlm_cycle.specs.Waiting.{searched}
use Rattle.vlm_cycle.proofs.Keeping.{waiting_on}
use Rattle.vlm_cycle.proofs.Listed.{among_is}
use Rattle.vlm_collections.proofs.HandleLists.{in_either, in_ahead, in_behind}

-- the best of what is left makes, with the best so far, the best of all
abbrev pub BestGoesOn : Records → List LockState → List LockState → Option LocatedLock → Option LocatedLock → Type 0
BestGoesOn s left all initial now = (final : Option LocatedLock) → Improves s left now final → Improves s all initial final

pub improves_none : (s : Records) (best : Option LocatedLock) → Improves s [] best best
improves_none s best = record { fit = λ fit. fit; kept = λ row covered. covered; covered = λ row there. absurd there }

pub improves_both : (s : Records) (xs ys : List LockState) (a b c : Option LocatedLock) → Improves s xs a b → Improves s ys b c → Improves s (xs ++ ys) a c
improves_both s xs ys a b c first second = record {
  fit = λ fit. second.fit (first.fit fit);
  kept = λ row covered. second.kept row (first.kept row covered);
  covered = λ row there. elim (in_either row xs ys there) [
    | inl left ↦ second.kept row (first.covered row left)
    | inr right ↦ second.covered row right
  ];
}

-- one more is looked at
pub best_on : (s : Records) (xs left rest all : List LockState) (initial now after : Option LocatedLock) → left ≡ xs ++ rest
    → Improves s xs now after → BestGoesOn s left all initial now → BestGoesOn s rest all initial after
best_on s xs left rest all initial now after is step goes final last =
    goes final (subst (λ rows. Improves s rows now final) (sym is) (improves_both s xs rest now after final step last))

-- ---- one lock

-- a later one is deadlocked: it is the best
pub better_one : (s : Records) (row : LockState) (best : Option LocatedLock) (f : LocatedLock) → row ≡ f.row
    → IsLocated f s → IsLater f.row best → IsDeadlocked (searched s) f.row
    → Improves s (row ∷ []) best (Some f)
better_one s row best f is located later dead = record {
  fit = λ fit g same. subst (λ h. IsLocated h s × IsDeadlocked (searched s) h.row) (same_Some f g same) (located, dead);
  kept = of_best best later;
  covered = λ x there. elim there [
    | inl here ↦ (λ dead_x. (let same : wanted_number x ≡ wanted_number f.row = ap wanted_number (sym here ∙ is) in omega (arith, same)))
    | inr later ↦ absurd later
  ];
}
  where
    of_best : (b : Option LocatedLock) → IsLater f.row b → (x : LockState) → IsCovered s b x → IsCovered s (Some f) x
    of_best None later x covered dead_x = absurd (covered dead_x)
    of_best (Some b) later x covered dead_x = let less = covered dead_x in omega (arith, less, later)

-- one that is not deadlocked changes nothing
pub not_dead : (s : Records) (row : LockState) (best : Option LocatedLock) → (IsDeadlocked (searched s) row → ⊥) → Improves s (row ∷ []) best best
not_dead s row best alive = record {
  fit = λ fit. fit;
  kept = λ x covered. covered;
  covered = λ x there. elim there [
    | inl here ↦ of_best best x (λ dead. alive (subst (IsDeadlocked (searched s)) (sym here) dead))
    | inr later ↦ absurd later
  ];
}
  where
    of_best : (b : Option LocatedLock) (x : LockState) → (IsDeadlocked (searched s) x → ⊥) → IsCovered s b x
    of_best None x alive_x = alive_x
    of_best (Some b) x alive_x = λ dead. absurd (alive_x dead)

-- nor does one that was not made later
pub not_later : (s : Records) (row : LockState) (best : Option LocatedLock) → IsNotLater row best → Improves s (row ∷ []) best best
not_later s row best earlier = record {
  fit = λ fit. fit;
  kept = λ x covered. covered;
  covered = λ x there. elim there [
    | inl here ↦ of_best best x (subst (λ y. IsNotLater y best) here earlier)
    | inr later ↦ absurd later
  ];
}
  where
    of_best : (b : Option LocatedLock) (x : LockState) → IsNotLater x b → IsCovered s b x
    of_best None x less = absurd less
    of_best (Some b) x less = λ dead. less

-- ---- the victim

-- a search reads no more of a state than its resources
module _ (s t : State) (same : s.resources ≡ t.resources) where
  waits_same : (pid other : ℕ) → ProcessWaitsFor s pid other → ProcessWaitsFor t pid other
  waits_same pid other w = record {
    row = w.row;
    lock = w.lock;
    owner = w.owner;
    holder = w.holder;
    waits = subst (λ rs. Any (λ r. WaitsOn r w.row w.lock) rs) same w.waits;
  }

  leads_same : (pid : ℕ) (others : List ℕ) (last : ℕ) → LeadsTo s pid others last → LeadsTo t pid others last
  leads_same pid [] last leads = leads
  leads_same pid (next ∷ others) last leads = (waits_same pid next leads.0, leads_same next others last leads.1)

  pub deadlocked_same : (row : LockState) → IsDeadlocked s row → IsDeadlocked t row
  deadlocked_same row dead = record {
    lock = dead.lock;
    waits = subst (λ rs. Any (λ r. WaitsOn r row dead.lock) rs) same dead.waits;
    others = dead.others;
    leads = leads_same dead.lock.pid dead.others row.pid dead.leads;
  }

-- a request that waits is queued on a resource
pub waiting_queued : (s : Records) (row lock : LockState) → WaitsFor (searched s) row lock → IsIn row (flat_map queue_of (plain_resources s))
waiting_queued s row lock waits =
    let w = waiting_on s row lock waits in
    in_all w.resource s.resources w.there (among_is row (queue_of (plain_resource w.resource)) w.waits.queued)
  where
    in_all : (r : StoredResource) (rs : List StoredResource) → IsIn r rs → IsIn row (queue_of (plain_resource r))
        → IsIn row (flat_map queue_of (map plain_resource rs))
    in_all r [] there here = absurd there
    in_all r (x ∷ rs) there here = elim there [
      | inl first ↦
          in_ahead row (queue_of (plain_resource x)) (flat_map queue_of (map plain_resource rs))
          (subst (λ y. IsIn row (queue_of (plain_resource y))) (sym first) here)
      | inr later ↦ in_behind row (queue_of (plain_resource x)) (flat_map queue_of (map plain_resource rs)) (in_all r rs later here)
    ]

-- and so is one that is deadlocked
pub dead_queued : (s : Records) (row : LockState) → IsDeadlocked (searched s) row → IsIn row (flat_map queue_of (plain_resources s))
dead_queued s row dead = waiting_queued s row dead.lock dead.waits

-- the best of all is the victim
pub record IsBestOfAll (s : Records) (best : Option LocatedLock) : Type 0 where
  pub victim : IsVictimOf s best
  pub fit : IsFit s best

pub best_of_all : (s : Records) (first best : Option LocatedLock) → IsFit s first
    → Improves s (flat_map queue_of (plain_resources s)) first best → IsBestOfAll s best
best_of_all s first best fit_first improves = let fit = improves.fit fit_first in record { victim = of_best best fit improves.covered; fit = fit }
  where
    of_best : (b : Option LocatedLock) → IsFit s b → ((row : LockState) → IsIn row (flat_map queue_of (plain_resources s)) → IsCovered s b row) → IsVictimOf s b
    of_best None fit covered state same =
        λ row dead. let here = deadlocked_same state (searched s) same row dead in covered row (dead_queued s row here) here
    of_best (Some b) fit covered state same = (
      deadlocked_same (searched s) state (sym same) b.row (fit b refl).1,
      λ row dead. let here = deadlocked_same state (searched s) same row dead in covered row (dead_queued s row here) here,
    )
