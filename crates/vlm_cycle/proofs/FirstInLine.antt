-- From the first lock of each queue a walk comes to all queued requests.
use Rattle.std.proofs.Common.{◌≡◌, ◌≤◌, ◌⊎◌, ℕ, List, [], ◌∷◌, ◌++◌, map, flat_map, Option, Some, refl, sym, ap, ◌∙◌, subst, inl, inr}
use Rattle.std.proofs.lemmas.Option.{none-some, same_Some}
use Rattle.vlm_words.specs.declared.locks.LockState.{LockState}
use Rattle.vlm_words.specs.declared.resources.Queue.{Queue}
use Rattle.vlm_words.specs.declared.resources.Queue.TheVariants.{Conversion, Waiting}
use Rattle.vlm_model.specs.Deadlocks.{WaitsFor, queue_of}
use Rattle.vlm_collections.specs.Lists.{IsIn}
use Rattle.vlm_records.specs.declared.handles.Place.{Place}
use Rattle.vlm_records.specs.declared.handles.Place.TheVariants.{Queued}
use Rattle.vlm_store.specs.Plain.{plain_resource, plain_resources}
use Rattle.vlm_store.specs.Queued.{IsQueued}
use Rattle.vlm_store.specs.Records.{IsSound, IsStored, Records, StoredLock, StoredResource, first_at, locks_at, rows_of_locks}
use Rattle.vlm_store.proofs.Records.{queue_at}
use Rattle.vlm_locks.specs.declared.located_locks.LocatedLock.{LocatedLock}
use Rattle.vlm_cycle.specs.declared.ranks.Ranks.{Ranks}
use Rattle.vlm_cycle.specs.Finding.{Improves, IsCovered}
use Rattle.vlm_cycle.specs.Leading.{IsFirstOn, IsLed, rows_queued_on}
use Rattle.vlm_cycle.specs.Ranking.{Falls, FallsOn, rank_of}
use Rattle.vlm_cycle.specs.Waiting.{searched}
use Rattle.vlm_cycle.proofs.BestFound.{waiting_queued}
use Rattle.vlm_collections.proofs.HandleLists.{in_either}

-- a queued request is led to by the first of these, or by one behind it
pub led_cases : (s : Records) (at : ℕ) (rest : List ℕ) (row : LockState) → IsLed s (at ∷ rest) row
    → ((res : ℕ) × (IsFirstOn s at res × IsIn row (rows_queued_on res s))) ⊎ IsLed s rest row
led_cases s at rest row led = elim led.2.0 [
  | inl here ↦ inl (led.1, (subst (λ k. IsFirstOn s k led.1) (sym here) led.2.1, led.2.2))
  | inr later ↦ inr (led.0, led.1, (later, led.2.1, led.2.2))
]

-- where a request is queued some lock is first in line
first_of : (xs ys : List StoredLock) (row : LockState) → IsIn row (rows_of_locks xs ++ rows_of_locks ys)
    → (k : StoredLock) × ((first_at (xs ++ ys) ≡ Some k.at) × (IsIn k xs ⊎ IsIn k ys))
first_of [] [] row there = absurd there
first_of [] (k ∷ ys) row there = (k, (refl, inr (inl refl)))
first_of (k ∷ xs) ys row there = (k, (refl, inl (inl refl)))

-- a request of all resources is queued on one of them
in_some : (row : LockState) (rs : List StoredResource) → IsIn row (flat_map queue_of (map plain_resource rs))
    → (r : StoredResource) × (IsIn r rs × IsIn row (queue_of (plain_resource r)))
in_some row [] there = absurd there
in_some row (r ∷ rs) there = elim (in_either row (queue_of (plain_resource r)) (flat_map queue_of (map plain_resource rs)) there) [
  | inl here ↦ (r, (inl refl, here))
  | inr later ↦ (let found = in_some row rs later in (found.0, (inr found.1.0, found.1.1)))
]

-- the locks whose requests are queued lead to all of these
pub all_led : (s : Records) → IsSound s → (all : List ℕ) → ((at : ℕ) → IsQueued at s → IsIn at all) → (row : LockState)
    → IsIn row (flat_map queue_of (plain_resources s)) → IsLed s all row
all_led s sound all whole row there =
    let found = in_some row s.resources there in
    let r = found.0 in
    let first = first_of r.converting r.waiting row found.1.1 in
    let k = first.0 in
    let converting = queue_at s sound r found.1.0 Conversion in
    let waiting = queue_at s sound r found.1.0 Waiting in
    let queued : IsQueued k.at s = elim first.1.1 [
      | inl among ↦ (Queued r.at Conversion, k.row, (refl, subst (IsIn k) (sym converting) among))
      | inr among ↦ (Queued r.at Waiting, k.row, (refl, subst (IsIn k) (sym waiting) among))
    ] in (
      k.at,
      r.at,
      (
        whole k.at queued,
        ap (λ ks. first_at (ks ++ locks_at (Queued r.at Waiting) s)) converting ∙ ap (λ ks. first_at (r.converting ++ ks)) waiting ∙ first.1.0,
        subst (λ ks. IsIn row (rows_of_locks ks ++ rows_of_locks (locks_at (Queued r.at Waiting) s))) (sym converting)
            (subst (λ ks. IsIn row (rows_of_locks r.converting ++ rows_of_locks ks)) (sym waiting) found.1.1),
      ),
    )

-- a lock whose request is queued is stored
pub queued_is_stored : (s : Records) (at : ℕ) → IsQueued at s → IsStored at s
queued_is_stored s at queued = (queued.1, (queued.0, queued.2.1))

-- the first in line stands in one of the two queues
first_among : (xs ys : List StoredLock) (at : ℕ) → first_at (xs ++ ys) ≡ Some at → (row : LockState)
    × (IsIn (record { at = at; row = row }) xs ⊎ IsIn (record { at = at; row = row }) ys)
first_among [] [] at is = absurd (none-some at is)
first_among [] (k ∷ ys) at is = (k.row, inr (inl (ap (λ x. record { at = x; row = k.row }) (same_Some k.at at is))))
first_among (k ∷ xs) ys at is = (k.row, inl (inl (ap (λ x. record { at = x; row = k.row }) (same_Some k.at at is))))

-- a lock that is the first in line on a resource stands there in a queue
pub first_stands : (s : Records) → IsSound s → (at : ℕ) (row : LockState) (place : Place)
    → IsIn (record { at = at; row = row }) (locks_at place s) → (res : ℕ) → IsFirstOn s at res
    → (place ≡ Queued res Conversion) ⊎ (place ≡ Queued res Waiting)
first_stands s sound at row place stands res is =
    let found = first_among (locks_at (Queued res Conversion) s) (locks_at (Queued res Waiting) s) at is in
    elim found.1 [
      | inl converts ↦ inl (sound.one_place at row found.0 place (Queued res Conversion) stands converts)
      | inr waits ↦ inr (sound.one_place at row found.0 place (Queued res Waiting) stands waits)
    ]

-- no other resource is led by a lock that stands on one
pub led_one : (s : Records) → IsSound s → (at : ℕ) (row : LockState) (own : ℕ) (queue : Queue)
    → IsIn (record { at = at; row = row }) (locks_at (Queued own queue) s) → (res : ℕ) → IsFirstOn s at res → own ≡ res
led_one s sound at row own queue stands res is = elim (first_stands s sound at row (Queued own queue) stands res is) [
  | inl converts ↦ cc
  | inr waits ↦ cc
]

-- ---- a walk along them that looks whether ranks fall

-- no request waits for a process of a higher rank, but for those to which the locks that are left lead
abbrev pub FallsLed : Records → Ranks → List ℕ → Type 0
FallsLed s ranks left = (row lock : LockState) → WaitsFor (searched s) row lock → (rank_of s ranks lock.pid ≤ rank_of s ranks row.pid) ⊎ IsLed s left row

-- at its start all are left
pub falls_led_begun : (s : Records) (ranks : Ranks) → IsSound s → (all : List ℕ) → ((at : ℕ) → IsQueued at s → IsIn at all) → FallsLed s ranks all
falls_led_begun s ranks sound all whole row lock waits = inr (all_led s sound all whole row (waiting_queued s row lock waits))

-- one is passed
pub falls_led_on : (s : Records) (ranks : Ranks) (at : ℕ) (left rest : List ℕ) → left ≡ at ∷ rest
    → ((res : ℕ) → IsFirstOn s at res → FallsOn s ranks (rows_queued_on res s))
    → FallsLed s ranks left → FallsLed s ranks rest
falls_led_on s ranks at left rest is falls but row lock waits = elim (but row lock waits) [
  | inl less ↦ inl less
  | inr led ↦ elim (led_cases s at rest row (subst (λ ks. IsLed s ks row) is led)) [
    | inl here ↦ inl (falls here.0 here.1.0 row lock here.1.1 waits)
    | inr later ↦ inr later
  ]
]

-- at its end none is left
pub falls_led_ended : (s : Records) (ranks : Ranks) (left : List ℕ) → left ≡ [] → FallsLed s ranks left → Falls s ranks
falls_led_ended s ranks left is but row lock waits = elim (but row lock waits) [
  | inl less ↦ less
  | inr led ↦ absurd (subst (IsIn led.0) is led.2.0)
]

-- ---- a walk along them that looks for the victim

-- the best covers all queued requests, but for those to which the locks that are left lead
abbrev pub CoversLed : Records → List ℕ → Option LocatedLock → Type 0
CoversLed s left best = (row : LockState) → IsIn row (flat_map queue_of (plain_resources s)) → IsCovered s best row ⊎ IsLed s left row

pub covers_begun : (s : Records) → IsSound s → (all : List ℕ) (best : Option LocatedLock) → ((at : ℕ) → IsQueued at s → IsIn at all) → CoversLed s all best
covers_begun s sound all best whole row there = inr (all_led s sound all whole row there)

pub covers_on : (s : Records) (at : ℕ) (left rest : List ℕ) (now after : Option LocatedLock) → left ≡ at ∷ rest → Improves s [] now after
    → ((res : ℕ) → IsFirstOn s at res → Improves s (rows_queued_on res s) now after) → CoversLed s left now → CoversLed s rest after
covers_on s at left rest now after is kept improves covers row there = elim (covers row there) [
  | inl covered ↦ inl (kept.kept row covered)
  | inr led ↦ elim (led_cases s at rest row (subst (λ ks. IsLed s ks row) is led)) [
    | inl here ↦ inl ((improves here.0 here.1.0).covered row here.1.1)
    | inr later ↦ inr later
  ]
]

pub covers_ended : (s : Records) (left : List ℕ) (best : Option LocatedLock) → left ≡ [] → CoversLed s left best
    → Improves s (flat_map queue_of (plain_resources s)) best best
covers_ended s left best is covers = record {
  fit = λ fit. fit;
  kept = λ row covered. covered;
  covered = λ row there. elim (covers row there) [
    | inl covered ↦ covered
    | inr led ↦ absurd (subst (IsIn led.0) is led.2.0)
  ];
}
