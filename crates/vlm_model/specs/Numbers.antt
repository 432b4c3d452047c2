-- The law that lock IDs, request numbers and serials are given once.
use Rattle.std.specs.Prelude.{◌≡◌, ◌+◌, ◌⊎◌, ℕ, Any, sum_by, Option}
use Rattle.vlm_words.specs.declared.locks.LockState.{LockState}
use Rattle.vlm_words.specs.declared.steps.Answer.TheVariants.{Lock}
use Rattle.vlm_words.specs.declared.steps.Answer.{Answer}
use Rattle.vlm_words.specs.declared.steps.Conversion.{Conversion}
use Rattle.vlm_words.specs.declared.steps.Step.TheVariants.{Enq, Convert}
use Rattle.vlm_words.specs.declared.steps.Step.{Step}
use Rattle.vlm_words.specs.State.{State}
use Rattle.vlm_model.specs.Checks.{named_lkid}
use Rattle.vlm_model.specs.Stepped.{stepped}
use Rattle.vlm_model.specs.Laws.{rows_on}

-- a new request takes the next ID, which one lock then has, and the next request number
pub record TakenByNewRequest (old new : State) (lkid : ℕ) : Type 0 where
  pub answered : lkid ≡ old.next_lkid
  pub stands : sum_by (rows_on lkid) new.resources ≡ 1
  pub next_lkid : new.next_lkid ≡ old.next_lkid + 1
  pub next_request : new.next_request ≡ old.next_request + 1

-- a conversion answers the lock that it names, and takes only the next request number
pub record TakenByConversion (old new : State) (c : Conversion) (lkid : ℕ) : Type 0 where
  pub answered : lkid ≡ named_lkid old c.pid c.lock
  pub next_lkid : new.next_lkid ≡ old.next_lkid
  pub next_request : new.next_request ≡ old.next_request + 1

-- no ID and no request number is taken
pub record NoneTaken (old new : State) : Type 0 where
  pub next_lkid : new.next_lkid ≡ old.next_lkid
  pub next_request : new.next_request ≡ old.next_request

-- only an accepted request takes numbers
abbrev pub TakesNumbers : State → State → Step → Answer → Type 0
TakesNumbers old new (Enq e) (Lock cond lkid) = TakenByNewRequest old new lkid
TakesNumbers old new (Convert c) (Lock cond lkid) = TakenByConversion old new c lkid
TakesNumbers old new step answer = NoneTaken old new

-- some resource has this serial
abbrev pub HasSerial : ℕ → State → Type 0
HasSerial serial s = Any (λ r. r.serial ≡ serial) s.resources

-- the next serial is taken exactly if a resource was made, and that resource has it
abbrev pub TakesSerial : State → State → Type 0
TakesSerial old new =
    ((new.next_serial ≡ old.next_serial + 1) × HasSerial old.next_serial new)
    ⊎ ((new.next_serial ≡ old.next_serial) × (HasSerial old.next_serial new → ⊥))

-- a step takes the numbers of what it makes, and no others
pub record NumbersAreGivenOnce (old : State) (step : Step) (choice : Option LockState) : Type 0 where
  pub requests : TakesNumbers old (stepped old step choice).state step (stepped old step choice).answer
  pub serials : TakesSerial old (stepped old step choice).state
