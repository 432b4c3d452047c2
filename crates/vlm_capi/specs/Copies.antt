-- What a call copies out to C.
use Rattle.std.specs.Prelude.{◌≡◌, ℕ, Bool, true, false, Option, Some, None}
use Rattle.vlm_words.specs.declared.conditions.Cond.TheVariants.{Normal, Badparam}
use Rattle.vlm_words.specs.Conditions.{condition_number}

-- a value is written, with NORMAL; with no value nothing is written, and BADPARAM is returned
abbrev pub Told : {A : Type 0} → Option A → A → A → ℕ → Type 0
Told (Some x) old new status = (new ≡ x) × (status ≡ condition_number Normal)
Told None old new status = (new ≡ old) × (status ≡ condition_number Badparam)

-- the value, or no value if the caller's struct has another size
abbrev pub sized : {A : Type 0} → Bool → Option A → Option A
sized true x = x
sized false x = None
