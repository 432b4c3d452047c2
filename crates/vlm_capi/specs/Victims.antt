-- What the call that looks for a victim tells.
use Rattle.std.specs.Prelude.{◌≡◌, ℕ, Option, Some, None}
use Rattle.std.specs.Option.{option_map}
use Rattle.vlm_words.specs.State.{State}
use Rattle.vlm_core.specs.Victims.{ShowsVictim}
use Rattle.vlm_capi.specs.Copies.{Told}

-- the victim of a search of the core; without a core nothing is read
abbrev pub ReadsVictim : Option State → Option (Option ℕ) → Type 0
ReadsVictim (Some s) (Some victim) = ShowsVictim s victim
ReadsVictim (Some s) None = ⊥
ReadsVictim None found = found ≡ None

-- a lock's ID, or 0 for none
abbrev pub lkid_or_0 : Option ℕ → ℕ
lkid_or_0 (Some lkid) = lkid
lkid_or_0 None = 0

-- the victim's lock is written, or 0; without a core nothing is
pub record VictimTold (core : Option State) (old new status : ℕ) : Type 0 where
  pub found : Option (Option ℕ)
  pub read : ReadsVictim core found
  pub told : Told (option_map lkid_or_0 found) old new status
