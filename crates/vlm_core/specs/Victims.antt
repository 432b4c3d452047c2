-- The victim of a search that is not made yet.
use Rattle.std.specs.Prelude.{◌≡◌, ℕ, Option}
use Rattle.std.specs.Option.{option_map}
use Rattle.vlm_words.specs.declared.locks.LockState.{LockState}
use Rattle.vlm_words.specs.State.{State}
use Rattle.vlm_model.specs.Deadlocks.{IsVictim}

-- a search would end the request of the lock with this ID, or no request is deadlocked and there is none
pub record ShowsVictim (s : State) (lkid : Option ℕ) : Type 0 where
  pub victim : Option LockState
  pub chosen : IsVictim s victim
  pub shown : lkid ≡ option_map (λ row. row.lkid) victim
