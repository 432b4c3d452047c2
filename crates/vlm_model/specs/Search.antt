-- The step Search: ends one deadlocked request.
use Rattle.std.specs.Prelude.{ℕ, true, false, ◌≡◌, List, [], ◌∷◌, Option, None, Some}
use Rattle.std.specs.Option.{option_map}
use Rattle.vlm_words.specs.declared.conditions.Cond.{Cond}
use Rattle.vlm_words.specs.declared.locks.LockState.{LockState}
use Rattle.vlm_words.specs.State.{State}
use Rattle.vlm_model.specs.Endings.{Ending}
use Rattle.vlm_model.specs.Endings.How.{by_deadlock}
use Rattle.vlm_model.specs.Withdrawals.{Withdrawal, state_after_withdrawals, withdrawn_endings}
use Rattle.vlm_model.specs.Rundown.{leave_refusal}
use Rattle.vlm_model.specs.Deadlocks.{IsVictim}

-- BADPARAM if there is no such node, DEPARTED if it has departed
abbrev pub search_refusal : State → ℕ → Option Cond
search_refusal s node = leave_refusal s node

-- the choice of a search: the victim, if there is one; nothing if the search is refused
abbrev pub IsSearchedFor : Option Cond → State → Option LockState → Type 0
IsSearchedFor None s choice = IsVictim s choice
IsSearchedFor (Some refusal) s choice = choice ≡ None

-- the victim's request ends by deadlock; a waiting lock goes, a converting lock stays, and the value block does not
-- change
abbrev pub deadlock_of : ℕ → Withdrawal
deadlock_of lkid = record {
  lkid = lkid;
  waiting = by_deadlock;
  converting = by_deadlock;
  stays = true;
  value = None;
  tail = None;
  invalidates = false;
}

-- the withdrawal of the victim, if there is one
abbrev pub victim_withdrawals : Option LockState → List Withdrawal
victim_withdrawals None = []
victim_withdrawals (Some victim) = deadlock_of victim.lkid ∷ []

-- the victim's lock, if there is one
abbrev pub victim_lkid : Option LockState → Option ℕ
victim_lkid choice = option_map (λ victim. victim.lkid) choice

-- the ending of the victim's request
abbrev pub search_endings : State → Option LockState → List Ending
search_endings s choice = withdrawn_endings (victim_withdrawals choice) s.resources

-- the victim is withdrawn; without a victim nothing changes
unfoldable pub search_change : State → Option LockState → State
search_change s choice = state_after_withdrawals (victim_withdrawals choice) s
