-- What a pass over queued requests makes of its result.
use Rattle.std.specs.Prelude.{◌≡◌, List, true}
use Rattle.vlm_words.specs.declared.locks.LockState.{LockState}
use Rattle.vlm_store.specs.Records.{Records}
use Rattle.vlm_cycle.specs.declared.passes.Pass.{Pass}
use Rattle.vlm_cycle.specs.declared.passes.Purpose.TheVariants.{Check, Search}
use Rattle.vlm_cycle.specs.Finding.{Improves, IsLocatedIfAny}
use Rattle.vlm_cycle.specs.Ranking.{Falls, FallsOn}
use Rattle.vlm_cycle.specs.Ranks.{Ranks}

-- a check of these rows says that ranks fall only if they fall on these rows too
pub record Checks (s : Records) (ranks : Ranks) (rows : List LockState) (old new : Pass) : Type 0 where
  pub before : new.falls ≡ true → old.falls ≡ true
  pub falls : new.falls ≡ true → FallsOn s ranks rows
  pub located : IsLocatedIfAny s old.found → IsLocatedIfAny s new.found

-- a search of these rows finds the most recent deadlocked request
pub record Searches (s : Records) (rows : List LockState) (old new : Pass) : Type 0 where
  pub falls : new.falls ≡ old.falls
  pub improves : Improves s rows old.found new.found

-- the pass has gone over these rows
pub record Passes (s : Records) (ranks : Ranks) (rows : List LockState) (old new : Pass) : Type 0 where
  pub purpose : new.purpose ≡ old.purpose
  pub checks : old.purpose ≡ Check → Checks s ranks rows old new
  pub searches : old.purpose ≡ Search → Searches s rows old new

-- a search assumes that ranks fall only if they do
abbrev pub MayPass : Records → Ranks → Pass → Type 0
MayPass s ranks pass = pass.purpose ≡ Search → pass.falls ≡ true → Falls s ranks
