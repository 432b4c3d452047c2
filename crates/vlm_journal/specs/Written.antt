-- The change of a journaled core by one entry.
use Rattle.std.specs.Prelude.{◌≡◌, ◌+◌, ◌++◌, ◌∷◌, ℕ, []}
use Rattle.vlm_model.specs.Reasons.{HasDeparted}
use Rattle.vlm_journal.specs.declared.entries.Entry.{Entry}
use Rattle.vlm_journal.specs.Accounts.{Account}
use Rattle.vlm_journal.specs.Departed.{StaysDeparted}
use Rattle.vlm_journal.specs.Journals.{JournalFrom}
use Rattle.vlm_journal.specs.Lengthening.{LengthensLittle}

-- the entry is appended, in room that was there: it is legal and leads to the new state, a node that had departed stays
-- so, and the entry adds to what the nodes asked for and to their items
pub record IsWritten (entry : Entry) (old new : Account) : Type 0 where
  pub entries : new.entries ≡ old.entries ++ entry ∷ []
  pub leads : JournalFrom old.state (entry ∷ []) new.state
  pub departed : (node : ℕ) → HasDeparted old.state node → StaysDeparted node (entry ∷ []) new.state
  pub told : LengthensLittle old.entries entry
  pub base : new.base ≡ old.base
  pub room : new.room + 1 ≡ old.room
