-- A journaled core: the entries since its last cut, and the journal before them.
use Rattle.std.specs.Prelude.{◌≡◌, ◌+◌, ◌-◌, ◌^◌, ℕ, List, length, min}
use Rattle.vlm_words.specs.State.{State}
use Rattle.vlm_journal.specs.declared.entries.Entry.{Entry}
use Rattle.vlm_journal.specs.Journals.{Journal, JournalFrom}

-- the entries since the last cut, the machine's state after them, the number of entries before them, and the room for
-- more
pub record Account : Type 0 where
  pub entries : List Entry
  pub state : State
  pub base : ℕ
  pub room : ℕ

-- how many entries were made, handed out or not; 2 ^ 64 - 1 if there were more
abbrev pub made : Account → ℕ
made a = min (a.base + length a.entries) (2 ^ 64 - 1)

-- some legal journal, of as many entries as the base says, leads to a state from which these entries are legal and lead
-- to the last one; a base of 2 ^ 64 - 1 means that many or more
pub record GoesOn (base : ℕ) (entries : List Entry) (last : State) : Type 0 where
  pub before : List Entry
  pub counted : base ≡ min (length before) (2 ^ 64 - 1)
  pub cut : State
  pub handed_out : Journal before cut
  pub since : JournalFrom cut entries last
