-- Counts of a resource's locks by mode.
use Rattle.std.specs.Prelude.{ℕ, Bool, false, ◌==◌, ◌+◌, ◌-◌, ◌&&◌, ◌||◌, List, [], ◌∷◌, Option, None, Some, cond, replicate, slice_index_or}
use Rattle.vlm_words.specs.declared.locks.Request.{Request}
use Rattle.vlm_words.specs.declared.locks.LockState.{LockState}
use Rattle.vlm_words.specs.declared.modes.Mode.{Mode}
use Rattle.vlm_words.specs.declared.modes.Mode.TheVariants.{Nl, Cr, Cw, Pr, Pw, Ex}
use Rattle.vlm_words.specs.declared.resources.Queue.{Queue}
use Rattle.vlm_words.specs.declared.resources.Queue.TheVariants.{Granted, Conversion, Waiting}
use Rattle.vlm_words.specs.Modes.{is_compatible, rank}
use Rattle.vlm_records.specs.declared.tallies.Counted.{Counted}
use Rattle.vlm_records.specs.declared.tallies.Tally.{Tally}

-- the two counts: of held modes and of wanted modes
pub data Count : Type 0 where
  of_held : Count
  of_wanted : Count

-- the mode of a request
abbrev pub mode_in : Option Request → Option Mode
mode_in None = None
mode_in (Some request) = Some request.mode

-- it is this mode
abbrev pub has_mode : Mode → Option Mode → Bool
has_mode mode None = false
has_mode mode (Some other) = rank other == rank mode

-- the request is for this mode
abbrev pub is_mode : Mode → Option Request → Bool
is_mode mode request = has_mode mode (mode_in request)

-- 1 if b is true, else 0
abbrev pub one_if : Bool → ℕ
one_if b = cond b 1 0

-- the count of a mode
abbrev pub count_of : List ℕ → Mode → ℕ
count_of counts mode = slice_index_or counts (rank mode) 0

-- how many locks hold or want this mode
abbrev pub how_many : Count → Tally → Mode → ℕ
how_many of_held tally mode = count_of tally.held mode
how_many of_wanted tally mode = count_of tally.wanted mode

-- how many locks hold a mode, except one that holds `own`
abbrev pub held_beside : Option Mode → Tally → Mode → ℕ
held_beside own tally mode = how_many of_held tally mode - one_if (has_mode mode own)

-- the counts of the six modes, from NL to EX
abbrev pub by_mode : (Mode → ℕ) → List ℕ
by_mode counts = counts Nl ∷ counts Cr ∷ counts Cw ∷ counts Pr ∷ counts Pw ∷ counts Ex ∷ []

-- the request by which a lock in a queue is counted; a waiting lock holds nothing, and a granted lock wants nothing
abbrev pub counted_request : Count → Queue → LockState → Option Request
counted_request of_held Granted row = row.held
counted_request of_held Conversion row = row.held
counted_request of_held Waiting row = None
counted_request of_wanted Granted row = None
counted_request of_wanted Conversion row = row.want
counted_request of_wanted Waiting row = row.want

-- the held or the wanted one of two modes
abbrev pub counted_mode : Count → Counted → Option Mode
counted_mode of_held counted = counted.held
counted_mode of_wanted counted = counted.wanted

-- what a lock in a queue adds to the count of a mode
abbrev pub weight_of : Count → Mode → Queue → LockState → ℕ
weight_of count mode queue row = one_if (is_mode mode (counted_request count queue row))

-- the counts of no locks
abbrev pub no_tally : Tally
no_tally = record { held = replicate 6 0; wanted = replicate 6 0 }

-- the sum of a weight over these rows
abbrev pub total : (LockState → ℕ) → (ℕ → LockState) → List ℕ → ℕ
total weight rows [] = 0
total weight rows (k ∷ ks) = weight (rows k) + total weight rows ks

-- no lock has the mode, or the mode passes the test
abbrev pub none_or : (Mode → Bool) → (Mode → ℕ) → Mode → Bool
none_or test counts mode = (counts mode == 0) || test mode

-- each mode that some lock has passes the test
abbrev pub each_counted : (Mode → Bool) → (Mode → ℕ) → Bool
each_counted test counts =
    none_or test counts Nl && (none_or test counts Cr &&
    (none_or test counts Cw && (none_or test counts Pr && (none_or test counts Pw && none_or test counts Ex))))

-- the mode is compatible with each mode that some lock has
unfoldable pub counts_fit : Mode → (Mode → ℕ) → Bool
counts_fit mode counts = each_counted (is_compatible mode) counts
