-- The list of changes, and its number.
use Rattle.std.specs.Prelude.{ℕ, ◌≡◌, ◌==◌, true, List, [], ◌∷◌, ◌++◌, length}
use Rattle.logbook.specs.Pages.{Book, Cell, Named, Step, View}
use Rattle.vlm_ports.specs.declared.watch.rows.Change.{Change}

-- the first word of the book is the number of changes in its log; the second is not used
abbrev pub Counts : List Cell → List Change → Type 0
Counts cells log = cells ≡ (length log, true) ∷ (0, true) ∷ []

-- the word of a book that counts its changes
abbrev pub word_of : Book → Named
word_of book = record { tracked = true; key = 0; book = book }

-- if the number found is the number given, the change is appended to all changes before it
abbrev pub Lengthens : Step Change → View Change ℕ → ℕ → View Change ℕ → Type 0
Lengthens step before found after = (found == step.old) ≡ true → after.0 ≡ before.0 ++ step.ask ∷ []
