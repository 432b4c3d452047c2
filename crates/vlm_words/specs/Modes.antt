-- The lock modes: compatibility, value blocks on a conversion, QUECVT.
use Rattle.std.specs.Prelude.{ℕ, Bool, true, false, List, [], ◌∷◌, ◌==◌, ◌&&◌, ◌||◌, if◌then◌else◌}
use Rattle.std.specs.List.{list_any}
use Rattle.vlm_words.specs.declared.modes.Act.{Act}
use Rattle.vlm_words.specs.declared.modes.Act.TheVariants.{Nothing, Return, Write}
use Rattle.vlm_words.specs.declared.modes.Mode.{Mode}
use Rattle.vlm_words.specs.declared.modes.Mode.TheVariants.{Nl, Cr, Cw, Pr, Pw, Ex}

-- the position of a mode, from 0 for the weakest to 5
abbrev pub rank : Mode → ℕ
rank Nl = 0
rank Cr = 1
rank Cw = 2
rank Pr = 3
rank Pw = 4
rank Ex = 5

-- the compatible pairs, each in one order
abbrev pub compatible_pairs : List (Mode × Mode)
compatible_pairs =
    (Nl, Nl) ∷ (Nl, Cr) ∷ (Nl, Cw) ∷ (Nl, Pr) ∷ (Nl, Pw) ∷ (Nl, Ex)
    ∷ (Cr, Cr) ∷ (Cr, Cw) ∷ (Cr, Pr) ∷ (Cr, Pw)
    ∷ (Cw, Cw)
    ∷ (Pr, Pr)
    ∷ []

-- the pair has these two modes, in either order
abbrev pub is_pair_of : Mode → Mode → Mode × Mode → Bool
is_pair_of a b pair =
    ((rank pair.0 == rank a) && (rank pair.1 == rank b)) || ((rank pair.0 == rank b) && (rank pair.1 == rank a))

-- two locks may hold one resource in these modes together
unfoldable pub is_compatible : Mode → Mode → Bool
is_compatible a b = list_any (is_pair_of a b) compatible_pairs

-- the conversions that return the value block, held mode first
abbrev pub returning_pairs : List (Mode × Mode)
returning_pairs =
    (Nl, Nl) ∷ (Nl, Cr) ∷ (Nl, Cw) ∷ (Nl, Pr) ∷ (Nl, Pw) ∷ (Nl, Ex)
    ∷ (Cr, Cr) ∷ (Cr, Cw) ∷ (Cr, Pr) ∷ (Cr, Pw) ∷ (Cr, Ex)
    ∷ (Cw, Cw) ∷ (Cw, Pr) ∷ (Cw, Pw) ∷ (Cw, Ex)
    ∷ (Pr, Pr) ∷ (Pr, Pw) ∷ (Pr, Ex)
    ∷ (Pw, Ex)
    ∷ []

-- the conversions that write the value block, held mode first
abbrev pub writing_pairs : List (Mode × Mode)
writing_pairs =
    (Pw, Nl) ∷ (Pw, Cr) ∷ (Pw, Cw) ∷ (Pw, Pr) ∷ (Pw, Pw)
    ∷ (Ex, Nl) ∷ (Ex, Cr) ∷ (Ex, Cw) ∷ (Ex, Pr) ∷ (Ex, Pw) ∷ (Ex, Ex)
    ∷ []

-- the modes in which a lock may write the value block as it goes
abbrev pub is_writing : Mode → Bool
is_writing Nl = false
is_writing Cr = false
is_writing Cw = false
is_writing Pr = false
is_writing Pw = true
is_writing Ex = true

-- the conversions that QUECVT may go with, held mode first
abbrev pub queued_pairs : List (Mode × Mode)
queued_pairs =
    (Nl, Cr) ∷ (Nl, Cw) ∷ (Nl, Pr) ∷ (Nl, Pw) ∷ (Nl, Ex)
    ∷ (Cr, Cw) ∷ (Cr, Pr) ∷ (Cr, Pw) ∷ (Cr, Ex)
    ∷ (Cw, Pr) ∷ (Cw, Pw) ∷ (Cw, Ex)
    ∷ (Pr, Cw) ∷ (Pr, Pw) ∷ (Pr, Ex)
    ∷ (Pw, Ex)
    ∷ []

-- the pair is this held mode and this wanted mode
abbrev pub is_conversion : Mode → Mode → Mode × Mode → Bool
is_conversion held want pair = (rank pair.0 == rank held) && (rank pair.1 == rank want)

-- what VALBLK does on a conversion
unfoldable pub value_action : Mode → Mode → Act
value_action held want =
    if list_any (is_conversion held want) returning_pairs then Return
    else (if list_any (is_conversion held want) writing_pairs then Write else Nothing)

-- QUECVT may go with the conversion
unfoldable pub is_queued_legally : Mode → Mode → Bool
is_queued_legally held want = list_any (is_conversion held want) queued_pairs
