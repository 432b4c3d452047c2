-- A set of numbers, in three levels of words.
use Rattle.std.specs.Prelude.{◌≡◌, ℕ, ◌*◌, ◌==◌, ◌≤◌, Bool, List, length, map}
use Rattle.std.specs.List.{range_with_len}
use Rattle.vlm_collections.specs.declared.marks.Marks.TheInside.{Inside}
use Rattle.vlm_collections.specs.Words.{Tells, bit_of}

-- for each number with a bit in these words: whether it is marked
unfoldable pub marks_of : List ℕ → List Bool
marks_of words = map (λ number. bit_of words number == 1) (range_with_len 0 (64 * length words))

-- the set that the fields show
abbrev pub marks_shown : Inside → List Bool
marks_shown m = marks_of m.numbers.items

-- the bits of each level say which words of the level below are not 0, and the top level is one word
pub record IsLevelled (m : Inside) : Type 0 where
  pub few : length m.numbers.items ≤ 1024
  pub words : Tells m.numbers.items m.words
  pub top : Tells m.words m.top
  pub single : length m.top ≡ 1
