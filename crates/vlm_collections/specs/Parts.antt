-- Indexes in parts: what they find, and how much room they have.
use Rattle.std.specs.Prelude.{◌≡◌, ◌+◌, ◌≤◌, ◌/◌, ◌%◌, ℕ, nat_eq, slice_get, slice_index_or, map, List, Option, None}
use Rattle.std.specs.Option.{option_map_or}
use Rattle.indexmap.specs.IndexMap.{IndexMap, get, spare}
use Rattle.vlm_collections.specs.declared.hashers.HashSpread.{HashSpread}

-- the parts of an index
abbrev pub Parts : Type 0
Parts = List (IndexMap ℕ ℕ HashSpread)

-- numbers in order share a part, 1,024 of them, and the parts take turns
abbrev pub part_of : ℕ → ℕ
part_of number = number / 1024 % 64

-- the handle of a number, if it has one, in its part
unfoldable pub handle_in : Parts → ℕ → Option ℕ
handle_in parts number = option_map_or (λ part. get nat_eq part number) (slice_get parts (part_of number)) None

-- how many more numbers each part takes without an allocation
abbrev pub spares_of : Parts → List ℕ
spares_of parts = map spare parts

-- how many more numbers the part of this number takes
unfoldable pub spare_for : List ℕ → ℕ → ℕ
spare_for spares number = slice_index_or spares (part_of number) 0

-- no part has less room
abbrev pub KeepsSpares : List ℕ → List ℕ → Type 0
KeepsSpares old new = (number : ℕ) → spare_for old number ≤ spare_for new number

-- each part has at most one place less
abbrev pub UsesOneSpare : List ℕ → List ℕ → Type 0
UsesOneSpare old new = (number : ℕ) → spare_for old number ≤ spare_for new number + 1

-- each number keeps its handle
abbrev pub FindsSame : Parts → Parts → Type 0
FindsSame old new = (number : ℕ) → handle_in new number ≡ handle_in old number

-- this number gets this handle or loses its handle; the others keep theirs
pub record Writes (number : ℕ) (handle : Option ℕ) (old new : Parts) : Type 0 where
  pub this : handle_in new number ≡ handle
  pub others : (other : ℕ) → ¬ (other ≡ number) → handle_in new other ≡ handle_in old other
