-- Sets of processes, one for each node.
use Rattle.std.specs.Prelude.{◌≡◌, ℕ, ◌-◌, ◌/◌, ◌%◌, ◌<◌, ◌≤◌, ◌&&◌, nat_le, Bool, true, false, List, [], length}
use Rattle.std.specs.Prelude.{slice_index_or, Option, None, Some, if◌then◌else◌}

-- the number of a node, 1 to 8
abbrev pub is_node : ℕ → Bool
is_node node = nat_le 1 node && nat_le node 8

-- each of the eight nodes has its marks
abbrev pub AreEight : List (List Bool) → Type 0
AreEight nodes = length nodes ≡ 8

-- the index of the process's node, if the node is 1 to 8
unfoldable pub place_of : ℕ → Option ℕ
place_of pid = if is_node (pid / 65536) then Some (pid / 65536 - 1) else None

-- the marks of a node, by ordinal
abbrev pub marks_at : List (List Bool) → Option ℕ → List Bool
marks_at nodes None = []
marks_at nodes (Some place) = slice_index_or nodes place []

-- the process is marked
unfoldable pub is_marked : List (List Bool) → ℕ → Bool
is_marked nodes pid = slice_index_or (marks_at nodes (place_of pid)) (pid % 65536) false

-- there is room to mark this ordinal of the node, if there is such a node
abbrev pub HasRoomAt : List (List Bool) → ℕ → Option ℕ → Type 0
HasRoomAt nodes ordinal None = Unit {0}
HasRoomAt nodes ordinal (Some place) = ordinal < length (slice_index_or nodes place [])

-- there is room to mark the process, or its node is not 1 to 8
unfoldable pub HasRoomFor : List (List Bool) → ℕ → Type 0
HasRoomFor nodes pid = HasRoomAt nodes (pid % 65536) (place_of pid)

-- the least marked ID of the node, or no process of the node is marked
abbrev pub IsFirstMarked : List (List Bool) → ℕ → Option ℕ → Type 0
IsFirstMarked nodes node None = (pid : ℕ) → pid / 65536 ≡ node → is_marked nodes pid ≡ false
IsFirstMarked nodes node (Some first) =
    (is_marked nodes first ≡ true) × (first / 65536 ≡ node)
    × ((pid : ℕ) → pid / 65536 ≡ node → is_marked nodes pid ≡ true → first ≤ pid)

-- the marks of other processes stay
abbrev pub OthersStay : ℕ → List (List Bool) → List (List Bool) → Type 0
OthersStay pid old new = (other : ℕ) → ¬ (other ≡ pid) → is_marked new other ≡ is_marked old other

-- marks stay, and there may be more room
pub record Grows (old new : List (List Bool)) : Type 0 where
  pub marks : (pid : ℕ) → is_marked new pid ≡ is_marked old pid
  pub room : (pid : ℕ) → HasRoomFor old pid → HasRoomFor new pid

-- the process's mark becomes this, if its node is 1 to 8; other marks and the room stay
pub record Writes (pid : ℕ) (value : Bool) (old new : List (List Bool)) : Type 0 where
  pub this : is_marked new pid ≡ (is_node (pid / 65536) && value)
  pub others : OthersStay pid old new
  pub room : (other : ℕ) → HasRoomFor old other → HasRoomFor new other
