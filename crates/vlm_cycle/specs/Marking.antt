-- The marks of a search.
use Rattle.std.specs.Prelude.{◌≡◌, ◌⊎◌, ℕ, true, false, Option, None, Some}
use Rattle.vlm_records.specs.NodeMarks.{HasRoomFor, is_marked}
use Rattle.vlm_cycle.specs.declared.scratch.Scratch.{Scratch}

-- there is room to mark the process in both sets
pub record HasRoomInBoth (marks : Scratch) (pid : ℕ) : Type 0 where
  pub seen : HasRoomFor marks.seen pid
  pub todo : HasRoomFor marks.todo pid

-- each process has the room that it had
abbrev pub KeepsRoom : Scratch → Scratch → Type 0
KeepsRoom old new = (pid : ℕ) → HasRoomInBoth old pid → HasRoomInBoth new pid

-- no process is marked
pub record IsClear (marks : Scratch) : Type 0 where
  pub seen : (pid : ℕ) → is_marked marks.seen pid ≡ false
  pub todo : (pid : ℕ) → is_marked marks.todo pid ≡ false

-- the process is found, and the search has to go to it
abbrev pub IsFound : Scratch → ℕ → Type 0
IsFound marks pid = (is_marked marks.seen pid ≡ true) × (is_marked marks.todo pid ≡ true)

-- the process is not found; whether the search has to visit it is unchanged
abbrev pub IsNotFound : Scratch → Scratch → ℕ → Type 0
IsNotFound old new pid = (is_marked new.seen pid ≡ false) × (is_marked new.todo pid ≡ is_marked old.todo pid)

-- exactly these of the processes that were not found become found, and the search has to go to them; the other marks
-- and the ranks stay
pub record Marks (these : ℕ → Type 0) (old new : Scratch) : Type 0 where
  pub before : (pid : ℕ) → is_marked old.seen pid ≡ true
      → (is_marked new.seen pid ≡ true) × (is_marked new.todo pid ≡ is_marked old.todo pid)
  pub others : (pid : ℕ) → is_marked old.seen pid ≡ false
      → (IsFound new pid × these pid) ⊎ (IsNotFound old new pid × (these pid → ⊥))
  pub room : KeepsRoom old new
  pub ranks : new.ranks ≡ old.ranks

-- the search has to go to no process, or this is one to which it had to go and no longer has to
abbrev pub TakesNext : Option ℕ → Scratch → Scratch → Type 0
TakesNext None old new = (new ≡ old) × ((pid : ℕ) → is_marked old.todo pid ≡ false)
TakesNext (Some taken) old new =
    (is_marked old.todo taken ≡ true) × (is_marked new.todo taken ≡ false) × (new.seen ≡ old.seen)
    × ((other : ℕ) → ¬ (other ≡ taken) → is_marked new.todo other ≡ is_marked old.todo other)
    × KeepsRoom old new
    × (new.ranks ≡ old.ranks)
