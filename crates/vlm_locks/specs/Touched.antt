-- The notes of a step: the resources that it touches, and before that the locks that it will give up.
use Rattle.std.specs.Prelude.{◌≡◌, ◌<◌, ⊤, ℕ, List, [], ◌∷◌, map}
use Rattle.std.specs.List.{AllByRecursion}
use Rattle.vlm_collections.specs.Lists.{IsIn}
use Rattle.vlm_store.specs.Records.{Records, StoredResource}
use Rattle.vlm_locks.specs.declared.touched.Note.{Note}

-- the notes, in the order in which a step made them, and how many there is room for
pub record Touches : Type 0 where
  pub noted : List Note
  pub room : ℕ

-- the handles of the noted resources or locks
abbrev pub touched_handles : List Note → List ℕ
touched_handles touches = map (λ t. t.at) touches

-- each touched resource is among these, with its serial
abbrev pub AreAmong : List Note → List StoredResource → Type 0
AreAmong touches resources = (t : Note) → IsIn t touches
    → (r : StoredResource) × (IsIn r resources × (r.at ≡ t.at) × (r.serial ≡ t.number))

-- each touched resource exists
abbrev pub AreThere : List Note → Records → Type 0
AreThere touches s = AreAmong touches s.resources

-- the notes are in the order of their numbers, and no number repeats
abbrev pub RiseByNumber : List Note → Type 0
RiseByNumber [] = ⊤
RiseByNumber (t ∷ touches) = AllByRecursion (λ later. t.number < later.number) touches × RiseByNumber touches

-- each note of the first list is in the second
abbrev pub AreStillNoted : List Note → List Note → Type 0
AreStillNoted old new = (t : Note) → IsIn t old → IsIn t new

-- there is a note with this number
abbrev pub IsNoted : ℕ → List Note → Type 0
IsNoted number touches = (t : Note) × (IsIn t touches × (t.number ≡ number))

-- each resource that is not touched is unchanged
abbrev pub OnlyTouched : List Note → Records → Records → Type 0
OnlyTouched touches old new = (r : StoredResource) → IsIn r new.resources → (IsIn r.at (touched_handles touches) → ⊥)
    → IsIn r old.resources

-- the resources are in the order of serials
abbrev pub StandBySerial : List StoredResource → Type 0
StandBySerial [] = ⊤
StandBySerial (r ∷ resources) = AllByRecursion (λ later. r.serial < later.serial) resources × StandBySerial resources
