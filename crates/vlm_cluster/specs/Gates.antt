-- What passes between a worker and its gate.
use Rattle.std.specs.Prelude.{◌≡◌, ◌≤◌, ◌+◌, ◌++◌, ℕ, Bool, true, false, List, [], ◌∷◌}
use Rattle.vlm_journal.specs.declared.entries.Item.{Item}
use Rattle.vlm_cluster.specs.declared.gate.Go.{Go}
use Rattle.vlm_cluster.specs.declared.gate.Go.TheVariants.{Later, Post, Stop}

-- one event: the worker asks for a step and gets an answer, or tells an item
pub data Event : Type 0 where
  asks : ℕ → Go → Event
  tells : Item → Event

-- which events lead a gate from one state to another
abbrev pub Moves : Type 0 → Type 1
Moves G = G → Event → G → Type 0

-- the moves of a gate, from its relations `answers` and `hears`
abbrev pub moves : {G : Type 0} → (G → ℕ → Go → G → Type 0) → (G → Item → G → Type 0) → Moves G
moves answers hears old (asks n go) new = answers old n go new
moves answers hears old (tells item) new = hears old item new

-- each event starts in the state to which the event before it led
abbrev pub Chain : {G : Type 0} → Moves G → G → List Event → G → Type 0
Chain moves old [] new = new ≡ old
Chain {G} moves old (event ∷ events) new = (next : G) × moves old event next × Chain moves next events new

-- the items that the gate is told, in order
abbrev pub items_told : List Event → List Item
items_told [] = []
items_told (asks n go ∷ events) = items_told events
items_told (tells item ∷ events) = item ∷ items_told events

-- a gate's place in its list: it has let n steps through, and may let more through or has stopped the list
pub data Standing : Type 0 where
  open_at : ℕ → Standing
  shut_at : ℕ → Standing

-- the worker asks for the steps in turn: after `Post` for the next step, after `Later` for the same step, after `Stop`
-- for none
abbrev pub AreInTurn : List Event → Standing → Standing → Type 0
AreInTurn [] from to = to ≡ from
AreInTurn (tells item ∷ events) from to = AreInTurn events from to
AreInTurn (asks k Post ∷ events) (open_at n) to = (k ≡ n) × AreInTurn events (open_at (n + 1)) to
AreInTurn (asks k Later ∷ events) (open_at n) to = (k ≡ n) × AreInTurn events (open_at n) to
AreInTurn (asks k Stop ∷ events) (open_at n) to = (k ≡ n) × AreInTurn events (shut_at n) to
AreInTurn (asks k go ∷ events) (shut_at n) to = ⊥

-- the state of a gate, and the items that its worker has taken
abbrev pub Point : Type 0 → Type 0
Point G = G × List Item

-- the events that tell these items
abbrev pub tellings : List Item → List Event
tellings [] = []
tellings (item ∷ items) = tells item ∷ tellings items

-- between two points the worker tells its gate each item that it takes, once and in order, and asks nothing
abbrev pub IsTold : {G : Type 0} → Moves G → Point G → Point G → Type 0
IsTold moves old new = (items : List Item) × (new.1 ≡ old.1 ++ items) × Chain moves old.0 (tellings items) new.0

-- between two points the worker tells its gate each item that it takes, once and in order, and asks for the steps in
-- turn
pub record IsGuided {G : Type 0} (moves : Moves G) (old new : Point G) (from to : Standing) : Type 0 where
  pub events : List Event
  pub chain : Chain moves old.0 events new.0
  pub told : new.1 ≡ old.1 ++ items_told events
  pub asked : AreInTurn events from to

-- a worker posts each step that its gate lets through, until the gate stops the list or the list ends; a cancelled
-- worker may leave out the last of these steps
abbrev pub IsCounted : Standing → ℕ → ℕ → Bool → Type 0
IsCounted (shut_at n) size count whole = count ≡ n
IsCounted (open_at n) size count true = (count ≡ n) × (n ≡ size)
IsCounted (open_at n) size count false = (count ≤ n) × (n ≤ count + 1)

-- between two points a gate has guided a worker through a list of `size` steps, and the worker posted `count` of them
pub record IsFollowed {G : Type 0} (moves : Moves G) (old new : Point G) (size count : ℕ) (whole : Bool) : Type 0 where
  pub standing : Standing
  pub guided : IsGuided moves old new (open_at 0) standing
  pub counted : IsCounted standing size count whole

-- after a point the gate was told more items, which makes `items` in all
abbrev pub IsToldOn : {G : Type 0} → Moves G → Point G → List Item → Type 0
IsToldOn {G} moves old items = (last : G) × IsTold moves old (last, items)
