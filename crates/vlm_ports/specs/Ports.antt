-- The posts of a port, the items that it has taken, and what it knows.
use Rattle.std.specs.Prelude.{◌≡◌, ◌<◌, ◌+◌, ℕ, List, [], length, map, slice_index_or}
use Rattle.rtrb.specs.Ring.{known_free, known_items, received, sent}
use Rattle.vlm_words.specs.declared.steps.Step.{Step}
use Rattle.vlm_journal.specs.declared.entries.Item.{Item}
use Rattle.vlm_ports.specs.declared.port.Port.{Port}
use Rattle.vlm_ports.specs.Posts.{on_behalf}
use Rattle.vlm_ports.specs.Rings.{RingName, pop_ring, push_ring}

-- every step that was posted, the oldest first
abbrev pub posted : Port → List Step
posted p = map (λ step. on_behalf p.node step) (sent p.requests)

-- every item that was taken, the oldest first
abbrev pub taken : Port → List Item
taken p = received p.items

-- how many places the port knows to be free
abbrev pub free_places : Port → ℕ
free_places p = known_free p.requests

-- the items that the port knows to have come
abbrev pub arrived : Port → List Item
arrived p = known_items p.items

-- the node of a port, and its rings
abbrev pub identity : Port → ℕ × RingName × RingName
identity p = (p.node, push_ring p.requests, pop_ring p.items)

-- the ports of the nodes from 1 on, before any of them has posted or taken anything
abbrev pub AreNew : List Port → Type 0
AreNew ports =
    (k : ℕ) (d : Port) → k < length ports
    → ((slice_index_or ports k d).node ≡ k + 1) × (posted (slice_index_or ports k d) ≡ [])
    × (taken (slice_index_or ports k d) ≡ [])
