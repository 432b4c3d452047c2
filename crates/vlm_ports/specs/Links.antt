-- The posts that the hub has taken from a node's rings, and the items that it has sent.
use Rattle.std.specs.Prelude.{◌≡◌, ◌⊎◌, ◌<◌, ◌≤◌, ◌+◌, ◌-◌, ◌++◌, ℕ, List, [], length, map, slice_index_or, take, None}
use mathlib.Core.List.{IsPrefix}
use Rattle.rtrb.specs.Ring.{known_free, known_items, received, sent}
use Rattle.vlm_words.specs.declared.steps.Step.{Step}
use Rattle.vlm_model.specs.Pending.{first_pending}
use Rattle.vlm_words.specs.State.{State}
use Rattle.vlm_journal.specs.declared.entries.Entry.{Entry}
use Rattle.vlm_journal.specs.declared.entries.Item.{Item}
use Rattle.vlm_journal.specs.Told.{asked, told}
use Rattle.vlm_ports.specs.declared.node_rings.NodeRings.{NodeRings}
use Rattle.vlm_ports.specs.Posts.{on_behalf}
use Rattle.vlm_ports.specs.Rings.{RingName, pop_ring, push_ring}

-- every post of the node that the hub has taken, the oldest first
abbrev pub has_taken : NodeRings → List Step
has_taken l = map (λ step. on_behalf l.node step) (received l.requests)

-- every item that the hub has sent to the node, the oldest first
abbrev pub has_told : NodeRings → List Item
has_told l = sent l.items

-- the posts that the hub knows to be on the node's ring
abbrev pub knows : NodeRings → List Step
knows l = map (λ step. on_behalf l.node step) (known_items l.requests)

-- how many places for items the hub knows to be free
abbrev pub places : NodeRings → ℕ
places l = known_free l.items

-- the ends of a node's rings forget nothing: each known post is taken or still known, and each place that was known to
-- be free has an item or is still known to be free
pub record Lasts (was l : NodeRings) : Type 0 where
  pub posts : IsPrefix (has_taken was ++ knows was) (has_taken l ++ knows l)
  pub places : length (has_told was) + places was ≤ length (has_told l) + places l

-- the node, and its two rings
abbrev pub node_rings_identity : NodeRings → ℕ × RingName × RingName
node_rings_identity l = (l.node, pop_ring l.requests, push_ring l.items)

-- a list without its last elements, one for each element of the other list
abbrev pub front : {X : Type 0} → List X → List X → List X
front all last = take (length all - length last) all

-- the requests and the items of the node before these entries
pub record Base : Type 0 where
  pub asked_before : List Step
  pub told_before : List Item

abbrev pub no_base : Base
no_base = record { asked_before = []; told_before = [] }

-- the posts that the hub had taken and the items that it had sent before these entries
abbrev pub node_rings_base : List Entry → NodeRings → Base
node_rings_base journal l = record {
  asked_before = front (has_taken l) (asked l.node journal);
  told_before = front (has_told l) (told l.node journal);
}

-- the posts that were taken end with the node's requests, and the items that were sent end with its items
pub record IsLinked (k : ℕ) (l : NodeRings) (journal : List Entry) : Type 0 where
  pub node : l.node ≡ k + 1
  pub taken : has_taken l ≡ front (has_taken l) (asked (k + 1) journal) ++ asked (k + 1) journal
  pub told : has_told l ≡ front (has_told l) (told (k + 1) journal) ++ told (k + 1) journal

-- the rings are those of the nodes from 1 on, and each is linked to the journal
abbrev pub AreLinked : List NodeRings → List Entry → Type 0
AreLinked all_node_rings journal = (k : ℕ) (d : NodeRings) → k < length all_node_rings
    → IsLinked k (slice_index_or all_node_rings k d) journal

-- the rings are those of the nodes from 1 on, and nothing was taken from or sent to any of them
abbrev pub AreFresh : List NodeRings → Type 0
AreFresh all_node_rings = (k : ℕ) (d : NodeRings) → k < length all_node_rings
    → ((slice_index_or all_node_rings k d).node ≡ k + 1) × (has_taken (slice_index_or all_node_rings k d) ≡ [])
    × (has_told (slice_index_or all_node_rings k d) ≡ [])

-- no AST is left to deliver to the node: no free place is known, or no AST is pending
abbrev pub IsDelivered : State → NodeRings → Type 0
IsDelivered s l = (places l ≡ 0) ⊎ (first_pending l.node s.processes ≡ None)

-- the hub may do nothing for the node: it knows no free place, or neither a pending AST nor a post
abbrev pub MayRest : State → NodeRings → Type 0
MayRest s l = (places l ≡ 0) ⊎ ((first_pending l.node s.processes ≡ None) × (knows l ≡ []))
