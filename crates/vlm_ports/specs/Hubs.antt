-- The journal of a hub, and what the hub knows of its ports.
use Rattle.std.specs.Prelude.{◌≡◌, ◌⊎◌, ◌<◌, ◌≤◌, ◌-◌, ◌+◌, ◌/◌, ◌==◌, ◌&&◌, ◌++◌, ℕ, Bool, false, if◌then◌else◌}
use Rattle.std.specs.Prelude.{sum_by, All, List, [], length, map, slice_get, slice_index_or, Some, None, IsNone}
use Rattle.vlm_words.specs.declared.asts.Ast.{Ast}
use Rattle.vlm_words.specs.declared.steps.Answer.TheVariants.{Taken}
use Rattle.vlm_words.specs.declared.steps.Step.TheVariants.{Take}
use mathlib.Core.List.{IsPrefix}
use Rattle.vlm_words.specs.declared.steps.Step.{Step}
use Rattle.vlm_model.specs.Pending.{first_pending}
use Rattle.vlm_model.specs.Reasons.{HasDeparted}
use Rattle.vlm_words.specs.State.{State, start}
use Rattle.vlm_journal.specs.declared.entries.Entry.{Entry}
use Rattle.vlm_journal.specs.declared.entries.Item.{Item}
use Rattle.vlm_journal.specs.Departed.{StaysDeparted}
use Rattle.vlm_journal.specs.Journals.{JournalFrom}
use Rattle.vlm_journal.specs.Told.{asked, told}
use Rattle.vlm_ports.specs.declared.hub.Hub.{Hub}
use Rattle.vlm_ports.specs.declared.node_rings.NodeRings.{NodeRings}
use Rattle.vlm_ports.specs.declared.port.Port.{Port}
use Rattle.vlm_ports.specs.Links.{Base, IsDelivered, Lasts, MayRest, knows, node_rings_base, node_rings_identity, no_base, places}
use Rattle.vlm_ports.specs.Ports.{identity}
use Rattle.vlm_ports.specs.Rings.{RingName}

-- the entries since the last cut, the state to which they lead, and the number of entries before them
abbrev pub journal : Hub → List Entry
journal h = h.journaled.entries

abbrev pub state : Hub → State
state h = h.journaled.state

abbrev pub base : Hub → ℕ
base h = h.journaled.base

-- how many nodes the hub serves
abbrev pub nodes : Hub → ℕ
nodes h = length h.all_node_rings.items

-- the nodes and their rings
abbrev pub rings : Hub → List (ℕ × RingName × RingName)
rings h = map node_rings_identity h.all_node_rings.items

-- the requests and the items of each node before the last cut
abbrev pub bases : Hub → List Base
bases h = map (node_rings_base (journal h)) h.all_node_rings.items

abbrev pub asked_before : Hub → ℕ → List Step
asked_before h node = (slice_index_or (bases h) (node - 1) no_base).asked_before

abbrev pub told_before : Hub → ℕ → List Item
told_before h node = (slice_index_or (bases h) (node - 1) no_base).told_before

-- the posts of a node that the hub knows to be on its ring
abbrev pub waiting : Hub → ℕ → List Step
waiting h node = slice_index_or (map knows h.all_node_rings.items) (node - 1) []

-- how many places the hub knows to be free on the item ring of a node
abbrev pub free_for : Hub → ℕ → ℕ
free_for h node = slice_index_or (map places h.all_node_rings.items) (node - 1) 0

-- the posts of a node that the hub knows of: first those that it has made, then those that wait
abbrev pub known_posts : Hub → ℕ → List Step
known_posts h node = (asked_before h node ++ asked node (journal h)) ++ waiting h node

-- how many places for items the hub knows of: one for each item that it has sent to the node, and the free places
abbrev pub known_places : Hub → ℕ → ℕ
known_places h node = length (told_before h node ++ told node (journal h)) + free_for h node

-- the hub forgets nothing: it has made or still knows each post that it knew of, and it has used or still knows each
-- place that it knew to be free
abbrev pub KeepsKnown : Hub → Hub → Type 0
KeepsKnown old new = (node : ℕ) → 0 < node → node ≤ nodes old
    → IsPrefix (known_posts old node) (known_posts new node) × (known_places old node ≤ known_places new node)

-- the hub knows the same about a node
abbrev pub KnowsTheSame : ℕ → Hub → Hub → Type 0
KnowsTheSame node old new = (waiting new node ≡ waiting old node) × (free_for new node ≡ free_for old node)

-- the hub knows the same about all nodes
abbrev pub KnowsAllTheSame : Hub → Hub → Type 0
KnowsAllTheSame old new = (waiting new ≡ waiting old) × (free_for new ≡ free_for old)

-- the entries of the journal count now as made before the last cut
abbrev pub PutsBeforeCut : Hub → Hub → Type 0
PutsBeforeCut old new = (node : ℕ) → 0 < node → node ≤ nodes old
    → (asked_before new node ≡ asked_before old node ++ asked node (journal old))
    × (told_before new node ≡ told_before old node ++ told node (journal old))

-- the hub knows the same about each node except one
abbrev pub OthersLast : ℕ → Hub → Hub → Type 0
OthersLast own old new = (node : ℕ) → 0 < node → (node ≡ own → ⊥) → KnowsTheSame node old new

-- the rings of no node forget anything
abbrev pub AllNodeRingsLast : Hub → Hub → Type 0
AllNodeRingsLast old new = (k : ℕ) (d : NodeRings) → Lasts (slice_index_or old.all_node_rings.items k d)
    (slice_index_or new.all_node_rings.items k d)

-- the port was made with this hub
abbrev pub IsPortOf : Hub → Port → Type 0
IsPortOf h p = (0 < p.node) × (slice_get (rings h) (p.node - 1) ≡ Some (identity p))

-- the hub knows no free place on the item ring of any node that has an AST pending or a post that the hub knows of
abbrev pub MayIdle : Hub → Type 0
MayIdle h = (node : ℕ) → 0 < node → node ≤ nodes h
    → (free_for h node ≡ 0) ⊎ ((first_pending node (state h).processes ≡ None) × (waiting h node ≡ []))

-- no AST is left to deliver to the node at a place
abbrev pub IsDeliveredAt : Hub → ℕ → Type 0
IsDeliveredAt h k = (d : NodeRings) → IsDelivered (state h) (slice_index_or h.all_node_rings.items k d)

-- the hub may do nothing for the node at a place
abbrev pub MayRestAt : Hub → ℕ → Type 0
MayRestAt h k = (d : NodeRings) → MayRest (state h) (slice_index_or h.all_node_rings.items k d)

-- only the rings at a place have changed, and not the state
pub record IsSameBut (at : ℕ) (old new : Hub) : Type 0 where
  pub state : new.journaled.state ≡ old.journaled.state
  pub all_node_rings : (k : ℕ) (d : NodeRings) → (k ≡ at → ⊥)
      → slice_index_or new.all_node_rings.items k d ≡ slice_index_or old.all_node_rings.items k d

-- the entry is a take, and its answer is an AST
pub record TakesAst (entry : Entry) : Type 0 where
  pub pid : ℕ
  pub ast : Ast
  pub step : entry.step ≡ Take pid
  pub answer : entry.answer ≡ Taken (Some ast)

-- the hub itself makes only takes whose answers are ASTs
abbrev pub HubTakesAlone : List Entry → Type 0
HubTakesAlone entries = All (λ entry. entry.sender ≡ 0 → TakesAst entry) entries

-- this many entries were appended: they are legal from the state before them and lead to the state after them; the hub
-- itself makes only takes, and a node that had departed is always answered DEPARTED
pub record Grew (n : ℕ) (before : List Entry) (old : State) (now : List Entry) (new : State) : Type 0 where
  pub more : List Entry
  pub is : now ≡ before ++ more
  pub count : length more ≡ n
  pub legal : JournalFrom old more new
  pub takes : HubTakesAlone more
  pub departed : (node : ℕ) → HasDeparted old node → StaysDeparted node more new

-- the hub has appended this many entries
abbrev pub HubGrew : ℕ → Hub → Hub → Type 0
HubGrew n old new = Grew n (journal old) (state old) (journal new) (state new)

-- the hub has appended no entry, and its state is the same
abbrev pub IsAsWritten : Hub → Hub → Type 0
IsAsWritten old new = (journal new ≡ journal old) × (state new ≡ state old)

-- these entries have no request of a node
abbrev pub NoneAsks : List Entry → List Entry → Type 0
NoneAsks old new = (k : ℕ) → asked (k + 1) new ≡ asked (k + 1) old

-- these entries have at most one request, of the node at a place
pub record OneAsks (at : ℕ) (old new : List Entry) : Type 0 where
  pub own : length (asked (at + 1) new) ≤ length (asked (at + 1) old) + 1
  pub others : (k : ℕ) → (k ≡ at → ⊥) → asked (k + 1) new ≡ asked (k + 1) old

-- at most one request of each node was taken
abbrev pub EachAsksOnce : List Entry → List Entry → Type 0
EachAsksOnce old new = (node : ℕ) → 0 < node → length (asked node new) ≤ length (asked node old) + 1

-- the step takes an AST of a process of the node
abbrev pub is_take_of : ℕ → Step → Bool
is_take_of node (Take pid) = pid / 65536 == node
is_take_of node step = false

-- 1 if the entry is the hub's take of an AST of the node
abbrev pub delivery_of : ℕ → Entry → ℕ
delivery_of node entry = if (entry.sender == 0) && is_take_of node entry.step then 1 else 0

-- how many ASTs of the node the hub has taken in these entries
abbrev pub deliveries : ℕ → List Entry → ℕ
deliveries node entries = sum_by (delivery_of node) entries

-- these entries take no AST of a node
abbrev pub NoneIsDelivered : List Entry → List Entry → Type 0
NoneIsDelivered old new = (k : ℕ) → deliveries (k + 1) new ≡ deliveries (k + 1) old

-- these entries take at most one AST, of the node at a place
pub record OneIsDelivered (at : ℕ) (old new : List Entry) : Type 0 where
  pub own : deliveries (at + 1) new ≤ deliveries (at + 1) old + 1
  pub others : (k : ℕ) → (k ≡ at → ⊥) → deliveries (k + 1) new ≡ deliveries (k + 1) old

-- at most one AST of each node was taken
abbrev pub EachIsDeliveredOnce : List Entry → List Entry → Type 0
EachIsDeliveredOnce old new = (node : ℕ) → 0 < node → deliveries node new ≤ deliveries node old + 1

-- a new hub of this many nodes: it has no entries, no requests, no items and no watchers
pub record IsNewHub (count : ℕ) (h : Hub) : Type 0 where
  pub journal : journal h ≡ []
  pub state : state h ≡ start
  pub base : base h ≡ 0
  pub nodes : nodes h ≡ count
  pub unwatched : IsNone h.board
  pub asked : (node : ℕ) → 0 < node → node ≤ count → asked_before h node ≡ []
  pub told : (node : ℕ) → 0 < node → node ≤ count → told_before h node ≡ []
