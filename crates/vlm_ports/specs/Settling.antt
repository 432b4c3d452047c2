-- The settling of a port that its thread has handed back.
use Rattle.std.specs.Prelude.{◌≡◌, ◌≤◌, ◌+◌, ◌++◌, length}
use mathlib.Core.List.{IsPrefix}
use Rattle.vlm_journal.specs.Told.{asked, told}
use Rattle.vlm_ports.specs.declared.hub.Hub.{Hub}
use Rattle.vlm_ports.specs.declared.node_rings.NodeRings.{NodeRings}
use Rattle.vlm_ports.specs.declared.node_rings.Settled.{Settled}
use Rattle.vlm_ports.specs.declared.port.Port.{Port}
use Rattle.vlm_ports.specs.Hubs.{KeepsKnown, OthersLast, asked_before, base, bases, free_for, journal, rings, state, told_before, waiting}
use Rattle.vlm_ports.specs.Links.{has_taken, has_told}
use Rattle.vlm_ports.specs.Ports.{arrived, free_places, identity, posted, taken}
use Rattle.vlm_ports.specs.Watched.{board}

-- the port has posted and taken nothing more
abbrev pub IsSamePort : Port → Port → Type 0
IsSamePort was port = (identity port ≡ identity was) × (posted port ≡ posted was) × (taken port ≡ taken was)

-- the port knows all that it knew of its items and its free places
abbrev pub PortKnowsMore : Port → Port → Type 0
PortKnowsMore was port = IsPrefix (arrived was) (arrived port) × (free_places was ≤ free_places port)

-- the hub has taken no post and sent no item
abbrev pub HaveMovedNothing : NodeRings → NodeRings → Type 0
HaveMovedNothing old new = (has_taken new ≡ has_taken old) × (has_told new ≡ has_told old)

-- a port of the hub is settled: the posts and items on its rings are counted, and hub and port know of them
pub record HasSettled (settled : Settled) (was port : Port) (old new : Hub) : Type 0 where
  pub rings : rings new ≡ rings old
  pub base : (base new ≡ base old) × (bases new ≡ bases old)
  pub board : board new ≡ board old
  pub same : IsSamePort was port
  pub posted : posted port ≡ asked_before new port.node ++ asked port.node (journal new) ++ waiting new port.node
  pub steps : (settled.steps ≡ length (waiting new port.node)) × (settled.steps ≤ 64)
  pub told : told_before new port.node ++ told port.node (journal new) ≡ taken port ++ arrived port
  pub journal : journal new ≡ journal old
  pub state : state new ≡ state old
  pub items : (settled.items ≡ length (arrived port)) × (settled.items ≤ 64)
  pub places : 64 ≤ free_for new port.node + settled.items
  pub free : 64 ≤ free_places port + settled.steps
  pub lasts : PortKnowsMore was port
  pub known : KeepsKnown old new
  pub others : OthersLast port.node old new
