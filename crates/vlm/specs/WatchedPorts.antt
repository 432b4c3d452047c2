-- The steps that were posted at a port, and the steps that its hub has made.
use Rattle.std.specs.Prelude.{◌≡◌, ◌++◌, ℕ, List}
use Rattle.vlm_words.specs.declared.steps.Step.{Step}
use Rattle.vlm_journal.specs.Told.{asked}
use Rattle.vlm_ports.specs.declared.hub.Hub.{Hub}
use Rattle.vlm_ports.specs.declared.port.Port.{Port}
use Rattle.vlm_ports.specs.Hubs.{HubGrew, asked_before, journal}
use Rattle.vlm_ports.specs.Ports.{identity, posted}
use Rattle.vlm_ports.specs.Rings.{RingName}

-- the node and the rings of a port, which no other port has
abbrev pub Name : Type 0
Name = ℕ × RingName × RingName

-- a port, and all its posts
abbrev pub Posts : Type 0
Posts = Name × List Step

abbrev pub posts_of : Port → Posts
posts_of port = (identity port, posted port)

-- the hub has made all posts of the port, except these last ones
abbrev pub HasLeft : Hub → List Step → Port → Type 0
HasLeft hub steps port =
    posted port ≡ (asked_before hub port.node ++ asked port.node (journal hub)) ++ steps

-- the hub has appended entries to its journal
abbrev pub HasGrown : Hub → Hub → Type 0
HasGrown old new = (count : ℕ) × HubGrew count old new
