-- The steps that were posted at the ports of a watched hub.
use Rattle.std.specs.Prelude.{ℕ, List, map}
use Rattle.std.specs.List.{HoldsAt}
use Rattle.vlm_words.specs.declared.steps.Step.{Step}
use Rattle.vlm_ports.specs.Hubs.{bases}
use Rattle.vlm_ports.specs.Links.{Base}
use Rattle.vlm_ports.specs.declared.watch.rows.RootKey.{RootKey}
use Rattle.vlm.specs.declared.monitor.watched.MonitoredHub.{MonitoredHub}
use Rattle.vlm.specs.WatchedPorts.{HasLeft, Posts, posts_of}

-- turns and settlings change neither the key, nor the posts of a port, nor the steps of a node before the last cut
abbrev pub standing : MonitoredHub → RootKey × List Posts × List Base
standing w = (w.key, map posts_of w.ports.items, bases w.hub)

-- the hub has made all posts of the port at a place, except these last ones
abbrev pub HasLeftAt : MonitoredHub → ℕ → List Step → Type 0
HasLeftAt w place steps = HoldsAt (HasLeft w.hub steps) w.ports.items place
