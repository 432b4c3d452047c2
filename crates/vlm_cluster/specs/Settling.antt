-- What a hub says of a settled port.
use Rattle.std.specs.Prelude.{◌++◌, ℕ, List}
use mathlib.Core.List.{IsPrefix}
use Rattle.vlm_words.specs.declared.steps.Step.{Step}
use Rattle.vlm_words.specs.State.{State}
use Rattle.vlm_journal.specs.declared.entries.Entry.{Entry}
use Rattle.vlm_journal.specs.declared.entries.Item.{Item}
use Rattle.vlm_journal.specs.Told.{asked, told}
use Rattle.vlm_ports.specs.declared.hub.Hub.{Hub}
use Rattle.vlm_ports.specs.declared.port.Port.{Port}
use Rattle.vlm_ports.specs.Hubs.{asked_before, base, bases, journal, rings, state, told_before}
use Rattle.vlm_ports.specs.Links.{Base}
use Rattle.vlm_ports.specs.Ports.{posted, taken}
use Rattle.vlm_ports.specs.Rings.{RingName}

-- what settling leaves unchanged
abbrev pub standing : Hub → List (ℕ × RingName × RingName) × List Base × List Entry × State × ℕ
standing h = (rings h, bases h, journal h, state h, base h)

-- all steps that a node has asked for, before the last cut and since
abbrev pub asked_by : Hub → ℕ → List Step
asked_by h node = asked_before h node ++ asked node (journal h)

-- all items that a node is told, before the last cut and since
abbrev pub told_by : Hub → ℕ → List Item
told_by h node = told_before h node ++ told node (journal h)

-- the steps that the hub has made are a prefix of the port's posts, and the items that the port has taken are a prefix
-- of what it is told
pub record HasBegun (h : Hub) (p : Port) : Type 0 where
  pub asked : IsPrefix (asked_by h p.node) (posted p)
  pub told : IsPrefix (taken p) (told_by h p.node)
