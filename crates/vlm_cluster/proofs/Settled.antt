-- What settling shows of a list.
use Rattle.std.proofs.Common.{◌≡◌, ◌-◌, ◌<◌, ◌++◌, ℕ, true, List, Some, sym, ◌∙◌, subst}
use Rattle.std.specs.List.{slice_get}
use mathlib.Core.List.{IsPrefix}
use Rattle.vlm_words.specs.declared.steps.Step.{Step}
use Rattle.vlm_journal.specs.declared.entries.Item.{Item}
use Rattle.vlm_journal.specs.declared.entries.Part.{Part}
use Rattle.vlm_journal.specs.Told.{asked, told}
use Rattle.vlm_ports.specs.declared.hub.Hub.{Hub}
use Rattle.vlm_ports.specs.declared.port.Port.{Port}
use Rattle.vlm_ports.specs.Hubs.{IsPortOf, journal, rings}
use Rattle.vlm_ports.specs.Ports.{identity, posted, taken}
use Rattle.vlm_ports.specs.Rings.{RingName}
use Rattle.vlm_cluster.specs.declared.worker.WorkerResult.{WorkerResult}
use Rattle.vlm_cluster.specs.Parts.{IsAccounted, entries_in}
use Rattle.vlm_cluster.specs.Settling.{HasBegun, asked_by, told_by}
use Rattle.vlm_cluster.specs.Works.{IsBegun, IsWhole, work_of}
use Rattle.vlm_cluster.proofs.Accounting.{asked_in_all, node_within, told_in_all}

-- a port stays one of the hub's
pub port_stays : (h i : Hub) (p q : Port) → rings i ≡ rings h → identity q ≡ identity p → IsPortOf h p → IsPortOf i q
port_stays h i p q same_rings same is =
    let P : List (ℕ × RingName × RingName) → ℕ × RingName × RingName → Type 0 = λ rs port. (0 < port.0) × (slice_get rs (port.0 - 1) ≡ Some port) in
    subst (λ rs. P rs (identity q)) (sym same_rings) (subst (λ port. P (rings h) port) (sym same) is)

module _ {G : Type 0} (ps : List Part) (h : Hub) (d : WorkerResult G) (was : IsAccounted ps h) (is : IsPortOf h d.client.port) where
  all_asked : asked_by h d.client.port.node ≡ asked d.client.port.node (entries_in ps ++ journal h)
  all_asked = asked_in_all ps h d.client.port.node was is.0 (node_within h d.client.port is)

  all_told : told_by h d.client.port.node ≡ told d.client.port.node (entries_in ps ++ journal h)
  all_told = told_in_all ps h d.client.port.node was is.0 (node_within h d.client.port is)

  pub begun_of : HasBegun h d.client.port → IsBegun (entries_in ps ++ journal h) (work_of d) d.client.items.items
  begun_of begun = record {
    asked = subst (λ (ss : List Step). IsPrefix ss (posted d.client.port)) all_asked begun.asked;
    told = subst (λ (xs : List Item). IsPrefix xs (told d.client.port.node (entries_in ps ++ journal h))) (sym d.client.collected)
        (subst (λ (xs : List Item). IsPrefix (taken d.client.port) xs) all_told begun.told);
  }

  pub whole_of : d.left ≡ true → asked_by h d.client.port.node ≡ posted d.client.port → told_by h d.client.port.node ≡ taken d.client.port
      → IsWhole (entries_in ps ++ journal h) (work_of d) d.client.items.items
  whole_of left steps items = record {
    left = left;
    asked = sym all_asked ∙ steps;
    told = d.client.collected ∙ sym items ∙ all_told;
  }
