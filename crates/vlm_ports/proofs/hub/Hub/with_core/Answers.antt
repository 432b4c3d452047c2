use Rattle.std.proofs.Common.{◌≡◌, refl, ◌≤◌, ◌<◌, ◌-◌, ℕ, [], List, sym, subst, get_or, map, arith, length}
use Rattle.vlm_journal.specs.declared.entries.Entry.{Entry}
use Rattle.vlm_ports.specs.Links.{node_rings_base, node_rings_identity, no_base}
use Rattle.vlm_ports.proofs.Lines.{none_before}
use Rattle.vlm_ports.proofs.Making.{each_of_rings}
use Rattle.vlm_ports.proofs.hub.Hub.with_core.Goals as goal

pub returns-clause-hub : goal.returns-clause-hub
returns-clause-hub c =
    let ls = c.in_ok-all_node_rings.all_node_rings.items in
    let long : length ls ≡ c.args.count = c.in_ok-all_node_rings.ensures.all_node_rings.0 in
    let P : ℕ → List Entry
    → Type 0 = λ node es. ((get_or (map (node_rings_base es) ls) (node - 1) no_base).asked_before ≡ [])
    × ((get_or (map (node_rings_base es) ls) (node - 1) no_base).told_before ≡ []) in
    let nothing : (node : ℕ) → 0 < node → node ≤ c.args.count → P node c.new.result.entries = λ node some within.
    let inside : node ≤ length ls = omega (arith, long, within) in
    subst (P node) (sym c.new.ensures.entries) (none_before ls c.in_ok-all_node_rings.ensures.all_node_rings.1 node some inside) in
    record {
      journal = c.new.ensures.entries;
      state = c.new.ensures.state;
      base = c.new.ensures.base;
      nodes = long;
      unwatched = refl;
      asked = λ node some within. (nothing node some within).0;
      told = λ node some within. (nothing node some within).1;
    }

pub returns-clause-ours : goal.returns-clause-ours
returns-clause-ours c =
    each_of_rings (map node_rings_identity c.in_ok-all_node_rings.all_node_rings.items)
    c.in_ok-all_node_rings.ports.items c.in_ok-all_node_rings.ensures.ports.1 c.in_ok-all_node_rings.ensures.rings
