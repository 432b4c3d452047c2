use Rattle.std.proofs.Common.{◌≡◌, ◌≤◌, ◌+◌, ◌-◌, ◌++◌, [], ℕ, List, length, get_or, map, set, arith, ap, refl, sym, subst, ◌∙◌}
use Rattle.vlm_words.specs.declared.steps.Step.{Step}
use Rattle.vlm_journal.specs.Told.{asked}
use Rattle.vlm_ports.specs.Links.{knows, node_rings_base, no_base, places}
use Rattle.vlm_ports.proofs.Lines.{at_set, node_rings_within, rings_set, set_same, settled_node_rings}
use Rattle.vlm_ports.proofs.Lasting.{known_kept, lasts_at, others_last}
use Rattle.vlm_ports.proofs.hub.Hub.settle.Goals as goal

pub returns : goal.returns
returns c = record {
  rings = rings_set c.args.self.now.all_node_rings.items
      (c.args.port.now.node - 1) c.settle.new.self c.index_mut-node_rings.result.now
      c.index_mut-node_rings.ensures.value c.settle.ensures.rings;
  base =
      let ls = c.args.self.now.all_node_rings.items in let js = c.args.self.now.journaled.entries in let at =
      c.args.port.now.node - 1 in let l = c.settle.new.self in
      let lt = node_rings_within ls at _ c.requires.1 in
      let follows = set_same ls js at l c.index_mut-node_rings.result.now c.args.self.now.linked lt
      c.index_mut-node_rings.ensures.value c.settle.ensures.rings c.settle.ensures.unmoved.0
      c.settle.ensures.unmoved.1 in
      (refl, follows.bases);
  board = refl;
  journal = refl;
  state = refl;
  same = c.settle.ensures.same;
  posted =
      let ls = c.args.self.now.all_node_rings.items in let js = c.args.self.now.journaled.entries in let at =
      c.args.port.now.node - 1 in let l = c.settle.new.self in
      let node = c.settle.new.port.node in
      let lt = node_rings_within ls at _ c.requires.1 in
      let follows = set_same ls js at l c.index_mut-node_rings.result.now c.args.self.now.linked lt
      c.index_mut-node_rings.ensures.value c.settle.ensures.rings c.settle.ensures.unmoved.0
      c.settle.ensures.unmoved.1 in
      let same : node ≡ c.args.port.now.node = ap (λ i. i.0) c.settle.ensures.same.0 in
      let some = c.requires.0 in
      let is : node ≡ at + 1 = omega (arith, same, some) in
      let settled = settled_node_rings ls js at l node follows.linked lt is in
      let before : List Step = (get_or (map (node_rings_base js) (set ls at l)) (node - 1) no_base).asked_before in
      c.settle.ensures.posted ∙ ap (λ (ss : List Step). ss ++ knows l) settled.0
      ∙ ap (λ (ws : List Step). (before ++ asked node js) ++ ws) (sym (at_set knows ls at l (node - 1) [] (omega (arith, is)) lt));
  steps =
      let ls = c.args.self.now.all_node_rings.items in let at = c.args.port.now.node - 1 in let l = c.settle.new.self in
      let node = c.settle.new.port.node in
      let lt = node_rings_within ls at _ c.requires.1 in
      let same : node ≡ c.args.port.now.node = ap (λ i. i.0) c.settle.ensures.same.0 in (
        c.settle.ensures.steps.0
            ∙ ap (λ (ws : List Step). length ws)
            (sym (at_set knows ls at l (node - 1) [] (ap (λ (n : ℕ). n - 1) same) lt)),
        c.settle.ensures.steps.1,
      );
  told =
      let ls = c.args.self.now.all_node_rings.items in let js = c.args.self.now.journaled.entries in let at =
      c.args.port.now.node - 1 in let l = c.settle.new.self in
      let node = c.settle.new.port.node in
      let lt = node_rings_within ls at _ c.requires.1 in
      let follows = set_same ls js at l c.index_mut-node_rings.result.now c.args.self.now.linked lt
      c.index_mut-node_rings.ensures.value c.settle.ensures.rings c.settle.ensures.unmoved.0
      c.settle.ensures.unmoved.1 in
      let same : node ≡ c.args.port.now.node = ap (λ i. i.0) c.settle.ensures.same.0 in
      let some = c.requires.0 in
      let settled = settled_node_rings ls js at l node follows.linked lt (omega (arith, same, some)) in
      sym settled.1 ∙ c.settle.ensures.arrived;
  items = c.settle.ensures.items;
  places =
      let ls = c.args.self.now.all_node_rings.items in let at = c.args.port.now.node - 1 in let l = c.settle.new.self in
      let node = c.settle.new.port.node in
      let lt = node_rings_within ls at _ c.requires.1 in
      let same : node ≡ c.args.port.now.node = ap (λ i. i.0) c.settle.ensures.same.0 in
      let P : ℕ → Type 0 = λ n. 64 ≤ n + c.settle.result.items in
      subst P (sym (at_set places ls at l (node - 1) 0 (ap (λ (n : ℕ). n - 1) same) lt)) c.settle.ensures.places;
  free = c.settle.ensures.free;
  lasts = c.settle.ensures.known;
  known =
      let ls = c.args.self.now.all_node_rings.items in let js = c.args.self.now.journaled.entries in let at =
      c.args.port.now.node - 1 in let l = c.settle.new.self in
      let was = c.index_mut-node_rings.result.now in
      let lt = node_rings_within ls at _ c.requires.1 in
      let follows = set_same ls js at l was c.args.self.now.linked lt c.index_mut-node_rings.ensures.value
      c.settle.ensures.rings c.settle.ensures.unmoved.0 c.settle.ensures.unmoved.1 in
      known_kept ls (set ls at l) js js c.args.self.now.linked follows.linked
      (rings_set ls at l was c.index_mut-node_rings.ensures.value c.settle.ensures.rings)
      (lasts_at ls at l was lt c.index_mut-node_rings.ensures.value c.settle.ensures.lasts);
  others =
      let at = c.args.port.now.node - 1 in
      let same : c.settle.new.port.node ≡ c.args.port.now.node = ap (λ i. i.0) c.settle.ensures.same.0 in
      let some = c.requires.0 in
      others_last c.args.self.now.all_node_rings.items at c.settle.new.port.node c.settle.new.self (omega (arith, same, some));
}
