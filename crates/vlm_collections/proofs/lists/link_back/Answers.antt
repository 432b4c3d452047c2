use Rattle.std.proofs.Common.{◌≡◌, ◌≢◌, ℕ, rules, ap, sym, ◌∙◌}
use Rattle.slab.specs.Slab.{ContainsKey, get, with_value}
use Rattle.slab.proofs.SlabLemmas.{Updates-with_value}
use Rattle.vlm_collections.specs.declared.link.Links.{Links}
use Rattle.vlm_collections.specs.Lists.{next_in, prev_in}
use Rattle.vlm_collections.proofs.Rings.{nothing_relinked, one_relinked}
use Rattle.vlm_collections.proofs.lists.link_back.Goals as goal

pub returns-in-None : goal.returns-in-None
returns-in-None g c = record {
  joins = search rules;
  keeps = search rules;
  others = search rules;
  relinks = nothing_relinked g.T.Linked.with_links g.T.Linked.links g.met.T.Linked.written_as_was c.args.nodes.now;
  len = search rules;
}

pub returns-in-Some : goal.returns-in-Some
returns-in-Some g c =
    let nodes = c.args.nodes.now in
    let handle = c.in-Some.handle in
    let there : ContainsKey nodes handle = search rules in
    let updates = Updates-with_value nodes handle c.set_links.new.self there in
    let new = with_value nodes handle c.set_links.new.self in
    let pair : Links = record c.links-pair.result { prev = c.args.to } in
    let told = ap g.T.Linked.links c.set_links.ensures ∙ g.met.T.Linked.links_written c.index_mut-node.result.now pair in
    let prev : prev_in g.T.Linked.links (get new handle) ≡ c.args.to = ap (prev_in g.T.Linked.links) updates.changed ∙ ap (λ (p : Links). p.prev) told in
    let next : next_in g.T.Linked.links (get new handle) ≡ next_in g.T.Linked.links (get nodes handle) =
    ap (next_in g.T.Linked.links) updates.changed ∙ ap (λ (p : Links). p.next) told
    ∙ ap (λ (p : Links). p.next) c.links-pair.ensures
    ∙ sym (ap (next_in g.T.Linked.links) c.index_mut-node.ensures.value) in
    let others : (other : ℕ) → other ≢ handle → get new other ≡ get nodes other = updates.others in
    record {
      joins = search rules;
      keeps = search rules;
      others = search rules;
      relinks = one_relinked g.T.Linked.with_links g.T.Linked.links g.met.T.Linked.written_as_was nodes handle
          c.index_mut-node.result.now c.set_links.new.self _
          there c.index_mut-node.ensures.value c.set_links.ensures;
      len = search rules;
    }
