use Rattle.std.proofs.Common.{◌-◌, [], List, length, set, arith, ap, refl, sym, ◌∙◌}
use Rattle.vlm_words.specs.declared.steps.Step.{Step}
use Rattle.vlm_ports.specs.Links.{knows}
use Rattle.vlm_ports.proofs.Lines.{at_set, rings_set, set_same}
use Rattle.vlm_ports.proofs.Lasting.{known_kept, lasts_at, others_last}
use Rattle.vlm_ports.proofs.hub.Hub.posts_waiting.Goals as goal

pub returns-clause-rings : goal.returns-clause-rings
returns-clause-rings c = rings_set c.args.self.now.all_node_rings.items (c.args.node - 1) c.requests_waiting.new.self
    c.index_mut-node_rings.result.now c.index_mut-node_rings.ensures.value c.requests_waiting.ensures.rings

pub returns-clause-base : goal.returns-clause-base
returns-clause-base c =
    let ls = c.args.self.now.all_node_rings.items in let js = c.args.self.now.journaled.entries in let at =
    c.args.node - 1 in let l = c.requests_waiting.new.self in
    let some = c.requires.node.0 in let most = c.requires.node.1 in
    let follows = set_same ls js at l c.index_mut-node_rings.result.now c.args.self.now.linked
    (omega (arith, some, most)) c.index_mut-node_rings.ensures.value c.requests_waiting.ensures.rings
    c.requests_waiting.ensures.unmoved.0 c.requests_waiting.ensures.unmoved.1 in
    (refl, follows.bases)

pub returns-clause-count : goal.returns-clause-count
returns-clause-count c =
    let ls = c.args.self.now.all_node_rings.items in let at = c.args.node - 1 in let l = c.requests_waiting.new.self in
    let some = c.requires.node.0 in let most = c.requires.node.1 in
    c.requests_waiting.ensures.count ∙ ap (λ (ws : List Step). length ws) (sym (at_set knows ls at l at [] refl (omega (arith, some, most))))

pub returns-clause-known : goal.returns-clause-known
returns-clause-known c =
    let ls = c.args.self.now.all_node_rings.items in let js = c.args.self.now.journaled.entries in let at =
    c.args.node - 1 in let l = c.requests_waiting.new.self in
    let was = c.index_mut-node_rings.result.now in
    let some = c.requires.node.0 in let most = c.requires.node.1 in
    let follows = set_same ls js at l was c.args.self.now.linked
    (omega (arith, some, most)) c.index_mut-node_rings.ensures.value c.requests_waiting.ensures.rings
    c.requests_waiting.ensures.unmoved.0 c.requests_waiting.ensures.unmoved.1 in
    known_kept ls (set ls at l) js js c.args.self.now.linked follows.linked
    (rings_set ls at l was c.index_mut-node_rings.ensures.value c.requests_waiting.ensures.rings)
    (lasts_at ls at l was (omega (arith, some, most)) c.index_mut-node_rings.ensures.value c.requests_waiting.ensures.lasts)

pub returns-clause-others : goal.returns-clause-others
returns-clause-others c =
    let at = c.args.node - 1 in let some = c.requires.node.0 in
    others_last c.args.self.now.all_node_rings.items at c.args.node c.requests_waiting.new.self (omega (arith, some))
