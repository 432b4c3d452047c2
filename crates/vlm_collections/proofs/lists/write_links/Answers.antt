use Rattle.vlm_collections.proofs.Rings.{one_relinked}
use Rattle.vlm_collections.proofs.lists.write_links.Goals as goal

pub returns-clause-relinks : goal.returns-clause-relinks
returns-clause-relinks g c =
    one_relinked g.T.Linked.with_links g.T.Linked.links g.met.T.Linked.written_as_was c.args.nodes.now c.args.handle
    c.index_mut.result.now c.set_links.new.self c.args.pair
    c.requires c.index_mut.ensures.value c.set_links.ensures
