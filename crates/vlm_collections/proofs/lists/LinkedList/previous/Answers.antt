use Rattle.std.proofs.Common.{◌∙◌, sym}
use Rattle.slab.specs.Slab.{get}
use Rattle.vlm_collections.proofs.Rings.{before_is, told_prev}
use Rattle.vlm_collections.proofs.lists.LinkedList.previous.Goals as goal

pub returns : goal.returns
returns g c =
    c.handle.ensures
    ∙ sym (told_prev g.T.Linked.links (get c.args.nodes.now c.args.handle) c.index.result.now c.links.result c.index.ensures c.links.ensures)
    ∙ before_is g.T.Linked.links c.args.nodes.now c.args.self.now c.requires.linked c.args.handle c.requires.listed
