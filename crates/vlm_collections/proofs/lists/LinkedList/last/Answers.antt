use Rattle.std.proofs.Common.{◌∙◌}
use Rattle.vlm_collections.proofs.Rings.{last_is}
use Rattle.vlm_collections.proofs.lists.LinkedList.last.Goals as goal

pub returns : goal.returns
returns g c = c.handle.ensures ∙ last_is g.T.Linked.links c.args.nodes.now c.args.self.now c.requires
