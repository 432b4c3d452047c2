use Rattle.std.proofs.Common.{refl}
use Rattle.vlm_ports.proofs.Lasting.{lasts_sent}
use Rattle.vlm_ports.proofs.node_rings.NodeRings.tell.Goals as goal

pub returns-clause-lasts : goal.returns-clause-lasts
returns-clause-lasts c = lasts_sent _ _ c.args.item refl refl c.push_reserved.ensures.sent.0 c.push_reserved.ensures.sent.1
