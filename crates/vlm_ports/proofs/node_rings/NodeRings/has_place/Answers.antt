use Rattle.std.proofs.Common.{refl}
use Rattle.vlm_ports.proofs.Lasting.{lasts_free}
use Rattle.vlm_ports.proofs.node_rings.NodeRings.has_place.Goals as goal

pub returns-clause-lasts : goal.returns-clause-lasts
returns-clause-lasts c = lasts_free _ _ refl refl c.is_full.ensures.looked.1 c.is_full.ensures.looked.2
