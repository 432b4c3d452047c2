use Rattle.std.proofs.Common.{ap, arith, map, refl}
use Rattle.vlm_words.specs.declared.steps.Step.{Step}
use Rattle.vlm_ports.specs.Posts.{on_behalf}
use Rattle.vlm_ports.proofs.Lasting.{lasts_more, prefix_map}
use Rattle.vlm_ports.proofs.node_rings.NodeRings.requests_waiting.Goals as goal

pub returns-clause-lasts : goal.returns-clause-lasts
returns-clause-lasts c =
    let f : Step → Step = λ step. on_behalf c.args.self.now.node step in
    lasts_more _ _ (ap (map f) c.slots.ensures.looked.1) (prefix_map f _ _ c.slots.ensures.looked.2) refl (omega arith)
