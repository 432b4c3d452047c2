use Rattle.std.proofs.Common.{ap, arith, map, ◌∙◌}
use Rattle.vlm_words.specs.declared.steps.Step.{Step}
use Rattle.vlm_journal.proofs.Lists.{prefix_then}
use Rattle.vlm_ports.specs.Posts.{on_behalf}
use Rattle.vlm_ports.proofs.Lasting.{lasts_more, prefix_map}
use Rattle.vlm_ports.proofs.node_rings.NodeRings.settle.Goals as goal

pub returns-clause-lasts : goal.returns-clause-lasts
returns-clause-lasts c =
    let f : Step → Step = λ step. on_behalf c.args.self.now.node step in
    let looked = c.slots_beside-places.ensures.consumer in let seen = c.slots_beside-steps.ensures.looked in
    let free = c.slots_beside-free.ensures.looked in let beside = c.slots_beside-items.ensures.producer in
    lasts_more _ _ (ap (map f) (seen.1 ∙ looked.1)) (prefix_map f _ _ (prefix_then _ _ _ looked.2 seen.2)) (beside.1 ∙ free.1)
    (let m = free.2 in let n = beside.2 in omega (arith, m, n))
