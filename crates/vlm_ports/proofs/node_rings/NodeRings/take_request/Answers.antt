use Rattle.std.proofs.Common.{refl}
use Rattle.vlm_words.specs.declared.steps.Step.{Step}
use Rattle.vlm_ports.specs.Posts.{on_behalf}
use Rattle.vlm_ports.proofs.Lasting.{lasts_taken, mapped_one, taken_first}
use Rattle.vlm_ports.proofs.node_rings.NodeRings.take_request.Goals as goal

pub returns-clause-taken : goal.returns-clause-taken
returns-clause-taken c step first =
    let f : Step → Step = λ step. on_behalf c.args.self.now.node step in
    taken_first f _ _ _ _ c.pop_known-taken.result c.pop_known-taken.ensures.received.0 c.pop_known-taken.ensures.received.1 step first

pub returns-clause-lasts : goal.returns-clause-lasts
returns-clause-lasts c =
    let f : Step → Step = λ step. on_behalf c.args.self.now.node step in
    lasts_taken _ _ (mapped_one f _ _ _ _ c.pop_known-taken.result c.pop_known-taken.ensures.received.0 c.pop_known-taken.ensures.received.1) refl refl
