use Rattle.std.proofs.Common.{◌∙◌, ◌<◌, ap, subst, false, [], length, replicate, arith}
use Rattle.std.specs.Prelude.{Bool, List}
use Rattle.std.proofs.lemmas.List.{get_or_default}
use Rattle.vlm_records.proofs.NodesCleared.{AreCleared, all_cleared, none_cleared, one_cleared, room_cleared}
use Rattle.vlm_records.proofs.node_marks.NodeMarks.clear.Goals as goal

pub loop-place-init : goal.loop-place-init
loop-place-init c = none_cleared c.self.inside.nodes

pub invariant_of-self : goal.invariant_of-self
invariant_of-self c = c.loop-place.invariant.many ∙ c.self.invariant

pub loop-place-preserved : goal.loop-place-preserved
loop-place-preserved c =
    let nodes = c.loop-place.self-inside.nodes in
    let within : c.loop-place.place < length nodes = omega (arith, c.loop-place.invariant.many, c.self.invariant, c.loop-place-test.true) in
    let here = get_or_default nodes c.loop-place.place c.index-self-place.result [] within in
    one_cleared c.loop-place.place c.self.inside.nodes nodes within _ (c.clear.ensures
    ∙ ap (λ (m : List Bool). replicate (length m) false) here) c.loop-place.invariant

pub returns-clause-none : goal.returns-clause-none
returns-clause-none c =
    all_cleared c.self.inside.nodes c.loop-place.self-inside.nodes
    (subst (λ k. AreCleared k c.self.inside.nodes c.loop-place.self-inside.nodes)
    (omega (arith, c.loop-place-test.false, c.loop-place.auto.place-end)) c.loop-place.invariant)

pub returns-clause-room : goal.returns-clause-room
returns-clause-room c pid room =
    room_cleared c.self.inside.nodes c.loop-place.self-inside.nodes
    (subst (λ k. AreCleared k c.self.inside.nodes c.loop-place.self-inside.nodes)
    (omega (arith, c.loop-place-test.false, c.loop-place.auto.place-end)) c.loop-place.invariant)
    pid (rw (← c.self.view_is) at room)
