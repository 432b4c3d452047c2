use Rattle.std.proofs.Common.{◌∙◌, length, ap, sym, subst, arith}
use Rattle.std.proofs.lemmas.List.{length-map}
use Rattle.vlm_words.specs.Steps.{node_of_pid}
use Rattle.vlm_script.specs.Shares.{IsListed}
use Rattle.vlm_script.specs.Steps.{IsPostable}
use Rattle.vlm_script.proofs.Lists.{bound_node, is_postable, length-with_step, sharing-with_step}
use Rattle.vlm_script.proofs.node_lists.Sharing.put_named.Goals as goal

-- the process is of one of the nodes
pub add_step-requires : goal.add_step-requires
add_step-requires c =
    let there = bound_node _ _ _ _ c.self.invariant.bound c.in_ok-pid.ensures in
    rw (c.from-node.ensures, c.process_node.ensures)
    (record { above = there.above; within = omega (arith, rw length-map at there.within, c.self.inside.lists.ok.0) })

-- the step is in the list of its node
pub invariant_of-self-2 : goal.invariant_of-self-2
invariant_of-self-2 c =
    let there = bound_node _ _ _ _ c.self.invariant.bound c.in_ok-pid.ensures in
    let listed = subst (IsListed (node_of_pid c.in_ok-pid.pid)) (sym c.of_process-step.ensures) (c.requires c.in_ok-pid.pid) in
    rw (c.in_ok-add_step.ensures.ok, c.from-node.ensures, c.process_node.ensures) (sharing-with_step _ _ _ _ _ c.self.invariant there listed)

-- there are as many lists
pub returns-clause-count : goal.returns-clause-count
returns-clause-count c =
    ap length c.in_ok-add_step.ensures.ok ∙ length-with_step _ _ _ ∙ ap (λ s. length s.lists) c.self.view_is

-- the step may be posted
pub returns-clause-postable : goal.returns-clause-postable
returns-clause-postable c =
    let there = bound_node _ _ _ _ c.self.invariant.bound c.in_ok-pid.ensures in
    let listed = subst (IsListed (node_of_pid c.in_ok-pid.pid)) (sym c.of_process-step.ensures) (c.requires c.in_ok-pid.pid) in
    subst (λ s. IsPostable (length s.lists) c.of_process-step.result) c.self.view_is (is_postable _ _ _ listed there)
