use Rattle.std.proofs.Common.{◌≡◌, ◌∙◌, length, true, ap, sym, subst}
use Rattle.vlm_script.specs.Shares.{has_node}
use Rattle.vlm_script.specs.Sharing.{IsOneOfNodes}
use Rattle.vlm_script.proofs.Lists.{is_node, is_postable, length-with_step, sharing-with_step}
use Rattle.vlm_script.proofs.node_lists.Sharing.put.Goals as goal

-- the step is in the list of its node
pub invariant_of-self-2 : goal.invariant_of-self-2
invariant_of-self-2 c =
    let as_many = ap (λ s. length s.lists) c.self.view_is in
    let is : has_node (length c.args.self.now.lists) c.args.node ≡ true = sym c.has_node.ensures ∙ c.if-not-has_node.false in
    let there = subst (λ nodes. IsOneOfNodes nodes c.args.node) (sym as_many) (is_node _ _ is) in
    rw (c.in_ok-add_step.ensures.ok, c.from.ensures) (sharing-with_step _ _ _ _ _ c.self.invariant there c.requires)

-- there are as many lists
pub returns-clause-count : goal.returns-clause-count
returns-clause-count c =
    ap length c.in_ok-add_step.ensures.ok ∙ length-with_step _ _ _ ∙ ap (λ s. length s.lists) c.self.view_is

-- the step may be posted
pub returns-clause-postable : goal.returns-clause-postable
returns-clause-postable c =
    is_postable _ _ _ c.requires (is_node _ _ (sym c.has_node.ensures ∙ c.if-not-has_node.false))
