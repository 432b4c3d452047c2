use Rattle.std.proofs.Common.{◌≡◌, ◌∙◌, map, length, true, None, refl, ap, sym, subst}
use Rattle.vlm_words.specs.Steps.{node_of_pid}
use Rattle.vlm_words.specs.declared.steps.Step.TheVariants.{Declare as declare_step}
use Rattle.vlm_lines.specs.declared.lines.Line.TheVariants.{Declare}
use Rattle.vlm_script.specs.Bindings.{bindings_of}
use Rattle.vlm_script.specs.Scripts.{Binding, bound_to}
use Rattle.vlm_script.specs.Shares.{Shares, can_declare, declared_by}
use Rattle.vlm_script.specs.Sharing.{IsShared}
use Rattle.vlm_script.proofs.Lists.{is_declarable, is_none, is_postable, length-with_step, node_of_next, shares-declared, sharing-declared}
use Rattle.vlm_script.proofs.node_lists.Sharing.declare.Goals as goal

-- what was shared before
old_shares : goal.After-bind_reserved → Shares
old_shares c = record {
  names = bindings_of c.self.inside.names;
  declared = c.self.inside.declared.items;
  lists = map (λ v. v.items) c.self.inside.lists.items;
}

-- the node may have one more declare line
may_declare : (c : goal.After-bind_reserved) → can_declare (length (old_shares c).lists) (old_shares c) c.args.declaration.node ≡ true
unfolding old_shares
may_declare c =
    subst (λ s. can_declare (length s.lists) s c.args.declaration.node ≡ true) (sym c.self.view_is)
    (sym c.can_declare.ensures ∙ c.if-not-can_declare.false)

-- the name is bound to a process of the node, and the step is in the node's list
pub invariant_of-self-2 : goal.invariant_of-self-2
unfolding old_shares
invariant_of-self-2 c =
    let node = c.args.declaration.node in
    let may = is_declarable (length (old_shares c).lists) (old_shares c) node (may_declare c) in
    let b : Binding = record { name = c.args.name; pid = c.next_process-pid.result } in
    let of_node : node_of_pid b.pid ≡ node = ap node_of_pid c.next_process-pid.ensures.pid ∙ node_of_next node (declared_by (old_shares c) node) may.1 in
    rw (c.bind_reserved.ensures, c.in_ok-reserve.ensures.entries, c.next_process-pid.ensures.counted, c.in_ok-add_step.ensures.ok, c.from.ensures)
    (sharing-declared _ _ _ node (declare_step c.args.declaration) b _ c.self.invariant may.0 (record { of_node = refl; untaken = refl }) of_node)

-- the line has no fault, and this is its share
pub returns-clause-shared : goal.returns-clause-shared
unfolding old_shares
returns-clause-shared c =
    let old = old_shares c in
    let new : Shares = record {
      names = bindings_of c.bind_reserved.new.names;
      declared = c.next_process-pid.new.declared.items;
      lists = map (λ v. v.items) c.add_step.new.lists.items;
    } in
    let unbound : bound_to old.names c.args.name ≡ None = is_none _ (sym c.is_bound.ensures ∙ c.if-is_bound.false) in
    let bound = rw c.in_ok-reserve.ensures.entries at c.bind_reserved.ensures in
    let put = rw c.from.ensures at c.in_ok-add_step.ensures.ok in
    subst (λ s. IsShared s (Declare c.args.name c.args.declaration) new) c.self.view_is (record {
      faultless = rw (may_declare c, unbound) refl;
      becomes =
          shares-declared old c.args.name c.args.declaration _ _ _ c.next_process-pid.result bound
          c.next_process-pid.ensures.pid c.next_process-pid.ensures.counted put;
    })

-- there are as many lists
pub returns-clause-count : goal.returns-clause-count
returns-clause-count c =
    ap length c.in_ok-add_step.ensures.ok ∙ length-with_step _ _ _ ∙ ap (λ s. length s.lists) c.self.view_is

-- the step may be posted
pub returns-clause-postable : goal.returns-clause-postable
returns-clause-postable c =
    let may = is_declarable _ c.args.self.now _ (sym c.can_declare.ensures ∙ c.if-not-can_declare.false) in
    is_postable _ _ _ (record { of_node = refl; untaken = refl }) may.0
