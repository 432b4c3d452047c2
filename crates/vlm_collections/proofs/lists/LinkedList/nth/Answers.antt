use Rattle.std.proofs.Common.{◌≡◌, sym, ap, ◌∙◌, slice_get, arith}
use native.Mathlib.Numerals.{unary_clauses}
use Rattle.vlm_collections.specs.Lists.{handles_of}
use Rattle.vlm_collections.proofs.Walks.{first_handle-index, handle_after-index, handle_index-in, handle_index-past}
use Rattle.vlm_collections.proofs.lists.LinkedList.nth.Goals as goal

pub loop-init : goal.loop-init
loop-init g c = c.first-at.ensures ∙ first_handle-index (handles_of g.T.Linked.links c.args.nodes.now c.args.self.now)

pub returns-in_default : goal.returns-in_default
returns-in_default g c =
    sym (handle_index-past c.loop.counter c.args.index (handles_of g.T.Linked.links c.args.nodes.now c.args.self.now)
    (sym c.loop.invariant ∙ c.in_default.is) c.loop.auto.counter-end)

pub next-at-requires : goal.next-at-requires
next-at-requires g c = record {
  linked = c.requires;
  listed = handle_index-in c.loop.counter (handles_of g.T.Linked.links c.args.nodes.now c.args.self.now) c.in-Some.handle (sym c.loop.invariant ∙ c.in-Some.is);
}

pub loop-preserved : goal.loop-preserved
loop-preserved g c =
    c.next-at.ensures
    ∙ simp unary_clauses (handle_after-index c.loop.counter
    (handles_of g.T.Linked.links c.args.nodes.now c.args.self.now) c.in-Some.handle c.requires.apart
    (sym c.loop.invariant ∙ c.in-Some.is))

pub returns : goal.returns
returns g c =
    let at_end : c.loop.counter ≡ c.args.index = omega (arith, c.loop.auto.counter-end, c.loop-test.false) in
    c.loop.invariant ∙ ap (slice_get (handles_of g.T.Linked.links c.args.nodes.now c.args.self.now)) at_end
