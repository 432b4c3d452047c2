use Rattle.std.proofs.Common.{refl, ◌+◌, ◌≡◌, ◌<◌, sym, ◌∙◌, arith}
use Rattle.vlm_ports.specs.Hubs.{journal, nodes, state}
use Rattle.vlm_ports.proofs.Asking.{asked_each, asked_first, asked_more}
use Rattle.vlm_ports.proofs.Delivering.{delivered_each, delivered_first, delivered_on}
use Rattle.vlm_ports.proofs.Resting.{grew_add, grew_none, may_idle, rest_more, within_rings}
use Rattle.vlm_ports.proofs.Lasting.{known_kept, all_node_rings_still, all_node_rings_then}
use Rattle.vlm_ports.proofs.hub.Hub.turn.Goals as goal

pub attend-attended-requires : goal.attend-attended-requires
attend-attended-requires c =
    let lt : c.loop-at.at < nodes c.args.self.now = omega arith in
    within_rings c.loop-at.self c.args.self.now c.loop-at.at c.loop-at.invariant.rings lt

pub loop-at-preserved : goal.loop-at-preserved
loop-at-preserved c = record {
  rings = c.attend-attended.ensures.rings ∙ c.loop-at.invariant.rings;
  base = c.attend-attended.ensures.base.0 ∙ c.loop-at.invariant.base;
  board = c.attend-attended.ensures.board ∙ c.loop-at.invariant.board;
  bases = c.attend-attended.ensures.base.1 ∙ c.loop-at.invariant.bases;
  grew = grew_add c.loop-at.invariant.grew c.attend-attended.ensures.grew;
  once = asked_more c.loop-at.at (journal c.args.self.now) (journal c.loop-at.self)
      (journal c.attend-attended.new.self) c.loop-at.invariant.once c.attend-attended.ensures.once;
  delivers = delivered_on c.loop-at.at (journal c.args.self.now) (journal c.loop-at.self)
      (journal c.attend-attended.new.self) c.loop-at.invariant.delivers c.attend-attended.ensures.delivers;
  known = all_node_rings_then c.args.self.now.all_node_rings.items c.loop-at.self.all_node_rings.items
      c.attend-attended.new.self.all_node_rings.items c.loop-at.invariant.known c.attend-attended.ensures.known;
  most = let most = c.attend-attended.ensures.most in let was = c.loop-at.invariant.most in omega arith;
  idle = λ none.
      let before : c.loop-at.made ≡ 0 = omega arith in
      let now : c.attend-attended.result.made ≡ 0 = omega arith in
      let here = c.attend-attended.ensures.idle now c.if-attended.false in
      rest_more c.loop-at.at c.loop-at.self c.attend-attended.new.self here.0 (c.loop-at.invariant.idle before) here.1;
}

pub returns-then-made-eq0-clause-idle : goal.returns-then-made-eq0-clause-idle
returns-then-made-eq0-clause-idle c = λ idle.
    may_idle c.loop-at.self c.loop-at.self.linked
    (λ k lt. let below : k < nodes c.args.self.now = within_rings c.args.self.now c.loop-at.self k (sym c.loop-at.invariant.rings) lt in
    c.loop-at.invariant.idle c.if-made-eq0.true k (omega arith))

pub returns-then-attended-clause-once : goal.returns-then-attended-clause-once
returns-then-attended-clause-once c =
    let asks = asked_more c.loop-at.at (journal c.args.self.now) (journal c.loop-at.self)
    (journal c.attend-attended.new.self) c.loop-at.invariant.once c.attend-attended.ensures.once in
    asked_each (c.loop-at.at + 1) (journal c.args.self.now) (journal c.attend-attended.new.self) asks

pub returns-else-made-eq0-clause-once : goal.returns-else-made-eq0-clause-once
returns-else-made-eq0-clause-once c = asked_each c.loop-at.at (journal c.args.self.now) (journal c.loop-at.self) c.loop-at.invariant.once

pub returns-then-attended-clause-delivers : goal.returns-then-attended-clause-delivers
returns-then-attended-clause-delivers c =
    delivered_each (c.loop-at.at + 1) (journal c.args.self.now) (journal c.attend-attended.new.self)
    (delivered_on c.loop-at.at (journal c.args.self.now) (journal c.loop-at.self)
    (journal c.attend-attended.new.self) c.loop-at.invariant.delivers c.attend-attended.ensures.delivers)

pub returns-then-made-eq0-clause-delivers : goal.returns-then-made-eq0-clause-delivers
returns-then-made-eq0-clause-delivers c = delivered_each c.loop-at.at (journal c.args.self.now) (journal c.loop-at.self) c.loop-at.invariant.delivers

pub returns-else-made-eq0-clause-delivers : goal.returns-else-made-eq0-clause-delivers
returns-else-made-eq0-clause-delivers c = delivered_each c.loop-at.at (journal c.args.self.now) (journal c.loop-at.self) c.loop-at.invariant.delivers

pub loop-at-init : goal.loop-at-init
loop-at-init c = record {
  rings = refl;
  base = refl;
  board = refl;
  bases = refl;
  grew = grew_none (journal c.args.self.now) (journal c.args.self.now) (state c.args.self.now) (state c.args.self.now) refl refl;
  once = asked_first (journal c.args.self.now);
  delivers = delivered_first (journal c.args.self.now);
  known = all_node_rings_still c.args.self.now.all_node_rings.items;
  most = omega arith;
  idle = λ none k below. absurd (omega (arith, below));
}

pub returns-then-attended-clause-made : goal.returns-then-attended-clause-made
returns-then-attended-clause-made c = grew_add c.loop-at.invariant.grew c.attend-attended.ensures.grew

pub returns-then-attended-clause-known : goal.returns-then-attended-clause-known
returns-then-attended-clause-known c =
    known_kept c.args.self.now.all_node_rings.items c.attend-attended.new.self.all_node_rings.items
    (journal c.args.self.now)
    (journal c.attend-attended.new.self) c.args.self.now.linked c.attend-attended.new.self.linked
    (c.attend-attended.ensures.rings
    ∙ c.loop-at.invariant.rings)
    (all_node_rings_then c.args.self.now.all_node_rings.items c.loop-at.self.all_node_rings.items
    c.attend-attended.new.self.all_node_rings.items c.loop-at.invariant.known c.attend-attended.ensures.known)

pub returns-then-made-eq0-clause-known : goal.returns-then-made-eq0-clause-known
returns-then-made-eq0-clause-known c =
    known_kept c.args.self.now.all_node_rings.items c.loop-at.self.all_node_rings.items (journal c.args.self.now)
    (journal c.loop-at.self) c.args.self.now.linked c.loop-at.self.linked c.loop-at.invariant.rings
    c.loop-at.invariant.known

pub returns-else-made-eq0-clause-known : goal.returns-else-made-eq0-clause-known
returns-else-made-eq0-clause-known c =
    known_kept c.args.self.now.all_node_rings.items c.loop-at.self.all_node_rings.items (journal c.args.self.now)
    (journal c.loop-at.self) c.args.self.now.linked c.loop-at.self.linked c.loop-at.invariant.rings
    c.loop-at.invariant.known
