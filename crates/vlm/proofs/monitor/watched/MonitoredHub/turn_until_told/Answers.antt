use Rattle.std.proofs.Common.{refl, ◌∙◌}
use Rattle.vlm.proofs.Going.{grown_then, written}
use Rattle.vlm.proofs.monitor.watched.MonitoredHub.turn_until_told.Goals as goal

pub loop-init : goal.loop-init
loop-init c = (refl, written c.args.self.now.hub c.args.self.now.hub (refl, refl))

pub loop-preserved : goal.loop-preserved
loop-preserved c = (
  c.turn.ensures.standing
      ∙ c.loop.invariant.0,
  grown_then c.args.self.now.hub c.loop.self.hub c.turn.new.self.hub c.loop.invariant.1 c.turn.ensures.grown,
)

pub returns-in_err-came-clause-grown : goal.returns-in_err-came-clause-grown
returns-in_err-came-clause-grown c = grown_then c.args.self.now.hub c.loop.self.hub c.turn.new.self.hub c.loop.invariant.1 c.turn.ensures.grown

pub returns-then-ne-clause-grown : goal.returns-then-ne-clause-grown
returns-then-ne-clause-grown c = grown_then c.args.self.now.hub c.loop.self.hub c.turn.new.self.hub c.loop.invariant.1 c.turn.ensures.grown
