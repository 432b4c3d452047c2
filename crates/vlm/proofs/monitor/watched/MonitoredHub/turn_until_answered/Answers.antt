use Rattle.std.proofs.Common.{refl, ◌∙◌}
use Rattle.vlm.proofs.Going.{grown_then, written}
use Rattle.vlm.proofs.monitor.watched.MonitoredHub.turn_until_answered.Goals as goal

pub loop-init : goal.loop-init
loop-init c = (refl, written c.args.self.now.hub c.args.self.now.hub (refl, refl))

pub loop-preserved : goal.loop-preserved
loop-preserved c = (
  c.turn_until_told.ensures.standing
      ∙ c.loop.invariant.0,
  grown_then c.args.self.now.hub c.loop.self.hub c.turn_until_told.new.self.hub c.loop.invariant.1
      c.turn_until_told.ensures.grown,
)

pub returns-in_err-turn_until_told-clause-grown : goal.returns-in_err-turn_until_told-clause-grown
returns-in_err-turn_until_told-clause-grown c =
    grown_then c.args.self.now.hub c.loop.self.hub c.turn_until_told.new.self.hub c.loop.invariant.1
    c.turn_until_told.ensures.grown

pub returns-then-eq-clause-grown : goal.returns-then-eq-clause-grown
returns-then-eq-clause-grown c =
    grown_then c.args.self.now.hub c.loop.self.hub c.turn_until_told.new.self.hub c.loop.invariant.1
    c.turn_until_told.ensures.grown
