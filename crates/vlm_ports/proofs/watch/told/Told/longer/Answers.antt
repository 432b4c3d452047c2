use Rattle.std.proofs.Common.{List, ap, subst, arith}
use mathlib.Core.List.{IsPrefix}
use Rattle.vlm_ports.specs.declared.watch.rows.Change.{Change}
use Rattle.vlm_ports.proofs.Beginnings.{shorter_begins}
use Rattle.vlm_ports.proofs.watch.told.Told.longer.Goals as goal

pub returns-then-self-other-clause-this : goal.returns-then-self-other-clause-this
returns-then-self-other-clause-this c =
    let all = c.learn.new.self.log in
    let mine : IsPrefix c.args.self.history.log all = subst (λ (l : List Change). IsPrefix l all) (ap (λ s. s.log) c.again-reached.ensures) c.learn.ensures.2 in
    shorter_begins c.args.self.history.log c.args.other.history.log all mine c.learn.ensures.3
    (omega (arith, c.args.self.counted, c.args.other.counted, c.if-self-other.true))

pub returns-else-self-other-clause-that : goal.returns-else-self-other-clause-that
returns-else-self-other-clause-that c =
    let all = c.learn.new.self.log in
    let mine : IsPrefix c.args.self.history.log all = subst (λ (l : List Change). IsPrefix l all) (ap (λ s. s.log) c.again-reached.ensures) c.learn.ensures.2 in
    shorter_begins c.args.other.history.log c.args.self.history.log all c.learn.ensures.3 mine
    (omega (arith, c.args.self.counted, c.args.other.counted, c.if-self-other.false))
