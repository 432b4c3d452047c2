use Rattle.std.proofs.Common.{arith}
use Rattle.vlm_core.proofs.LongerRuns.{makes-none, makes-more}
use Rattle.vlm_core.proofs.runs.run_steps.Goals as goal

pub loop-done-init : goal.loop-done-init
loop-done-init c = makes-none c.args.core.now c.args.answers.now.items

-- one more step is made
pub loop-done-preserved : goal.loop-done-preserved
loop-done-preserved c =
    let made = makes-more c.args.core.now c.loop-done.core c.step-answer.new.self c.args.steps.now c.loop-done.done
    c.index-steps-done.result c.args.answers.now.items c.loop-done.answers.items c.step-answer.result
    c.loop-done.invariant (omega arith) c.index-steps-done.is c.step-answer.ensures in
    rw (c.push_reserved.ensures.items, c.reserve.ensures.items) made
