use Rattle.std.proofs.Common.{◌∙◌, refl, arith}
use Rattle.vlm_lines.specs.Lines.{lines_of}
use Rattle.vlm_script.proofs.Collected.{all-collected, collected-more, postable-more, stops-at}
use Rattle.vlm_script.proofs.steps.collect_steps.Goals as goal

-- one line more is shared, and its step collected
pub loop-line-preserved : goal.loop-line-preserved
loop-line-preserved c =
    let before = c.loop-line.invariant in
    let shared = rw before.lists at c.in_default-collect_step.ensures.shared in
    let postable = rw before.lists at c.in_default-collect_step.ensures.postable in
    record {
      left =
          rw c.in_default-collect_step.ensures.collected
          (collected-more _ _ c.loop-line.count _ (lines_of c.in-Some.after.now) c.loop-line.steps.items _ shared ∙ (rw c.in-Some.ensures.some at before.left));
      postable = rw c.in_default-collect_step.ensures.collected (postable-more _ _ _ _ before.postable postable);
      lists = c.in_default-collect_step.ensures.count ∙ before.lists;
      short = omega (arith, c.in-Some.ensures.shorter, before.short);
    }

-- the line's fault ends the sharing
pub returns-in-Err-clause-steps : goal.returns-in-Err-clause-steps
returns-in-Err-clause-steps c =
    let left = rw c.in-Some.ensures.some at c.loop-line.invariant.left in
    let stopped = stops-at _ _ c.loop-line.count _
    (lines_of c.in-Some.after.now) c.loop-line.steps.items c.in-Err.stop c.loop-line.invariant.lists
    c.in-Err.ensures.shared in
    rw c.at.ensures (rw left at stopped)

-- no line is left
pub returns-clause-steps : goal.returns-clause-steps
returns-clause-steps c =
    all-collected c.loop-line.steps.items _ (rw (c.in_default.ensures.none.0 refl) at c.loop-line.invariant.left)
