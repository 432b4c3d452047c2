use Rattle.std.proofs.Common.{length}
use Rattle.vlm_script.proofs.Progress.{Progress}
use Rattle.vlm_script.proofs.runs.run_lines.Given as goal

abbrev pub invariant-loop-line : goal.invariant-loop-line
invariant-loop-line g l =
    Progress l.input l.rest l.count (g.W.Write.contents l.initial.writer) (g.W.Write.contents l.writer) l.out.items l.session

abbrev pub decreases-loop-line : goal.decreases-loop-line
decreases-loop-line g l = length l.rest
