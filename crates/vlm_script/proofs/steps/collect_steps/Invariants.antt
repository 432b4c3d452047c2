use Rattle.std.proofs.Common.{◌≡◌, ◌+◌, ◌≤◌, All, length}
use Rattle.vlm_lines.specs.Lines.{lines_of}
use Rattle.vlm_script.specs.Shares.{ListsStay}
use Rattle.vlm_script.specs.Steps.{IsPostable, in_front, steps_out}
use Rattle.vlm_script.proofs.steps.collect_steps.Given as goal

-- the steps so far, before the steps of the lines that are left, are the steps of all lines
abbrev pub invariant-loop-line : goal.invariant-loop-line
invariant-loop-line l = record {
  left : in_front l.steps.items
      (steps_out (length l.initial.sharing.lists) l.sharing l.count (lines_of l.rest)) ≡ steps_out
      (length l.initial.sharing.lists) l.initial.sharing 0 (lines_of l.input);
  postable : All (λ s. IsPostable (length l.initial.sharing.lists) s.step) l.steps.items;
  lists : ListsStay l.initial.sharing l.sharing;
  short : l.count + length l.rest ≤ length l.input;
}

abbrev pub decreases-loop-line : goal.decreases-loop-line
decreases-loop-line l = length l.rest
