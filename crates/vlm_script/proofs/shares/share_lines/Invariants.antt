use Rattle.std.proofs.Common.{◌≡◌, ◌+◌, ◌≤◌, length}
use Rattle.vlm_lines.specs.Lines.{lines_of}
use Rattle.vlm_script.specs.Shares.{ListsStay, shared_out}
use Rattle.vlm_script.proofs.shares.share_lines.Given as goal

-- what is shared so far, and the lines that are left, give what all lines give
abbrev pub invariant-loop-line : goal.invariant-loop-line
invariant-loop-line l = record {
  left : shared_out (length l.initial.sharing.lists) l.sharing l.count (lines_of l.rest) ≡ shared_out
      (length l.initial.sharing.lists) l.initial.sharing 0 (lines_of l.input);
  lists : ListsStay l.initial.sharing l.sharing;
  short : l.count + length l.rest ≤ length l.input;
}

abbrev pub decreases-loop-line : goal.decreases-loop-line
decreases-loop-line l = length l.rest
