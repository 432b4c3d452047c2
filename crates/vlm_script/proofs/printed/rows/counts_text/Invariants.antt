use Rattle.std.proofs.Common.{◌≡◌, ◌++◌, drop}
use Rattle.vlm_script.specs.Texts.{counts_text}
use Rattle.vlm_script.proofs.printed.rows.counts_text.Given as goal

-- what is printed so far and what is left give all counts
abbrev pub invariant-loop-count : goal.invariant-loop-count
invariant-loop-count l = l.out.items ++ counts_text (drop l.count-index l.counts) ≡ l.initial.out.items ++ counts_text l.counts
