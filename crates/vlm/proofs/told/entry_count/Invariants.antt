use Rattle.std.proofs.Common.{◌≡◌, ◌+◌, drop, length}
use Rattle.vlm_cluster.specs.Parts.{entries_in}
use Rattle.vlm.proofs.told.entry_count.Given as goal

-- what is counted so far and what is left give all parts
abbrev pub invariant-loop-part : goal.invariant-loop-part
invariant-loop-part l =
    l.count + length (entries_in (drop l.part-index l.fn.report.parts.items)) ≡ l.initial.count + length
    (entries_in l.fn.report.parts.items)
