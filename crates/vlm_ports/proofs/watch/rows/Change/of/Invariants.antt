use Rattle.std.proofs.Common.{◌≡◌, length, map, take}
use Rattle.vlm_ports.specs.Rows.{row_of}
use Rattle.vlm_ports.proofs.watch.rows.Change.of.Given as goal

abbrev pub invariant-loop-at : goal.invariant-loop-at
invariant-loop-at l = (length l.rows ≡ 16) × (take l.at l.rows ≡ map (row_of l.fn.journaled) (take l.at l.fn.keys))
