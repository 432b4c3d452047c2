use Rattle.std.proofs.Common.{◌≡◌, take}
use Rattle.vlm_ports.proofs.watch.rows.Change.is_same.Given as goal

abbrev pub invariant-loop-at : goal.invariant-loop-at
invariant-loop-at l = take l.at l.fn.self.rows ≡ take l.at l.fn.other.rows
