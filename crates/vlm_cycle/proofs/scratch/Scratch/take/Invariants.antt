use Rattle.std.proofs.Common.{◌≡◌, ◌<◌, ◌≤◌, ◌/◌, ℕ, false}
use Rattle.vlm_records.specs.NodeMarks.{is_marked}
use Rattle.vlm_cycle.proofs.scratch.Scratch.take.Given as goal

-- the search has to go to no process of the nodes before this one
abbrev pub invariant-loop-node : goal.invariant-loop-node
invariant-loop-node l = (l.self ≡ l.initial.self) × ((pid : ℕ) → 1 ≤ pid / 65536 → pid / 65536 < l.node → is_marked l.self.todo pid ≡ false)
