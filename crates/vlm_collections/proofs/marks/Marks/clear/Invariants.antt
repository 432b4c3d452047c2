use Rattle.std.proofs.Common.{◌≡◌, length}
use Rattle.vlm_collections.proofs.Cleared.{marked}
use Rattle.vlm_collections.proofs.marks.Marks.clear.Given as goal

-- the room stays
abbrev pub invariant-loop-number : goal.invariant-loop-number
invariant-loop-number l = length l.self ≡ length l.initial.self

-- each turn takes a mark away
abbrev pub decreases-loop-number : goal.decreases-loop-number
decreases-loop-number l = marked l.self
