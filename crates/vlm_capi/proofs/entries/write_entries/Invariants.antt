use Rattle.std.proofs.Common.{◌≡◌, take, drop, map, length}
use Rattle.vlm_capi.specs.Entries.{entry_of}
use Rattle.vlm_capi.proofs.entries.write_entries.Given as goal

-- the entries before this one are written, and the elements from its place on are as they were
abbrev pub invariant-loop-at : goal.invariant-loop-at
invariant-loop-at l = (length l.out ≡ length l.fn.out)
    × (take l.at l.out ≡ map entry_of (take l.at l.entries)) × (drop l.at l.out ≡ drop l.at l.fn.out)
