use Rattle.std.proofs.Common.{ap, nat_eq}
use Rattle.std.specs.Map.{lookup}
use Rattle.vlm_collections.proofs.IndexParts.{same_written, spares_kept}
use Rattle.vlm_collections.proofs.parted.PartedIndex.grow_early.Goals as goal

pub returns-then-len-ge-LARGE-clause-same : goal.returns-then-len-ge-LARGE-clause-same
returns-then-len-ge-LARGE-clause-same g c =
    rw (← c.self.view_is)
    (same_written c.self.inside.parts c.args.number c.index-self-number-then-len-ge-LARGE.result c.self.invariant
    c.reserve.new.self (λ other. ap (lookup (nat_eq other)) c.reserve.ensures.entries))

pub returns-then-len-ge-LARGE-clause-room : goal.returns-then-len-ge-LARGE-clause-room
returns-then-len-ge-LARGE-clause-room g c =
    rw (← c.self.view_is)
    (spares_kept c.self.inside.parts c.args.number c.index-self-number-then-len-ge-LARGE.result c.self.invariant c.reserve.new.self c.reserve.ensures.room)
