use Rattle.std.proofs.Common.{None}
use Rattle.vlm_collections.proofs.IndexParts.{part_written, spares_kept}
use Rattle.vlm_collections.proofs.parted.PartedIndex.remove.Goals as goal

pub returns-clause-writes : goal.returns-clause-writes
returns-clause-writes g c =
    rw (← c.self.view_is)
    (part_written c.self.inside.parts c.args.number c.index-self-number.result c.self.invariant c.remove.new.self None c.remove.ensures.writes)

pub returns-clause-room : goal.returns-clause-room
returns-clause-room g c =
    rw (← c.self.view_is)
    (spares_kept c.self.inside.parts c.args.number c.index-self-number.result c.self.invariant c.remove.new.self c.remove.ensures.room)
