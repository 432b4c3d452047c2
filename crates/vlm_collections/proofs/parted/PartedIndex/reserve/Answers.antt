use Rattle.std.proofs.Common.{ap, arith, nat_eq}
use Rattle.std.specs.Map.{lookup}
use Rattle.std.proofs.lemmas.Result.{on_ok_weaker}
use Rattle.vlm_collections.proofs.IndexParts.{same_written, spare_here, spare_written, spares_kept}
use Rattle.vlm_collections.proofs.parted.PartedIndex.reserve.Goals as goal

pub returns-clause-same : goal.returns-clause-same
returns-clause-same g c =
    rw (← c.self.view_is)
    (same_written c.self.inside.parts c.args.number c.index-self-number.result c.self.invariant c.reserve.new.self
    (λ other. ap (lookup (nat_eq other)) c.reserve.ensures.entries))

pub returns-clause-room : goal.returns-clause-room
returns-clause-room g c =
    rw (← c.self.view_is)
    (spares_kept c.self.inside.parts c.args.number c.index-self-number.result c.self.invariant c.reserve.new.self c.reserve.ensures.room)

pub returns-clause-find : goal.returns-clause-find
returns-clause-find g c =
    let spare = spare_written c.self.inside.parts c.args.number c.index-self-number.result c.self.invariant c.reserve.new.self in
    on_ok_weaker c.reserve.result (λ room. omega (arith, spare, room)) c.reserve.ensures.ok

pub returns-clause-succeeds : goal.returns-clause-succeeds
returns-clause-succeeds g c room =
    let spare = spare_here c.self.inside.parts c.args.number c.index-self-number.result c.self.invariant in
    let some = rw (← c.self.view_is) at room in
    c.reserve.ensures.succeeds (omega (arith, spare, some))
