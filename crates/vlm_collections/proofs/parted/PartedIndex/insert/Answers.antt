use Rattle.std.proofs.Common.{◌∙◌, Some, is_none, arith, ap, nat_eq, sym}
use Rattle.std.specs.Map.{lookup}
use Rattle.std.proofs.lemmas.Bool.{OnFalse_at, OnFalse_from, OnTrue_at, OnTrue_from}
use Rattle.std.proofs.lemmas.Result.{IfOk-weaker, on_err_weaker}
use Rattle.vlm_collections.proofs.IndexParts.{found_here, part_written, same_written, spare_here, spare_used, spares_kept}
use Rattle.vlm_collections.proofs.parted.PartedIndex.insert.Goals as goal

pub returns-clause-is_new : goal.returns-clause-is_new
returns-clause-is_new g c =
    rw (← c.self.view_is)
    (IfOk-weaker c.insert.result _ _ (λ new is.
    is ∙ ap is_none (sym (found_here c.self.inside.parts c.args.number c.index-self-number.result c.self.invariant))) c.insert.ensures.is_new)

pub returns-clause-writes : goal.returns-clause-writes
returns-clause-writes g c =
    rw (← c.self.view_is, ← c.raw.ensures)
    (IfOk-weaker c.insert.result _ _ (λ new writes. OnTrue_from new _ (λ is.
    part_written c.self.inside.parts c.args.number c.index-self-number.result c.self.invariant c.insert.new.self
    (Some c.raw.result) (OnTrue_at is writes))) c.insert.ensures.writes)

pub returns-clause-same : goal.returns-clause-same
returns-clause-same g c =
    rw (← c.self.view_is)
    (IfOk-weaker c.insert.result _ _ (λ new same. OnFalse_from new _ (λ is.
    same_written c.self.inside.parts c.args.number c.index-self-number.result c.self.invariant c.insert.new.self
    (λ other. ap (lookup (nat_eq other)) (OnFalse_at is same)))) c.insert.ensures.same)

pub returns-clause-taken : goal.returns-clause-taken
returns-clause-taken g c =
    rw (← c.self.view_is)
    (spare_used c.self.inside.parts c.args.number c.index-self-number.result c.self.invariant c.insert.new.self c.insert.ensures.taken)

pub returns-clause-succeeds : goal.returns-clause-succeeds
returns-clause-succeeds g c room =
    let spare = spare_here c.self.inside.parts c.args.number c.index-self-number.result c.self.invariant in
    let some = rw (← c.self.view_is) at room in
    c.insert.ensures.succeeds (omega (arith, spare, some))

pub returns-clause-refused : goal.returns-clause-refused
returns-clause-refused g c =
    rw (← c.self.view_is)
    (on_err_weaker c.insert.result (λ same.
    same_written c.self.inside.parts c.args.number c.index-self-number.result c.self.invariant c.insert.new.self
    (λ other. ap (lookup (nat_eq other)) same)) c.insert.ensures.refused)

pub returns-clause-kept : goal.returns-clause-kept
returns-clause-kept g c =
    rw (← c.self.view_is)
    (on_err_weaker c.insert.result
    (spares_kept c.self.inside.parts c.args.number c.index-self-number.result c.self.invariant c.insert.new.self) c.insert.ensures.kept)
