use Rattle.std.proofs.Common.{◌∙◌, Some, ap, sym}
use Rattle.vlm_collections.proofs.IndexParts.{found_here}
use Rattle.vlm_collections.proofs.parted.PartedIndex.get.Goals as goal

pub returns : goal.returns
returns g c =
    rw (← c.self.view_is)
    (ap Some c.from_raw.ensures ∙ sym (c.in_ok-at.was) ∙ c.get.ensures
    ∙ sym (found_here c.self.inside.parts c.args.number c.index-self-number.result c.self.invariant))

pub returns-in_err-at : goal.returns-in_err-at
returns-in_err-at g c =
    rw (← c.self.view_is)
    (c.from_residual.ensures ∙ sym (c.in_err-at.was) ∙ c.get.ensures
    ∙ sym (found_here c.self.inside.parts c.args.number c.index-self-number.result c.self.invariant))
