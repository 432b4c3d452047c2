use Rattle.std.proofs.Common.{◌∙◌, ap, sym, false, replicate}
use Rattle.std.proofs.lemmas.List.Quantifiers.{position-Some}
use Rattle.vlm_collections.proofs.Cleared.{all_clear, one_less}
use Rattle.vlm_collections.proofs.marks.Marks.clear.Goals as goal

-- one mark less
pub loop-number-smaller : goal.loop-number-smaller
loop-number-smaller c =
    let at = position-Some (λ m. m) c.loop-number.self c.in-Some.number false (sym c.first.ensures ∙ c.in-Some.is) in
    rw c.unmark.ensures (one_less c.loop-number.self c.in-Some.number at.1)

pub returns : goal.returns
returns c =
    all_clear c.loop-number.self (sym c.first.ensures ∙ c.in_default.is) ∙ ap (λ many. replicate many false) c.loop-number.invariant
