use Rattle.std.proofs.Common.{◌∙◌, ◌≡◌, ◌<◌, ◌*◌, [], ap, sym, arith}
use Rattle.std.specs.Prelude.{position}
use Rattle.std.proofs.lemmas.List.{get_or_default}
use Rattle.vlm_records.specs.NodeMarks.{place_of}
use Rattle.vlm_records.proofs.NodesMarked.{first-none, first-some, first-unplaced}
use Rattle.vlm_records.proofs.node_marks.NodeMarks.first.Goals as goal

pub returns-in_err-place : goal.returns-in_err-place
returns-in_err-place c =
    let whole : c.args.node * 65536 ≡ c.process_id.result = omega (arith, c.process_id.ensures) in
    rw c.from_residual.ensures
    (first-unplaced c.args.self.now c.args.node (ap place_of whole ∙ sym c.place_of.ensures.place ∙ c.in_err-place.was))

pub returns-in_err-ordinal : goal.returns-in_err-ordinal
returns-in_err-ordinal c =
    let nodes = c.self.inside.nodes in
    let whole : c.args.node * 65536 ≡ c.process_id.result = omega (arith, c.process_id.ensures) in
    let place = ap place_of whole ∙ sym c.place_of.ensures.place ∙ c.in_ok-place.was in
    let here = get_or_default nodes c.in_ok-place.place c.index-self-place.result [] (omega (arith, c.self.invariant, c.in_ok-place.ensures.below)) in
    rw (c.from_residual-in_err-ordinal.ensures, ← c.self.view_is)
    (first-none nodes c.args.node c.in_ok-place.place place (ap (position (λ is_marked. is_marked)) (sym here) ∙ sym c.first.ensures ∙ c.in_err-ordinal.was))

pub returns : goal.returns
returns c =
    let nodes = c.self.inside.nodes in
    let whole : c.args.node * 65536 ≡ c.process_id.result = omega (arith, c.process_id.ensures) in
    let place = ap place_of whole ∙ sym c.place_of.ensures.place ∙ c.in_ok-place.was in
    let here = get_or_default nodes c.in_ok-place.place c.index-self-place.result [] (omega (arith, c.self.invariant, c.in_ok-place.ensures.below)) in
    let small : c.in_ok-ordinal.ordinal < 65536 = omega (arith, c.process_id-2.ensures) in
    rw (c.process_id-2.ensures, ← c.self.view_is)
    (first-some nodes c.args.node c.in_ok-place.place place c.in_ok-ordinal.ordinal small
    (ap (position (λ is_marked. is_marked)) (sym here) ∙ sym c.first.ensures ∙ c.in_ok-ordinal.was))
