use Rattle.std.proofs.Common.{◌∙◌, ◌<◌, [], length, false, ap, set, sym, arith, ◌%◌}
use Rattle.std.specs.Prelude.{Bool, List}
use Rattle.std.proofs.lemmas.List.{get_or_default}
use Rattle.vlm_records.proofs.NodesMarked.{room_at, unwritten, written}
use Rattle.vlm_records.proofs.node_marks.NodeMarks.unmark.Goals as goal

pub unmark-requires : goal.unmark-requires
unmark-requires c =
    let nodes = c.self.inside.nodes in
    let here = get_or_default nodes c.in-Some.place c.index-self-place.result [] (omega (arith, c.self.invariant, c.in-Some.ensures.below)) in
    rw (c.process_ordinal.ensures, here) (room_at nodes c.args.pid c.in-Some.place (sym c.place_of.ensures.place
    ∙ c.in-Some.is) (rw (← c.self.view_is) at c.requires))

pub returns-in-Some : goal.returns-in-Some
returns-in-Some c =
    let nodes = c.self.inside.nodes in
    let within : c.in-Some.place < length c.self.inside.nodes = omega (arith, c.self.invariant, c.in-Some.ensures.below) in
    let here = get_or_default nodes c.in-Some.place c.index-self-place.result [] within in
    rw (← c.self.view_is)
    (written nodes c.in-Some.place within _ c.args.pid false (sym c.place_of.ensures.place ∙ c.in-Some.is) (rw (← c.self.view_is) at c.requires)
    ((rw c.process_ordinal.ensures at c.unmark.ensures) ∙ ap (λ (m : List Bool). set m (c.args.pid % 65536) false) here))

pub returns-in_default : goal.returns-in_default
returns-in_default c = unwritten c.args.self.now c.args.pid false (sym c.place_of.ensures.place ∙ c.in_default.is)
