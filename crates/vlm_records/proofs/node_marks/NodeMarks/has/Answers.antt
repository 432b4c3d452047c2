use Rattle.std.proofs.Common.{◌∙◌, ◌%◌, [], sym, ap, false, arith}
use Rattle.std.specs.Prelude.{Bool, List, slice_index_or}
use Rattle.std.proofs.lemmas.List.{get_or_default}
use Rattle.vlm_records.specs.NodeMarks.{is_marked}
use Rattle.vlm_records.proofs.NodesMarked.{marked_at}
use Rattle.vlm_records.proofs.NodesCleared.{unplaced_unmarked}
use Rattle.vlm_records.proofs.node_marks.NodeMarks.has.Goals as goal

pub returns-in-Some : goal.returns-in-Some
returns-in-Some c =
    let nodes = c.self.inside.nodes in
    let here = get_or_default nodes c.in-Some.place c.index-self-place.result [] (omega (arith, c.self.invariant, c.in-Some.ensures.below)) in
    (rw c.process_ordinal.ensures at c.has.ensures) ∙ ap (λ (m : List Bool). slice_index_or m (c.args.pid % 65536) false) here
    ∙ sym (marked_at nodes c.args.pid c.in-Some.place (sym c.place_of.ensures.place ∙ c.in-Some.is))
    ∙ ap (λ (n : List (List Bool)). is_marked n c.args.pid) c.self.view_is

pub returns-in-None : goal.returns-in-None
returns-in-None c = unplaced_unmarked c.args.self.now c.args.pid (sym c.place_of.ensures.place ∙ c.in-None.is)
