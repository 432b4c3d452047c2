use Rattle.std.proofs.Common.{◌∙◌, ap, sym, subst}
use Rattle.std.specs.List.{All}
use Rattle.std.specs.Prelude.{slice_set}
use Rattle.std.proofs.lemmas.List.Elements.{All-set}
use Rattle.vlm_cycle.specs.Notes.{IsTarjanNode}
use Rattle.vlm_cycle.proofs.DatedNotes.{read_own}
use Rattle.vlm_cycle.proofs.ranks.Ranks.put.Goals as goal

pub returns-then-slot-len-clause-noted : goal.returns-then-slot-len-clause-noted
returns-then-slot-len-clause-noted c =
    read_own c.self.inside.search c.self.inside.notes.items c.slot-then-slot-len.result c.args.note
    ∙ ap (λ notes. slice_set notes c.slot-then-slot-len.result c.args.note) c.self.view_is
    ∙ ap (λ at. slice_set c.args.self.now at c.args.note) c.slot-then-slot-len.ensures

pub returns-then-slot-len-clause-there : goal.returns-then-slot-len-clause-there
returns-then-slot-len-clause-there c s are is =
    subst (All (IsTarjanNode s)) (sym (returns-then-slot-len-clause-noted c)) (All-set (IsTarjanNode s) c.args.self.now c.args.process c.args.note is are)
