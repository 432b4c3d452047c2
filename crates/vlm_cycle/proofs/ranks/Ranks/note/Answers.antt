use Rattle.std.proofs.Common.{arith, subst, sym}
use Rattle.std.proofs.lemmas.Grind.{common_steps}
use Rattle.vlm_cycle.specs.Notes.{IsTarjanNode}
use Rattle.vlm_cycle.proofs.DatedNotes.{note_there}
use Rattle.vlm_cycle.proofs.ranks.Ranks.note.Goals as goal

pub returns-in-Some-clause-note : goal.returns-in-Some-clause-note
returns-in-Some-clause-note c = grind (arith, common_steps)

pub returns-in-Some-clause-there : goal.returns-in-Some-clause-there
returns-in-Some-clause-there c s are = subst (IsTarjanNode s) (sym (returns-in-Some-clause-note c)) (note_there s c.args.self.now c.args.process are)
