use Rattle.vlm_journal.proofs.GoingOn.{begins}
use Rattle.vlm_journal.proofs.journaled_core.JournaledCore.new.Goals as goal

pub invariant_of-result : goal.invariant_of-result
invariant_of-result c = rw (c.new.ensures.items, c.requires.start) begins
