use Rattle.vlm_journal.proofs.Appending.{lengthens}
use Rattle.vlm_journal.proofs.laws.law_entry.Goals as goal

pub returns-clause-more : goal.returns-clause-more
returns-clause-more c = lengthens
