use Rattle.vlm_journal.proofs.Departed.{departed_from, departs_by, stays_departed}
use Rattle.vlm_journal.proofs.laws.law_departed.Goals as goal

pub returns-clause-answered : goal.returns-clause-answered
returns-clause-answered c entries last journal = departed_from c.law_a_departed_node_is_answered_departed.ensures journal

pub returns-clause-departs : goal.returns-clause-departs
returns-clause-departs c base entries entry last journaled = departs_by c.law_a_departed_node_is_answered_departed.ensures entries entry journaled

pub returns-clause-since : goal.returns-clause-since
returns-clause-since c base entries more between last journaled journal = stays_departed c.law_a_departed_node_is_answered_departed.ensures journaled journal
