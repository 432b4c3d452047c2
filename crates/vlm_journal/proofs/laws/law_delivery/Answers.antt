use Rattle.vlm_journal.proofs.Delivery.{gives_ast}
use Rattle.vlm_journal.proofs.laws.law_delivery.Goals as goal

pub returns : goal.returns
returns c history last run =
    gives_ast history last (c.law_a_departed_node_is_answered_departed.ensures history last run)
    (c.law_no_process_of_a_departed_node_lives.ensures history last run)
    (c.law_process_ids_rise.ensures history last run)
