use Rattle.vlm_model.specs.Laws.{EachRequestEndsOnce}
use Rattle.vlm_cluster.proofs.Throughout.{throughout}
use Rattle.vlm_cluster.proofs.laws.law_requests_end_once.Goals as goal

pub returns : goal.returns
returns c entries last journal =
    throughout (λ history state. EachRequestEndsOnce history.endings state) c.law_join.ensures c.law_journal.ensures
    c.law_each_request_ends_once.ensures entries last journal
