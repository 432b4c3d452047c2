use Rattle.vlm_model.proofs.EndedProcesses.{told_no_more_always}
use Rattle.vlm_model.proofs.histories.law_an_ended_process_is_told_no_more.Goals as goal

pub returns : goal.returns
returns c = told_no_more_always c.law_what_is_queued_is_taken_or_pending.ensures
