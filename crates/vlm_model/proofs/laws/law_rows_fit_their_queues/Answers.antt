use Rattle.vlm_model.proofs.RowsFit.{rows_fit_always}
use Rattle.vlm_model.proofs.laws.law_rows_fit_their_queues.Goals as goal

pub returns : goal.returns
returns c = rows_fit_always
